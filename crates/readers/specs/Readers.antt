-- Readers by their addresses, in memory and on the line.
use Rattle.std.specs.Prelude.{◌≡◌, ℕ, suc, cond, List, [], ◌∷◌, ◌++◌, map, Some, None, vec_items, Option, IfSome, ◌==◌}
use Rattle.account.specs.Books as account
use Rattle.account.specs.Books.{newest_hand_out}
use Rattle.account.specs.Line.{new_station}
use Rattle.books.specs.Seen.{Seen}
use Rattle.books.specs.Shows.{Shows}
use Rattle.readers.specs.declared.Readers.{Readers}
use Rattle.rules.specs.Reader.{Reader}
use Rattle.rules.specs.declared.records.ReaderPlan.{ReaderPlan}
use Rattle.station.specs.Shown.{Ready, books_of, reader_of}
use Rattle.station.specs.declared.Station.{Station}
use Rattle.std.specs.Option.{option_map}

-- ## in memory

-- A reader as the rules speak of it, and what its books show.
pub record Kept : Type 0 where
  pub reader : Reader
  pub books : Seen

abbrev pub kept : {F : Type 0} → Station F → Kept
kept x = record { reader = reader_of x; books = books_of x }

-- the readers, in the order in which they joined
abbrev pub readers : {F : Type 0} → Readers F → List Kept
readers r = map kept (vec_items r.all)

-- where an address stands, counted from 0
abbrev pub place : ℕ → List ℕ → Option ℕ
place a [] = None
place a (b ∷ l) = cond (b == a) (Some 0) (option_map suc (place a l))

abbrev pub place_of : ℕ → List Kept → Option ℕ
place_of a l = place a (map (λ x. x.reader.address) l)

-- the reader of an address
abbrev pub at : ℕ → List Kept → Option Kept
at a [] = None
at a (x ∷ l) = cond (x.reader.address == a) (Some x) (at a l)

-- the same of the readers as the code has them
abbrev pub station_at : {F : Type 0} → ℕ → List (Station F) → Option (Station F)
station_at a [] = None
station_at a (x ∷ l) = cond ((reader_of x).address == a) (Some x) (station_at a l)

-- the readers after the one of an address, if there is one, became another
abbrev pub replaced : {F : Type 0} → ℕ → Station F → List (Station F) → List (Station F)
replaced a w [] = []
replaced a w (x ∷ l) = cond ((reader_of x).address == a) (w ∷ l) (x ∷ replaced a w l)

-- it has room in memory for one more entry in every book
abbrev pub ReadyAt : {F : Type 0} → ℕ → Readers F → Type 0
ReadyAt a r = IfSome (station_at a (vec_items r.all)) Ready

-- ## on the line

-- the reader is the account's, and its books show the account's
abbrev pub ShowsReader : Kept → account.Station → Type 0
ShowsReader x s = (x.reader ≡ s.reader) × Shows x.books s

-- one reader more, which is new
abbrev pub Added : ReaderPlan → List Kept → List Kept → Type 0
Added f l m = (x : Kept) × (m ≡ l ++ x ∷ []) × ShowsReader x (new_station f)

-- the number of what a reader, if there is one, handed out last
abbrev pub handed_by : Option account.Station → ℕ
handed_by None = 0
handed_by (Some s) = newest_hand_out s.up.handed
