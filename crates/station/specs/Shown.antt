-- How a station of the code shows a station of the account.
use Rattle.std.specs.Prelude.{◌≡◌, ℕ, Ok, Err, vec_items, Result}
use Rattle.account.specs.Books as account
use Rattle.books.specs.Ready as books
use Rattle.books.specs.Seen.{Seen, seen}
use Rattle.books.specs.Shows.{Shows}
use Rattle.fault.specs.declared.Fault.{Fault}
use Rattle.reader.specs.View.{view}
use Rattle.rules.specs.Reader as rules
use Rattle.rules.specs.Reader.{Turn}
use Rattle.station.specs.declared.Station.{Station}

-- its reader, as the rules speak of it
abbrev pub reader_of : {F : Type 0} → Station F → rules.Reader
reader_of x = view vec_items x.reader

-- what its books show
abbrev pub books_of : {F : Type 0} → Station F → Seen
books_of x = seen x.books

-- its reader is the account's, and its books show the account's
abbrev pub Shown : {F : Type 0} → Station F → account.Station → Type 0
Shown x s = (reader_of x ≡ s.reader) × Shows (books_of x) s

-- whatever it showed before, it shows that after this change
abbrev pub ShownChange : {F : Type 0} → Station F → Station F → (account.Station → account.Station) → Type 0
ShownChange x y f = (s : account.Station) → Shown x s → Shown y (f s)

-- it has room in memory for one more entry in every book
abbrev pub Ready : {F : Type 0} → Station F → Type 0
Ready x = books.Ready x.books

-- a station of the account after a hearing, by the number of the burst
abbrev pub heard : ℕ → Result Turn Fault → account.Station → account.Station
heard n (Err f) s = s
heard n (Ok t) s = account.turned n t s
