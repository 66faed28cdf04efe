-- That a run can bring something about: over every format a send comes through, and so does an offer.
use Rattle.std.specs.Prelude.{◌≡◌, ℕ, List, [], ◌∷◌, Some, None, Option}
use Rattle.account.specs.Books.{Station, found}
use Rattle.account.specs.Line.{Run, World, new_world}
use Rattle.account.specs.declared.books.Item.{Item}
use Rattle.account.specs.declared.books.OfferState.TheVariants.{Marked}
use Rattle.account.specs.declared.books.SendState.TheVariants.{Ended}
use Rattle.frame.specs.declared.Format.{Ghosts}
use Rattle.rules.specs.Messages.{message_of}
use Rattle.rules.specs.declared.records.Class.TheVariants.{First}
use Rattle.rules.specs.declared.records.Mark.TheVariants.{Settled}
use Rattle.rules.specs.declared.records.Outcome.TheVariants.{Confirmed}
use Rattle.rules.specs.declared.records.ReaderPlan.{ReaderPlan}

-- item 1, a message of one octet
abbrev pub first_item : ℕ → Item
first_item octet = record { number = 1; message = message_of (octet ∷ []) }

-- the books of a reader to which 65 was sent, and which offered 66 of class 1: both came through, and the books say so
pub record CameThrough (s : Station) : Type 0 where
  pub sends : s.down.sends ≡ record { item = first_item 65; state = Ended Confirmed } ∷ []
  pub entered : s.down.entered ≡ first_item 65 ∷ []
  pub handed : s.up.handed ≡ record { offer = record { item = first_item 66; class = First }; state = Marked Settled } ∷ []
  pub arrived : s.up.arrived ≡ first_item 66 ∷ []

-- there is such a reader, and its books are these
abbrev pub Comes : Option Station → Type 0
Comes None = ⊥
Comes (Some s) = CameThrough s

-- one reader, of address 5
abbrev pub one_reader : List ReaderPlan
one_reader = record { address = 5; class1 = 2; class2 = 2; inbox = 2 } ∷ []

-- a run of a line with that reader ends so
pub record ComesThrough {X : Type 0} (F : Ghosts X) : Type 0 where
  pub world : World
  pub run : Run F (new_world 3 4 4 one_reader) world
  pub came : Comes (found 5 world.stations)
