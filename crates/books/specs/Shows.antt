-- How the books in memory, which have numbers and states, show the books of the account, which have the messages too.
use Rattle.std.specs.Prelude.{◌≡◌, ℕ, suc, ◌≤◌, List, map, reverse, length, slice_index_or}
use Rattle.account.specs.Books.{Down, Up, Station, newest_hand_out, newest_sent, offer_state}
use Rattle.account.specs.declared.books.Item.{Item}
use Rattle.account.specs.declared.books.OfferState.TheVariants.{Waiting}
use Rattle.books.specs.Seen.{Seen, SeenDown, SeenUp}
use Rattle.std.specs.List.{AllByRecursion}

-- the numbers of items
abbrev pub numbers : List Item → List ℕ
numbers l = map (λ i. i.number) l

-- the states of the sends and the numbers of what entered are the account's; the number of the newest send is how many there are
pub record ShowsDown (v : SeenDown) (d : Down) : Type 0 where
  pub sends : v.sends ≡ reverse (map (λ s. s.state) d.sends)
  pub newest : length v.sends ≡ newest_sent d.sends
  pub entered : v.entered ≡ reverse (numbers d.entered)

-- a number that an accepted offer has, or 0
abbrev pub Given : SeenUp → ℕ → Type 0
Given v n = n ≤ length v.offers

-- the states of the offers, and the numbers of what waits, was handed out last and arrived, are the account's; no number is made up
pub record ShowsUp (v : SeenUp) (u : Up) : Type 0 where
  pub accepted : length v.offers ≡ length u.offered
  pub offers : (n : ℕ) → slice_index_or v.offers n Waiting ≡ offer_state (suc n) u.handed
  pub waiting1 : v.waiting1 ≡ numbers u.waiting1
  pub waiting2 : v.waiting2 ≡ numbers u.waiting2
  pub newest : v.newest ≡ newest_hand_out u.handed
  pub arrived : v.arrived ≡ reverse (numbers u.arrived)
  pub given1 : AllByRecursion (Given v) v.waiting1
  pub given2 : AllByRecursion (Given v) v.waiting2
  pub given : Given v v.newest

abbrev pub Shows : Seen → Station → Type 0
Shows v s = ShowsDown v.down s.down × ShowsUp v.up s.up
