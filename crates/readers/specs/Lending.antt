-- What the readers become when one of them is lent.
use Rattle.std.specs.Prelude.{◌≡◌, ℕ, Option}
use Rattle.std.specs.Borrow.{Fml, Lends, LendsSo, MutBor, RattleType}
use Rattle.std.specs.Vec.{with_item}
use Rattle.readers.specs.Readers.{replaced}
use Rattle.readers.specs.contracts.Readers.{the_row}
use Rattle.readers.specs.declared.Readers.{Readers}
use Rattle.station.specs.contracts.Station as station
use Rattle.station.specs.declared.Station.{Station}

module _ (F : RattleType) (r : MutBor (Readers F.Denot)) where
  -- the reader at a place becomes what is left behind x
  abbrev pub lends_place : ℕ → MutBor (Station F.Denot) → Fml
  lends_place i x = Lends (the_row F) (station.the_row F) r x (λ w. record { all = with_item r.now.all i w })

  -- the same of the reader of an address, and nothing changes where there is none
  abbrev pub lends_station : ℕ → Option (MutBor (Station F.Denot)) → Fml
  lends_station a x = LendsSo (the_row F) (station.the_row F) r x (λ n w. n.all.items ≡ replaced a w r.now.all.items) (λ n. n ≡ r.now)
