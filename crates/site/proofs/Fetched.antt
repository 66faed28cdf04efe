-- What the books in memory show does not depend on what was fetched.
use Rattle.std.proofs.Common.{ℕ, Bool, true, false, cond, eqb, List, [], ◌∷◌}
use Rattle.account.specs.Books.{Station, change, fetched}
use Rattle.readers.specs.Pairs.{Changes, Paired}
use Rattle.readers.specs.Readers.{Kept, ShowsReader}
use Rattle.rules.specs.declared.message.Message.{Message}
use Rattle.rules.specs.declared.records.Arrival.{Arrival}

-- a change that every partner may suffer
pub paired_changed : {S : Type 0} (R : S → Station → Type 0) (a : ℕ) (f : Station → Station) → ((x : S) (s : Station) → R x s → R x (f s))
    → (xs : List S) (ys : List Station) → Paired R xs ys → Paired R xs (change a f ys)
paired_changed R a f k [] [] p = tt
paired_changed R a f k [] (y ∷ ys) p = absurd p
paired_changed R a f k (x ∷ xs) [] p = absurd p
paired_changed R a f k (x ∷ xs) (y ∷ ys) p = (go (eqb y.reader.address a), paired_changed R a f k xs ys p.1)
  where
    go : (z : Bool) → R x (cond z (f y) y)
    go true = k x y p.0
    go false = p.0

with_fetched : List Message → Station → Station
with_fetched l s = record {
  reader = s.reader;
  down = s.down;
  up = record { offered = s.up.offered; waiting1 = s.up.waiting1; waiting2 = s.up.waiting2; handed = s.up.handed; arrived = s.up.arrived; fetched = l };
}

still_shows : (l : List Message) (x : Kept) (s : Station) → ShowsReader x s → ShowsReader x (with_fetched l s)
unfolding with_fetched
still_shows l x s h =
    let u = h.1.1 in (
      h.0,
      (
        h.1.0,
        record {
          accepted = u.accepted;
          offers = u.offers;
          waiting1 = u.waiting1;
          waiting2 = u.waiting2;
          newest = u.newest;
          arrived = u.arrived;
          given1 = u.given1;
          given2 = u.given2;
          given = u.given;
        },
      ),
    )

pub fetched_shows : (l : List Arrival) (xs : List Kept) → Changes ShowsReader xs xs (fetched l)
unfolding with_fetched
fetched_shows [] xs ys apart p = p
fetched_shows (m ∷ ms) xs ys apart p = paired_changed ShowsReader m.station _ (λ x s h. still_shows (m.message ∷ s.up.fetched) x s h) xs ys p
