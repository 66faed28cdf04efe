-- Readers by their place in the list, for a line that is kept in memory so.
use Rattle.std.proofs.Common.{◌≡◌, ℕ, zero, suc, ◌<◌, false, cond, eqb, List, [], ◌∷◌, length, get_or, set, Some, None, refl, ap, ◌∙◌, arith}
use Rattle.account.proofs.Invariant.{inv_new, inv_run}
use Rattle.account.proofs.Stations.{Distinct, address_of, own, turned_round}
use Rattle.account.proofs.Valid.{new_valid}
use Rattle.account.specs.Account.{Apart}
use Rattle.account.specs.Books.{Station, change, found}
use Rattle.account.specs.Line.{Run, World, begin, new_world, then}
use Rattle.frame.specs.Laws.{GuardLaw, VerdictLaw}
use Rattle.frame.specs.declared.Format.{Ghosts}
use Rattle.rules.specs.declared.records.ReaderPlan.{ReaderPlan}
use Rattle.std.specs.List.{AllByRecursion}

-- what holds of each holds of the one at a place
pub all_at : {X : Type 0} (P : X → Type 0) (l : List X) (i : ℕ) (d : X) → i < length l → AllByRecursion P l → P (get_or l i d)
all_at P [] i d h p = let w : ⊥ = omega arith in absurd w
all_at P (x ∷ l) zero d h p = p.0
all_at P (x ∷ l) (suc i) d h p = all_at P l i d (omega arith) p.1

-- an address that no reader has
pub found_none : (a : ℕ) (l : List Station) → AllByRecursion (λ s. eqb (address_of s) a ≡ false) l → found a l ≡ None
found_none a [] h = refl
found_none a (s ∷ l) h = ap (λ z. cond z (Some s) (found a l)) h.0 ∙ found_none a l h.1

pub change_none : (a : ℕ) (f : Station → Station) (l : List Station) → AllByRecursion (λ s. eqb (address_of s) a ≡ false) l → change a f l ≡ l
change_none a f [] h = refl
change_none a f (s ∷ l) h = ap (λ z. cond z (f s) s ∷ change a f l) h.0 ∙ ap (λ k. s ∷ k) (change_none a f l h.1)

-- the reader at a place is found under its address, and a change of that address changes that place
pub found_at : (l : List Station) (i : ℕ) (d : Station) → Distinct l → i < length l → found (address_of (get_or l i d)) l ≡ Some (get_or l i d)
found_at [] i d p h = let w : ⊥ = omega arith in absurd w
found_at (s ∷ l) zero d p h = ap (λ z. cond z (Some s) (found (address_of s) l)) (own (address_of s))
found_at (s ∷ l) (suc i) d p h =
    let e = all_at (λ t. eqb (address_of t) (address_of s) ≡ false) l i d (omega arith) p.0 in
    ap (λ z. cond z (Some s) (found (address_of (get_or l i d)) l)) (turned_round (address_of (get_or l i d)) (address_of s) false e) ∙ found_at l i d p.1 (omega arith)

pub change_at : (f : Station → Station) (l : List Station) (i : ℕ) (d : Station) → Distinct l → i < length l → change (address_of (get_or l i d)) f l ≡ set l i (f (get_or l i d))
change_at f [] i d p h = let w : ⊥ = omega arith in absurd w
change_at f (s ∷ l) zero d p h =
    ap (λ z. cond z (f s) s ∷ change (address_of s) f l) (own (address_of s)) ∙ ap (λ k. f s ∷ k) (change_none (address_of s) f l p.0)
change_at f (s ∷ l) (suc i) d p h =
    let e = all_at (λ t. eqb (address_of t) (address_of s) ≡ false) l i d (omega arith) p.0 in
    ap (λ z. cond z (f s) s ∷ change (address_of (get_or l i d)) f l) (turned_round (address_of (get_or l i d)) (address_of s) false e)
    ∙ ap (λ k. s ∷ k) (change_at f l i d p.1 (omega arith))

module _ {X : Type 0} (F : Ghosts X) where
  -- a run and a run from there are a run
  pub run_on : {u v w : World} → Run F u v → Run F v w → Run F u w
  run_on r begin = r
  run_on r (then q e lim) = then (run_on r q) e lim

  -- the addresses of a line stay apart
  pub stay_apart : VerdictLaw F.frame F.verdict → GuardLaw F.width F.guard F.frame → (r i j : ℕ) (readers : List ReaderPlan) → Apart readers → (w : World)
      → Run F (new_world r i j readers) w → Distinct w.stations
  stay_apart exact guarded r i j readers apart w run = (inv_run F exact guarded run (new_valid r i j readers apart) (inv_new r i j readers apart)).apart
