-- The readers of a line by their addresses: the one that is found, a change of it, and its partner in memory.
use Rattle.std.proofs.Common.{◌≡◌, ℕ, zero, suc, ◌<◌, ◌≤◌, Bool, true, false, cond, eqb, List, [], ◌∷◌, length, get_or, Some, sym, refl, ap, ◌∙◌, subst, ap₂, arith}
use Rattle.account.specs.Books.{Station, change, found}
use Rattle.readers.specs.Pairs.{Paired, Spaced, addresses}
use Rattle.rules.specs.Messages.{within}
use Rattle.std.proofs.ByRecursion.{All-get_or}
use Rattle.std.proofs.lemmas.Bool.{eqb-false, eqb-true}
use Rattle.std.proofs.lemmas.Bool.Decides.{nat_tests}
use Rattle.std.specs.List.{AllByRecursion}
use Rattle.std.proofs.lemmas.Option.{same_Some}

abbrev address_of : Station → ℕ
address_of s = s.reader.address

-- ## addresses

within_few : (a : ℕ) → within 1 32 a ≡ true → (1 ≤ a) × (a < 33)
within_few a k = (grind (arith, nat_tests), grind (arith, nat_tests))

pub spaced_few : (l : List ℕ) (i : ℕ) → Spaced l → i < length l → (1 ≤ get_or l i 0) × (get_or l i 0 < 33)
spaced_few [] i s h = absurd (omega arith)
spaced_few (a ∷ l) zero s h = within_few a s.0
spaced_few (a ∷ l) (suc i) s h = spaced_few l i s.2 (omega arith)

pub spaced_other : (l : List ℕ) (i j : ℕ) → Spaced l → i < length l → j < length l → (j ≡ i → ⊥) → get_or l j 0 ≡ get_or l i 0 → ⊥
spaced_other [] i j s h g n e = omega arith
spaced_other (a ∷ l) zero zero s h g n e = n refl
spaced_other (a ∷ l) zero (suc j) s h g n e = eqb-false (get_or l j 0) a (All-get_or (λ b. eqb b a ≡ false) l j 0 (omega arith) s.1) e
spaced_other (a ∷ l) (suc i) zero s h g n e = eqb-false (get_or l i 0) a (All-get_or (λ b. eqb b a ≡ false) l i 0 (omega arith) s.1) (sym e)
spaced_other (a ∷ l) (suc i) (suc j) s h g n e = spaced_other l i j s.2 (omega arith) (omega arith) (λ q. n (ap suc q)) e

-- ## the reader of an address

pub change_none : (a : ℕ) (f : Station → Station) (l : List Station) → AllByRecursion (λ b. eqb b a ≡ false) (addresses l) → change a f l ≡ l
change_none a f [] h = refl
change_none a f (s ∷ l) h = ap₂ (λ z r. cond z (f s) s ∷ r) h.0 (change_none a f l h.1)

-- no reader in memory has this address
pub none_there : {S : Type 0} (R : S → Station → Type 0) (xs : List S) (ys : List Station) (a : ℕ) → Paired R xs ys
    → AllByRecursion (λ x. (s : Station) → R x s → eqb (address_of s) a ≡ false) xs → AllByRecursion (λ b. eqb b a ≡ false) (addresses ys)
none_there R [] [] a p h = tt
none_there R [] (y ∷ ys) a p h = absurd p
none_there R (x ∷ xs) [] a p h = absurd p
none_there R (x ∷ xs) (y ∷ ys) a p h = (h.0 y p.0, none_there R xs ys a p.1 h.1)

-- two changes that do the same to the reader of an address
pub change_alike : (a : ℕ) (f g : Station → Station) (l : List Station) (s : Station) → Spaced (addresses l) → found a l ≡ Some s → f s ≡ g s → change a f l ≡ change a g l
change_alike a f g [] s p e q = refl
change_alike a f g (t ∷ l) s p e q = go (eqb (address_of t) a) refl e (λ d. change_alike a f g l s p.2 d q)
  where
    go : (z : Bool) → eqb (address_of t) a ≡ z → cond z (Some t) (found a l) ≡ Some s → (found a l ≡ Some s → change a f l ≡ change a g l)
        → cond z (f t) t ∷ change a f l ≡ cond z (g t) t ∷ change a g l
    go true is d k =
        let n = subst (λ b. AllByRecursion (λ c. eqb c b ≡ false) (addresses l)) (eqb-true (address_of t) a is) p.1 in
        let same : f t ≡ g t = subst (λ u. f u ≡ g u) (sym (same_Some _ _ d)) q in
        ap₂ ◌∷◌ same (change_none a f l n ∙ sym (change_none a g l n))
    go false is d k = ap (λ r. t ∷ r) (k d)

-- a change that does nothing
pub change_nothing : (a : ℕ) (f : Station → Station) (l : List Station) → ((s : Station) → f s ≡ s) → change a f l ≡ l
change_nothing a f [] n = refl
change_nothing a f (s ∷ l) n = ap₂ ◌∷◌ (go (eqb (address_of s) a)) (change_nothing a f l n)
  where
    go : (z : Bool) → cond z (f s) s ≡ s
    go true = n s
    go false = refl
