-- Lists, place by place: one list, and two whose elements are in pairs.
use Rattle.std.proofs.Common.{◌≡◌, ℕ, zero, suc, ◌<◌, List, [], ◌∷◌, ◌++◌, length, set, Some, refl, ap, arith}
use Rattle.readers.specs.Pairs.{Paired}
use Rattle.std.specs.List.{slice_get}

-- ## one list

pub nth_front : {A : Type 0} (xs ys : List A) (k : ℕ) → k < length xs → slice_get (xs ++ ys) k ≡ slice_get xs k
nth_front [] ys k h = absurd (omega arith)
nth_front (x ∷ xs) ys zero h = refl
nth_front (x ∷ xs) ys (suc k) h = nth_front xs ys k (omega arith)

pub nth_last : {A : Type 0} (xs : List A) (x : A) (k : ℕ) → k ≡ length xs → slice_get (xs ++ x ∷ []) k ≡ Some x
nth_last [] x zero h = refl
nth_last [] x (suc k) h = absurd (omega arith)
nth_last (y ∷ xs) x zero h = absurd (omega arith)
nth_last (y ∷ xs) x (suc k) h = nth_last xs x k (omega arith)

pub nth_set_same : {A : Type 0} (xs : List A) (x : A) (k : ℕ) → k < length xs → slice_get (set xs k x) k ≡ Some x
nth_set_same [] x k h = absurd (omega arith)
nth_set_same (y ∷ xs) x zero h = refl
nth_set_same (y ∷ xs) x (suc k) h = nth_set_same xs x k (omega arith)

pub nth_set_other : {A : Type 0} (xs : List A) (x : A) (k j : ℕ) → (j ≡ k → ⊥) → slice_get (set xs k x) j ≡ slice_get xs j
nth_set_other [] x k j n = refl
nth_set_other (y ∷ xs) x zero zero n = absurd (n refl)
nth_set_other (y ∷ xs) x zero (suc j) n = refl
nth_set_other (y ∷ xs) x (suc k) zero n = refl
nth_set_other (y ∷ xs) x (suc k) (suc j) n = nth_set_other xs x k j (λ e. n (ap suc e))

-- ## two lists in pairs

module _ {A B : Type 0} (R : A → B → Type 0) where
  pub paired_push : (xs : List A) (ys : List B) (x : A) (y : B) → Paired R xs ys → R x y → Paired R (xs ++ x ∷ []) (ys ++ y ∷ [])
  paired_push [] [] x y p r = (r, tt)
  paired_push [] (z ∷ ys) x y p r = absurd p
  paired_push (z ∷ xs) [] x y p r = absurd p
  paired_push (w ∷ xs) (z ∷ ys) x y p r = (p.0, paired_push xs ys x y p.1 r)
