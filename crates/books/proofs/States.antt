-- Lists of states, and a change of one of them.
use Rattle.std.proofs.Common.{◌≡◌, ℕ, zero, suc, ◌-◌, ◌≤◌, Bool, true, false, cond, eqb, List, [], ◌∷◌, ◌++◌, reverse, length, get_or, set, sym, refl, ap, ◌∙◌, subst, ⊎_elim, arith}
use mathlib.Core.List.{reverse-cons}
use lib.Dec.{eqb-zero-suc}
use Rattle.account.specs.declared.books.OfferState.{OfferState}
use Rattle.books.specs.Seen.{with_state}
use Rattle.std.proofs.lemmas.List.{get_or-set_other, get_or-set_same, length_push, length-set, set_at}
use Rattle.std.proofs.lemmas.Bool.{cases_eq, cond-false, cond-true, eq-eqb, ne_eqb}

-- the last of a list is the first of it from behind
pub set_last : {A : Type 0} (l : List A) (y x : A) → set (reverse (y ∷ l)) (length (reverse (y ∷ l)) - 1) x ≡ reverse (x ∷ l)
set_last l y x =
    let place : length (reverse l) ≡ length (reverse l ++ (y ∷ [])) - 1 = omega (arith, length_push (reverse l) y) in
    ap (λ k. set k (length k - 1) x) (reverse-cons y l) ∙ set_at (reverse l) y [] x _ place ∙ sym (reverse-cons x l)

pub with_state_length : (n : ℕ) (s : OfferState) (l : List OfferState) → length (with_state n s l) ≡ length l
with_state_length zero s l = refl
with_state_length (suc n) s l = length-set l n s

-- a number that an offer has, or that of none: that offer has the state, every other is as it was
pub with_state_at :
    (n : ℕ) (s : OfferState) (l : List OfferState) (k : ℕ) (d : OfferState) →
    n ≤ length l →
    get_or (with_state n s l) k d ≡ cond (eqb n (suc k)) s (get_or l k d)
with_state_at zero s l k d h = sym (cond-false (eqb zero (suc k)) s (get_or l k d) (eqb-zero-suc k))
with_state_at (suc n) s l k d h =
    ⊎_elim
    (λ e. let F : ℕ → Type 0 = λ i. get_or (set l n s) i d ≡ cond (eqb (suc n) (suc i)) s (get_or l i d) in
    subst F (sym e) (get_or-set_same l n s d (omega arith) ∙ sym (cond-true (eqb (suc n) (suc n)) s (get_or l n d) (eq-eqb (suc n) (suc n) refl))))
    (λ other. get_or-set_other l n k s d other ∙ sym (cond-false (eqb (suc n) (suc k)) s (get_or l k d) (ne_eqb (suc n) (suc k) (λ e. other (omega arith)))))
    (cases_eq k n)

-- one more of what stands past the end
pub getD_more : {A : Type 0} (l : List A) (k : ℕ) (d : A) → get_or (l ++ (d ∷ [])) k d ≡ get_or l k d
getD_more [] zero d = refl
getD_more [] (suc k) d = refl
getD_more (x ∷ l) zero d = refl
getD_more (x ∷ l) (suc k) d = getD_more l k d

pub cond_again : {A : Type 0} (b : Bool) (x y z : A) → cond b x (cond b y z) ≡ cond b x z
cond_again true x y z = refl
cond_again false x y z = refl
