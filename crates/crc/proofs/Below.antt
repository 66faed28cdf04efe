-- A rule of every number below a bound, by one test that computes, one number after the other.
use Rattle.std.proofs.Common.{◌≡◌, ℕ, zero, suc, ◌<◌, Bool, true, ◌&&◌, eqb, ap, ◌∙◌, inl, inr, le_of_suc-le-suc, eq-or-lt_of_le, arith}
use Rattle.std.proofs.lemmas.Bool.{and_parts, eqb-true}

unfoldable pub below : (ℕ → Bool) → ℕ → Bool
below f zero = true
below f (suc n) = f n && below f n

at : (f : ℕ → Bool) (n : ℕ) → below f n ≡ true → (k : ℕ) → k < n → f k ≡ true
unfolding below
at f zero t k h = absurd (omega arith)
at f (suc n) t k h =
    let ts : (f n ≡ true) × (below f n ≡ true) = and_parts (f n) (below f n) t in
    elim (eq-or-lt_of_le (le_of_suc-le-suc h)) [ inl e ↦ ap f e ∙ ts.0 | inr l ↦ at f n ts.1 k l ]

-- two functions agree below n
pub agree : (f g : ℕ → ℕ) (n : ℕ) → below (λ k. eqb (f k) (g k)) n ≡ true → (k : ℕ) → k < n → f k ≡ g k
agree f g n t k h = eqb-true (f k) (g k) (at (λ m. eqb (f m) (g m)) n t k h)
