-- A polynomial with 1 to 5 coefficients, of degree below 144, is no multiple of the generator.
-- Divide it by its highest power: then 1 and at most four of 1/x, .., 1/x^143 add up to 0. Each of these has an odd count of ones, so there are
-- one or three of them, which the tests on the powers rule out.
use Rattle.std.proofs.Common.{◌≡◌, ℕ, zero, suc, ◌+◌, ◌*◌, ◌/◌, ◌%◌, ◌^◌, ◌<◌, ◌≤◌, Bool, true, false, eqb, List, [], ◌∷◌, length, sym, refl, ap, ◌∙◌, ap₂, arith, lit<}
use lib.Arith.{bin_ind}
use lib.Bits.{bit_xor, xor_assoc, xor_self, xor_zero_r, xor_shr, xor_mod, xor_add_and}
use lib.Count.{ones, ones_in, ones_step}
use Rattle.std.proofs.lemmas.Bool.{and_parts, both_ways, eq-eqb, not-true}
use Rattle.crc.specs.Check.{generator, bring_down, remainder}
use Rattle.crc.proofs.Inverses.{back, Trie, has, holds, no_sum, inverses, holds_all, not_one, not_three}
use Rattle.crc.proofs.Linear.{xor_swap, xor_cancel, times_bit, bring_lt, bring_xor}
use Rattle.crc.proofs.Numbers.{weight, ones_by}

-- ---- division by x

pub back_xor : (a b : ℕ) → back (bit_xor a b) ≡ bit_xor (back a) (back b)
unfolding back
back_xor a b =
    ap (λ (t : ℕ). bit_xor (bit_xor a b) (t * generator) / 2) (xor_mod a b 1)
    ∙ ap (λ (t : ℕ). bit_xor (bit_xor a b) t / 2) (times_bit (a % 2) (b % 2) (omega arith) (omega arith))
    ∙ ap (λ (t : ℕ). t / 2) (xor_swap a b (a % 2 * generator) (b % 2 * generator))
    ∙ xor_shr (bit_xor a (a % 2 * generator)) (bit_xor b (b % 2 * generator)) 1

back_even : (r : ℕ) → back (r * 2 + 0) ≡ r
unfolding back
back_even r =
    let even : (r * 2 + 0) % 2 ≡ 0 = omega arith in
    let half : (r * 2 + 0) / 2 ≡ r = omega arith in
    ap (λ (t : ℕ). bit_xor (r * 2 + 0) (t * generator) / 2) even ∙ ap (λ (t : ℕ). t / 2) (xor_zero_r (r * 2 + 0)) ∙ half

back_generator : (t : ℕ) → t < 2 → back (t * generator) ≡ 0
unfolding back
back_generator zero h = refl
back_generator (suc zero) h = refl
back_generator (suc (suc t)) h = absurd (omega arith)

-- it undoes a step of the division
back_bring : (r : ℕ) → r < 2 ^ 16 → back (bring_down r false) ≡ r
unfolding bring_down
back_bring r h =
    let s : ℕ = r * 2 + 0 in
    back_xor s (s / 2 ^ 16 * generator)
    ∙ ap₂ bit_xor (back_even r) (back_generator (s / 2 ^ 16) (omega arith))
    ∙ xor_zero_r r

back_bring_true : (r : ℕ) → r < 2 ^ 16 → back (bring_down r true) ≡ bit_xor r (back 1)
unfolding bring_down
back_bring_true r h =
    ap (λ (q : ℕ). back (bring_down q true)) (sym (xor_zero_r r))
    ∙ ap back (bring_xor r 0 false true h (lit< tt))
    ∙ back_xor (bring_down r false) 1
    ∙ ap (λ (q : ℕ). bit_xor q (back 1)) (back_bring r h)

-- ---- a polynomial divided by the power above its highest

-- the sum of p, back p, .. at the places of the coefficients that are set
unfoldable along : ℕ → List Bool → ℕ
along p [] = 0
along p (true ∷ d) = bit_xor p (along (back p) d)
along p (false ∷ d) = along (back p) d

back_along : (p : ℕ) (d : List Bool) → back (along p d) ≡ along (back p) d
unfolding along back
back_along p [] = refl
back_along p (true ∷ d) = back_xor p (along (back p) d) ∙ ap (bit_xor (back p)) (back_along (back p) d)
back_along p (false ∷ d) = back_along (back p) d

undone : (r : ℕ) (d : List Bool) → r < 2 ^ 16 → remainder r d ≡ 0 → bit_xor r (along (back 1) d) ≡ 0
unfolding along remainder
undone r [] h e = xor_zero_r r ∙ e
undone r (true ∷ d) h e =
    sym (xor_assoc r (back 1) (along (back (back 1)) d))
    ∙ sym (ap₂ bit_xor (back_bring_true r h) (back_along (back 1) d))
    ∙ sym (back_xor (bring_down r true) (along (back 1) d))
    ∙ ap back (undone (bring_down r true) d (bring_lt r true h) e)
    ∙ back_generator 0 (lit< tt)
undone r (false ∷ d) h e =
    sym (ap₂ bit_xor (back_bring r h) (back_along (back 1) d))
    ∙ sym (back_xor (bring_down r false) (along (back 1) d))
    ∙ ap back (undone (bring_down r false) d (bring_lt r false h) e)
    ∙ back_generator 0 (lit< tt)

-- ---- parity

ones_zero : ones 0 ≡ 0
unfolding ones ones_in
ones_zero = refl

ones_xor : (a b : ℕ) → ones (bit_xor a b) % 2 ≡ (ones a + ones b) % 2
ones_xor =
    bin_ind (λ (n : ℕ). (b : ℕ) → ones (bit_xor n b) % 2 ≡ (ones n + ones b) % 2) (λ b. omega (arith, ones_zero))
    (λ n ih b.
    omega (arith, ones_step (bit_xor n b), xor_mod n b 1, ap ones (xor_shr n b 1), xor_add_and (n % 2) (b % 2), ih (b / 2), ones_step n, ones_step b))

ones_generator : (t : ℕ) → t < 2 → ones (t * generator) % 2 ≡ 0
unfolding ones_in ones
ones_generator zero h = refl
ones_generator (suc zero) h = ap (λ (n : ℕ). n % 2) (ones_by 17 generator (lit< tt))
ones_generator (suc (suc t)) h = absurd (omega arith)

back_parity : (p : ℕ) → ones (back p) % 2 ≡ ones p % 2
unfolding back
back_parity p =
    let t : ℕ = p % 2 in
    let q : ℕ = bit_xor p (t * generator) in
    let low : t * generator % 2 ≡ t = omega arith in
    let even : q % 2 ≡ 0 = xor_mod p (t * generator) 1 ∙ ap (bit_xor t) low ∙ xor_self t in
    omega (arith, even, ones_step q, ones_xor p (t * generator), ones_generator t (omega arith))

along_parity : (p : ℕ) (d : List Bool) → ones p % 2 ≡ 1 → ones (along p d) % 2 ≡ weight d % 2
unfolding along weight ones ones_in
along_parity p [] h = refl
along_parity p (true ∷ d) h = omega (arith, ones_xor p (along (back p) d), along_parity (back p) d (back_parity p ∙ h))
along_parity p (false ∷ d) h = omega (arith, along_parity (back p) d (back_parity p ∙ h))

-- ---- what the tests on the powers say of a polynomial

none_along : (p : ℕ) (d : List Bool) → weight d ≡ 0 → along p d ≡ 0
unfolding along weight
none_along p [] e = refl
none_along p (true ∷ d) e = absurd (omega arith)
none_along p (false ∷ d) e = none_along (back p) d (omega arith)

one_along : (m : Trie) (n p : ℕ) (d : List Bool) → holds m n p ≡ true → length d ≤ n → weight d ≡ 1 → has m (along p d) ≡ true
unfolding along weight holds
one_along m zero p [] t l e = absurd (omega arith)
one_along m zero p (b ∷ d) t l e = absurd (omega arith)
one_along m (suc n) p [] t l e = absurd (omega arith)
one_along m (suc n) p (true ∷ d) t l e =
    ap (has m) (ap (bit_xor p) (none_along (back p) d (omega arith)) ∙ xor_zero_r p) ∙ (and_parts (has m p) (holds m n (back p)) t).0
one_along m (suc n) p (false ∷ d) t l e =
    one_along m n (back p) d (and_parts (has m p) (holds m n (back p)) t).1 (omega arith) (omega arith)

sound : (m : Trie) (n w p s : ℕ) (d : List Bool) → holds m n p ≡ true → no_sum m n w p s ≡ true
    → length d ≤ n → weight d ≡ w → bit_xor s (along p d) ≡ 0 → ⊥
unfolding along weight holds no_sum
sound m n zero p s d h t l e z =
    both_ways (eqb s 0) (not-true (eqb s 0) t) (eq-eqb s 0 (xor_cancel s (along p d) z ∙ none_along p d e))
sound m n (suc zero) p s d h t l e z =
    both_ways (has m s) (not-true (has m s) t) (ap (has m) (xor_cancel s (along p d) z) ∙ one_along m n p d h l e)
sound m zero (suc (suc w)) p s [] h t l e z = omega arith
sound m zero (suc (suc w)) p s (b ∷ d) h t l e z = omega arith
sound m (suc n) (suc (suc w)) p s [] h t l e z = omega arith
sound m (suc n) (suc (suc w)) p s (true ∷ d) h t l e z =
    sound m n (suc w) (back p) (bit_xor s p) d (and_parts (has m p) (holds m n (back p)) h).1
    (and_parts (no_sum m n (suc (suc w)) (back p) s) (no_sum m n (suc w) (back p) (bit_xor s p)) t).1
    (omega arith) (omega arith) (xor_assoc s p (along (back p) d) ∙ z)
sound m (suc n) (suc (suc w)) p s (false ∷ d) h t l e z =
    sound m n (suc (suc w)) (back p) s d (and_parts (has m p) (holds m n (back p)) h).1
    (and_parts (no_sum m n (suc (suc w)) (back p) s) (no_sum m n (suc w) (back p) (bit_xor s p)) t).0
    (omega arith) (omega arith) z

below_top : (d : List Bool) → length d ≤ 143 → weight d ≤ 4 → bit_xor 1 (along (back 1) d) ≡ 0 → ⊥
unfolding ones ones_in back
below_top d l k z = by_weight (weight d) refl
  where
    odd_weight : weight d % 2 ≡ 1
    odd_weight =
        sym (along_parity (back 1) d (back_parity 1)) ∙ ap (λ (x : ℕ). ones x % 2) (sym (xor_cancel 1 (along (back 1) d) z))

    by_weight : (w : ℕ) → weight d ≡ w → ⊥
    by_weight zero e = omega (arith, odd_weight)
    by_weight (suc zero) e = sound inverses 143 1 (back 1) 1 d holds_all not_one l e z
    by_weight (suc (suc zero)) e = omega (arith, odd_weight)
    by_weight (suc (suc (suc zero))) e = sound inverses 143 3 (back 1) 1 d holds_all not_three l e z
    by_weight (suc (suc (suc (suc n)))) e = omega (arith, odd_weight)

pub no_multiple : (d : List Bool) → length d ≤ 144 → 0 < weight d → weight d ≤ 5 → remainder 0 d ≡ 0 → ⊥
unfolding weight remainder bring_down
no_multiple [] l p k e = omega arith
no_multiple (true ∷ d) l p k e = below_top d (omega arith) (omega arith) (undone 1 d (lit< tt) e)
no_multiple (false ∷ d) l p k e = no_multiple d (omega arith) (omega arith) (omega arith) e
