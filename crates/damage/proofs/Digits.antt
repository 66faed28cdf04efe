-- One bit of a number, and how many bits an exclusive or has.
use Rattle.std.proofs.Common.{◌≡◌, ℕ, zero, suc, ◌+◌, ◌-◌, ◌*◌, ◌/◌, ◌%◌, ◌^◌, ◌<◌, ◌≤◌, Bool, true, false, ◌||◌, eqb, sym, refl, ap, ◌∙◌, ap₂, ⊎_elim, zero-add, arith}
use lib.Arith.{half_le}
use lib.Bits.{bit_xor, xor_assoc, xor_comm, xor_mod, xor_shr}
use lib.Count.{ones, ones_cat, ones-le, ones-ones, ones_step}
use Rattle.frame.specs.Controls.{digit}
use Rattle.std.proofs.lemmas.Nat.{pow-add, pow_below, pow_pos, shl-shr, shr_below}
use Rattle.std.proofs.lemmas.Bool.{cases_order, eq-eqb, false≢true, ne_eqb}

-- bit b of 2 ^ c
pub bit_of_pow : (b c : ℕ) → 2 ^ c / 2 ^ b % 2 ≡ digit (eqb b c)
bit_of_pow b c =
    ⊎_elim
    (λ (e : b ≡ c).
    let one : 2 ^ c / 2 ^ b ≡ 1 = ap (λ n. 2 ^ c / 2 ^ n) e ∙ ap (λ n. n / 2 ^ c) (sym (omega arith)) ∙ shl-shr 1 c in
    ap (λ n. n % 2) one ∙ sym (ap digit (eq-eqb b c e)))
    (⊎_elim
    (λ (l : b < c).
    let m = c - suc b in
    let s : suc m + b ≡ c = omega arith in
    let whole : 2 ^ c ≡ 2 ^ suc m * 2 ^ b = ap (λ n. 2 ^ n) (sym s) ∙ pow-add 2 (suc m) b in
    let part : 2 ^ c / 2 ^ b ≡ 2 ^ suc m = ap (λ n. n / 2 ^ b) whole ∙ shl-shr (2 ^ suc m) b in
    let double = pow-add 2 1 m in
    let next : 1 + m ≡ suc m = omega arith in
    let even : 2 ^ suc m ≡ 2 * 2 ^ m = ap (λ n. 2 ^ n) (sym next) ∙ double in
    let zero_bit : 2 ^ c / 2 ^ b % 2 ≡ 0 = omega arith in
    zero_bit ∙ sym (ap digit (ne_eqb b c (λ e. omega arith))))
    (λ (l : c < b).
    let less = pow_below c b l in
    let none = shr_below (2 ^ c) 0 b (rw zero-add less) in
    let zero_bit : 2 ^ c / 2 ^ b % 2 ≡ 0 = omega arith in
    zero_bit ∙ sym (ap digit (ne_eqb b c (λ e. omega arith)))))
    (cases_order b c)

-- bit b of an exclusive or
pub bit_of_xor : (x y b : ℕ) → bit_xor x y / 2 ^ b % 2 ≡ bit_xor (x / 2 ^ b % 2) (y / 2 ^ b % 2)
bit_of_xor x y b = ap (λ n. n % 2) (xor_shr x y b) ∙ xor_mod (x / 2 ^ b) (y / 2 ^ b) 1

-- a bit that is inverted once
pub digit_or : (a b : Bool) → (b ≡ true → a ≡ false) → bit_xor (digit a) (digit b) ≡ digit (a || b)
digit_or true true h = absurd (false≢true (sym (h refl)))
digit_or true false h = refl
digit_or false true h = refl
digit_or false false h = refl

pub xor_swap : (h t s : ℕ) → bit_xor (bit_xor h t) s ≡ bit_xor (bit_xor h s) t
xor_swap h t s = xor_assoc h t s ∙ ap (bit_xor h) (xor_comm t s) ∙ sym (xor_assoc h s t)

no_ones : ones 0 ≡ 0
no_ones = let h : ones 0 ≤ 0 = ones-le 0 0 (omega arith) in omega arith

pub one_of_pow : (k : ℕ) → ones (2 ^ k) ≡ 1
one_of_pow k =
    let whole : 1 * 2 ^ k + 0 ≡ 2 ^ k = omega arith in
    let one : ones 1 ≡ 1 = ones-ones 1 in
    let z = no_ones in
    ap ones (sym whole) ∙ ones_cat k 1 0 (omega (arith, pow_pos k)) ∙ ap₂ ◌+◌ one z

low_bit : (p q : ℕ) → p < 2 → q < 2 → bit_xor p q % 2 ≤ p + q
low_bit zero zero hp hq = omega arith
low_bit zero (suc zero) hp hq = omega arith
low_bit (suc zero) zero hp hq = omega arith
low_bit (suc zero) (suc zero) hp hq = omega arith
low_bit zero (suc (suc q)) hp hq = absurd (omega arith)
low_bit (suc zero) (suc (suc q)) hp hq = absurd (omega arith)
low_bit (suc (suc p)) q hp hq = absurd (omega arith)

xor_ones_under : (d a b : ℕ) → a ≤ d → b ≤ d → ones (bit_xor a b) ≤ ones a + ones b
xor_ones_under zero zero zero ha hb = omega (arith, no_ones)
xor_ones_under zero zero (suc b) ha hb = absurd (omega arith)
xor_ones_under zero (suc a) b ha hb = absurd (omega arith)
xor_ones_under (suc d) a b ha hb =
    let x = bit_xor a b in
    let sx = ones_step x in
    let sa = ones_step a in
    let sb = ones_step b in
    let half : ones (x / 2) ≡ ones (bit_xor (a / 2) (b / 2)) = ap ones (xor_shr a b 1) in
    let bit : x % 2 ≡ bit_xor (a % 2) (b % 2) = xor_mod a b 1 in
    let l : bit_xor (a % 2) (b % 2) % 2 ≤ a % 2 + b % 2 = low_bit (a % 2) (b % 2) (omega arith) (omega arith) in
    let ih : ones (bit_xor (a / 2) (b / 2)) ≤ ones (a / 2) + ones (b / 2) = xor_ones_under d (a / 2) (b / 2) (half_le ha) (half_le hb) in
    omega (arith, sx, sa, sb, half, bit, l, ih)

-- an exclusive or has no more bits than its parts together
pub xor_ones : (a b : ℕ) → ones (bit_xor a b) ≤ ones a + ones b
xor_ones a b = xor_ones_under (a + b) a b (omega arith) (omega arith)
