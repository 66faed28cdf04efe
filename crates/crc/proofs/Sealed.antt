-- Blocks as they are sent lie six bits apart, and no further.
use Rattle.std.proofs.Common.{◌≡◌, ℕ, zero, suc, ◌+◌, ◌*◌, ◌/◌, ◌%◌, ◌^◌, ◌<◌, ◌≤◌, Bool, true, ◌&&◌, ltb, List, [], ◌∷◌, ◌++◌, length, get_or, sym, refl, ap, ◌∙◌, ap₂, zero-add, arith, lit<, lit≤, length-append}
use lib.Bits.{bit_xor, xor_assoc, xor_self, xor_lt, xor_shifted}
use lib.Count.{ones, ones_in}
use lib.Pow.{split}
use Rattle.std.specs.Int.Digits.{AllBelowBase, number_from_digits}
use Rattle.std.proofs.ByRecursion.{All-append}
use Rattle.std.proofs.lemmas.Bool.{and_parts, ltb-true}
use Rattle.std.proofs.lemmas.Nat.{zero_from_ones}
use Rattle.crc.specs.Check.{bring_down, remainder, octet_bits, bits, check, sealed}
use Rattle.crc.specs.Distance.{Apart, Least, differing}
use Rattle.crc.proofs.Linear.{xor_cancel, sums, length_sums, zeros, shift, remainder_lt, remainder-++, remainder_xor, shift_xor, shift_octet, octet}
use Rattle.crc.proofs.Multiples.{no_multiple}
use Rattle.crc.proofs.Numbers.{weight, length_bits, bits-++, value_bits, value_xor, ones_value, ones_by, same_octets}

-- ---- a block as it is sent

pub check_lt : (a : List ℕ) → check a < 2 ^ 16
unfolding check
check_lt a = xor_lt 16 (remainder 0 (bits a ++ zeros 16)) 0xFFFF (remainder_lt 0 (bits a ++ zeros 16) (lit< tt)) (lit< tt)

pub length_sealed : (a : List ℕ) → length (sealed a) ≡ length a + 2
unfolding sealed
length_sealed a = length-append a _

pub under_sealed : (a : List ℕ) → AllBelowBase 256 a → AllBelowBase 256 (sealed a)
unfolding sealed
under_sealed a h = All-append (λ x. x < 256) a _ h (omega (arith, check_lt a), (omega arith, tt))

-- it leaves the remainder 0xFFFF
left_over : (a : List ℕ) → remainder 0 (bits (sealed a)) ≡ 0xFFFF
unfolding sealed bits remainder check
left_over a =
    ap (remainder 0) (bits-++ a (hi ∷ lo ∷ []))
    ∙ remainder-++ 0 (bits a) (octet_bits hi ++ (octet_bits lo ++ []))
    ∙ remainder-++ q (octet_bits hi) (octet_bits lo ++ [])
    ∙ ap (λ (r : ℕ). remainder r (octet_bits lo ++ [])) (octet q hi q_lt hi_lt)
    ∙ octet (bit_xor (shift 8 q) hi) lo (xor_lt 16 (shift 8 q) hi (remainder_lt q (zeros 8) q_lt) (omega (arith, hi_lt))) lo_lt
    ∙ ap (λ (r : ℕ). bit_xor r lo) (shift_xor 8 (shift 8 q) hi (remainder_lt q (zeros 8) q_lt) (omega (arith, hi_lt)))
    ∙ ap (λ (r : ℕ). bit_xor (bit_xor (shift 8 (shift 8 q)) r) lo) (shift_octet hi hi_lt)
    ∙ xor_assoc (shift 16 q) (hi * 2 ^ 8) lo
    ∙ ap (bit_xor (shift 16 q)) (xor_shifted hi 8 lo lo_lt ∙ split (check a) 8 ∙ ap (λ (r : ℕ). bit_xor r 0xFFFF) (remainder-++ 0 (bits a) (zeros 16)))
    ∙ sym (xor_assoc (shift 16 q) (shift 16 q) 0xFFFF)
    ∙ ap (λ (r : ℕ). bit_xor r 0xFFFF) (xor_self (shift 16 q))
  where
    q : ℕ
    q = remainder 0 (bits a)

    hi : ℕ
    hi = check a / 2 ^ 8

    lo : ℕ
    lo = check a % 2 ^ 8

    q_lt : q < 2 ^ 16
    q_lt = remainder_lt 0 (bits a) (lit< tt)

    hi_lt : hi < 2 ^ 8
    hi_lt = omega (arith, check_lt a)

    lo_lt : lo < 2 ^ 8
    lo_lt = omega arith

-- ---- two of them

front : (a b x y : List ℕ) → length a ≡ length b → a ++ x ≡ b ++ y → a ≡ b
front [] [] x y l e = refl
front [] (d ∷ b) x y l e = absurd (omega arith)
front (c ∷ a) [] x y l e = absurd (omega arith)
front (c ∷ a) (d ∷ b) x y l e =
    let first : c ≡ d = cc in
    let rest : a ++ x ≡ b ++ y = cc in
    ap₂ ◌∷◌ first (front a b x y (omega arith) rest)

sealed_same : (a b : List ℕ) → length a ≡ length b → sealed a ≡ sealed b → a ≡ b
unfolding sealed
sealed_same a b l e = front a b _ _ l e

-- the sum of two blocks as they are sent is a multiple of the generator
difference : List ℕ → List ℕ → List Bool
difference a b = sums (bits (sealed a)) (bits (sealed b))

same_length : (a b : List ℕ) → length a ≡ length b → length (bits (sealed a)) ≡ length (bits (sealed b))
same_length a b l =
    omega (arith, length_bits (sealed a), length_bits (sealed b), length_sealed a, length_sealed b)

difference_weight : (a b : List ℕ) → AllBelowBase 256 a → AllBelowBase 256 b → length a ≡ length b
    → weight (difference a b) ≡ differing (sealed a) (sealed b)
unfolding difference ones ones_in
difference_weight a b ha hb l =
    sym (ones_value 0 (difference a b) ∙ zero-add (weight (difference a b)))
    ∙ ap ones (value_xor 0 0 (bits (sealed a)) (bits (sealed b)) (same_length a b l))
    ∙ ap₂ (λ (m n : ℕ). ones (bit_xor m n)) (value_bits 0 (sealed a) (under_sealed a ha)) (value_bits 0 (sealed b) (under_sealed b hb))

difference_leaves : (a b : List ℕ) → length a ≡ length b → remainder 0 (difference a b) ≡ 0
unfolding difference
difference_leaves a b l =
    remainder_xor 0 0 (bits (sealed a)) (bits (sealed b)) (lit< tt) (lit< tt) (same_length a b l)
    ∙ ap₂ bit_xor (left_over a) (left_over b)

difference_length : (a b : List ℕ) → length a ≡ length b → length (difference a b) ≡ 8 * (length a + 2)
unfolding difference
difference_length a b l =
    length_sums (bits (sealed a)) (bits (sealed b)) (same_length a b l) ∙ length_bits (sealed a) ∙ ap (λ (n : ℕ). 8 * n) (length_sealed a)

pub apart_five : Apart 5
apart_five a b ha hb l k h = by_count (differing (sealed a) (sealed b)) refl
  where
    by_count : (n : ℕ) → differing (sealed a) (sealed b) ≡ n → a ≡ b
    by_count zero e =
        sealed_same a b l
        (same_octets 0 0 (sealed a) (sealed b) (under_sealed a ha) (under_sealed b hb)
        (length_sealed a ∙ ap (λ (n : ℕ). n + 2) l ∙ sym (length_sealed b))
        (xor_cancel (number_from_digits 256 (sealed a)) (number_from_digits 256 (sealed b)) (zero_from_ones _ e))).1
    by_count (suc n) e =
        let w : weight (difference a b) ≡ differing (sealed a) (sealed b) = difference_weight a b ha hb l in
        absurd (no_multiple (difference a b) (omega (arith, difference_length a b l)) (omega arith) (omega arith) (difference_leaves a b l))

-- what holds of more bits holds of fewer
pub apart_within : (d e : ℕ) → d ≤ e → Apart e → Apart d
apart_within d e h p a b ha hb l k n = p a b ha hb l k (omega arith)

-- ---- two blocks at six bits

zero_block : List ℕ
zero_block = 0 ∷ 0 ∷ 0 ∷ 0 ∷ 0 ∷ 0 ∷ 0 ∷ 0 ∷ 0 ∷ 0 ∷ 0 ∷ 0 ∷ 0 ∷ 0 ∷ 0 ∷ 0 ∷ []

near_block : List ℕ
near_block = 0xE8 ∷ 0 ∷ 0x80 ∷ 0 ∷ 0 ∷ 0 ∷ 0 ∷ 0 ∷ 0 ∷ 0 ∷ 0 ∷ 0 ∷ 0 ∷ 0x40 ∷ 0 ∷ 0 ∷ []

between : ℕ
between = 0xE80080000000000000000000004000000000

sum_is : bit_xor (number_from_digits 256 (sealed zero_block)) (number_from_digits 256 (sealed near_block)) ≡ between
unfolding sealed check bits remainder bring_down zero_block near_block between
sum_is = refl

six_set : ones between ≡ 6
unfolding ones_in between
six_set = ones_by 144 between (lit< tt)

small : List ℕ → Bool
small [] = true
small (x ∷ xs) = ltb x 256 && small xs

under_small : (xs : List ℕ) → small xs ≡ true → AllBelowBase 256 xs
unfolding small
under_small [] t = tt
under_small (x ∷ xs) t =
    let ts : (ltb x 256 ≡ true) × (small xs ≡ true) = and_parts (ltb x 256) (small xs) t in
    (ltb-true x 256 ts.0, under_small xs ts.1)

no_six : Apart 6 → ⊥
unfolding zero_block near_block small
no_six p = omega (arith, first)
  where
    same : zero_block ≡ near_block
    same = p zero_block near_block (under_small zero_block refl) (under_small near_block refl) refl (lit≤ tt) (omega (arith, ap ones sum_is ∙ six_set))

    first : ◌≡◌ {A = ℕ} 0 0xE8
    first = ap (λ (a : List ℕ). get_or a 0 0) same

pub least_six : Least 6
least_six = (apart_five, no_six)
