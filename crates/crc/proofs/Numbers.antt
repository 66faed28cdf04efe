-- Bits and octets as one long number: the same for both, and in how many bits two such numbers differ.
use Rattle.std.proofs.Common.{◌≡◌, ℕ, zero, suc, ◌+◌, ◌*◌, ◌/◌, ◌%◌, ◌^◌, ◌<◌, Bool, true, false, eqb, List, [], ◌∷◌, ◌++◌, map, length, sym, refl, ap, ◌∙◌, ap₂, append_assoc, add-zero, pow-suc, arith}
use lib.Bits.{bit_xor}
use lib.Count.{ones, ones_step, ones_cat, ones_in}
use Rattle.std.specs.Int.Digits.{number_from_digits_after, AllBelowBase}
use Rattle.crc.specs.Check.{digit, octet_bits, bits}
use Rattle.crc.proofs.Below.{below, agree}
use Rattle.crc.proofs.Linear.{sums, digit_lt, push_xor}

-- the number of a polynomial, where n is that of the coefficients before it
abbrev pub value : ℕ → List Bool → ℕ
value n p = number_from_digits_after 2 n (map digit p)

-- ---- the bits of octets

pub length_bits : (a : List ℕ) → length (bits a) ≡ 8 * length a
unfolding bits
length_bits [] = refl
length_bits (x ∷ a) = omega (arith, length_bits a)

pub bits-++ : (a b : List ℕ) → bits (a ++ b) ≡ bits a ++ bits b
unfolding bits
bits-++ [] b = refl
bits-++ (x ∷ a) b = ap (λ (cs : List Bool). octet_bits x ++ cs) (bits-++ a b) ∙ sym (append_assoc (octet_bits x) (bits a) (bits b))

pub value-++ : (n : ℕ) (p q : List Bool) → value n (p ++ q) ≡ value (value n p) q
value-++ n [] q = refl
value-++ n (b ∷ p) q = value-++ (n * 2 + digit b) p q

-- ---- sums

pub value_xor : (m n : ℕ) (p q : List Bool) → length p ≡ length q → value (bit_xor m n) (sums p q) ≡ bit_xor (value m p) (value n q)
unfolding sums
value_xor m n [] [] e = refl
value_xor m n [] (c ∷ q) e = absurd (omega arith)
value_xor m n (b ∷ p) [] e = absurd (omega arith)
value_xor m n (b ∷ p) (c ∷ q) e =
    ap (λ (x : ℕ). value x (sums p q)) (push_xor m n b c) ∙ value_xor (m * 2 + digit b) (n * 2 + digit c) p q (omega arith)

-- ---- octets

octet_test : below (λ x. eqb (value 0 (octet_bits x)) x) 256 ≡ true
unfolding below
octet_test = refl

-- eight places further up
value_eight : (n : ℕ) (b₇ b₆ b₅ b₄ b₃ b₂ b₁ b₀ : Bool) → let p : List Bool = b₇ ∷ b₆ ∷ b₅ ∷ b₄ ∷ b₃ ∷ b₂ ∷ b₁ ∷ b₀ ∷ [] in value n p ≡ n * 256 + value 0 p
value_eight n b₇ b₆ b₅ b₄ b₃ b₂ b₁ b₀ = omega arith

pub value_octet : (n x : ℕ) → x < 256 → value n (octet_bits x) ≡ n * 256 + x
value_octet n x h =
    value_eight n _ _ _ _ _ _ _ _ ∙ ap (λ (m : ℕ). n * 256 + m) (agree (λ k. value 0 (octet_bits k)) (λ k. k) 256 octet_test x h)

pub value_bits : (n : ℕ) (a : List ℕ) → AllBelowBase 256 a → value n (bits a) ≡ number_from_digits_after 256 n a
unfolding bits
value_bits n [] h = refl
value_bits n (x ∷ a) h =
    value-++ n (octet_bits x) (bits a) ∙ ap (λ (m : ℕ). value m (bits a)) (value_octet n x h.0) ∙ value_bits (n * 256 + x) a h.1

-- octets of one length that make one number are the same
pub same_octets : (m n : ℕ) (a b : List ℕ) → AllBelowBase 256 a → AllBelowBase 256 b → length a ≡ length b
    → number_from_digits_after 256 m a ≡ number_from_digits_after 256 n b → (m ≡ n) × (a ≡ b)
same_octets m n [] [] ha hb l e = (e, refl)
same_octets m n [] (y ∷ b) ha hb l e = absurd (omega arith)
same_octets m n (x ∷ a) [] ha hb l e = absurd (omega arith)
same_octets m n (x ∷ a) (y ∷ b) ha hb l e =
    let rest : (m * 256 + x ≡ n * 256 + y) × (a ≡ b) = same_octets (m * 256 + x) (n * 256 + y) a b ha.1 hb.1 (omega arith) e in
    (omega (arith, rest.0, ha.0, hb.0), ap₂ ◌∷◌ (omega (arith, rest.0, ha.0, hb.0)) rest.1)

-- ---- bits that are set

unfoldable pub weight : List Bool → ℕ
weight [] = 0
weight (b ∷ d) = digit b + weight d

ones_digit : (b : Bool) → ones (digit b) ≡ digit b
unfolding ones ones_in
ones_digit true = refl
ones_digit false = refl

pub ones_value : (n : ℕ) (p : List Bool) → ones (value n p) ≡ ones n + weight p
unfolding weight
ones_value n [] = sym (add-zero (ones n))
ones_value n (b ∷ p) =
    omega (arith, ones_value (n * 2 + digit b) p, ones_cat 1 n (digit b) (digit_lt b), ones_digit b)

-- a count of bits for a numeral, which computes
pub ones_by : (k n : ℕ) → n < 2 ^ k → ones n ≡ ones_in k n
unfolding ones ones_in
ones_by zero n h = let z : n ≡ 0 = omega arith in ap ones z
ones_by (suc k) n h = ones_step n ∙ ap (λ (x : ℕ). n % 2 + x) (ones_by k (n / 2) (omega (arith, pow-suc 2 k)))
