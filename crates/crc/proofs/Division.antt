-- The long division finds the remainder, and there is no other.
use Rattle.std.proofs.Common.{◌≡◌, ℕ, zero, suc, ◌+◌, ◌*◌, ◌/◌, ◌^◌, ◌<◌, ◌≤◌, Bool, true, false, eqb, List, [], ◌∷◌, ◌++◌, length, sym, refl, ap, ◌∙◌, subst, ap₂, add-zero, arith, lit<, lit≤, length-append}
use lib.Bits.{bit_xor, xor_assoc, xor_comm, xor_self, xor_zero_r, xor_shr, xor_lt}
use lib.ListN.{length-replicate}
use Rattle.std.specs.Int.Digits.{AllBelowBase, number_from_digits}
use Rattle.crc.specs.Check.{generator, digit, bring_down, remainder, bits, check}
use Rattle.crc.specs.Division.{product, Leaves, Remainder}
use Rattle.crc.proofs.Linear.{xor_swap, xor_cancel, times_bit, xorb, digit_lt, digit_xor, push_xor, brought_lt, bring_lt, remainder_lt, sums, zeros}
use Rattle.crc.proofs.Numbers.{value, value-++, value_bits}

double_xor : (m n : ℕ) (c : Bool) → bit_xor m n * 2 + digit c ≡ bit_xor (m * 2) (n * 2 + digit c)
double_xor m n c = push_xor m n false c ∙ ap (λ (x : ℕ). bit_xor x (n * 2 + digit c)) (add-zero (m * 2))

as_digit : (t : ℕ) → t < 2 → digit (eqb t 1) ≡ t
as_digit zero h = refl
as_digit (suc zero) h = refl
as_digit (suc (suc t)) h = absurd (omega arith)

-- ---- the quotient of the long division

unfoldable quotient_of : ℕ → List Bool → List Bool
quotient_of r [] = []
quotient_of r (b ∷ bs) = eqb ((r * 2 + digit b) / 2 ^ 16) 1 ∷ quotient_of (bring_down r b) bs

divided : (m r : ℕ) (p : List Bool) → r < 2 ^ 16 → value (bit_xor m r) p ≡ bit_xor (product m (quotient_of r p)) (remainder r p)
unfolding product remainder bring_down quotient_of
divided m r [] h = refl
divided m r (b ∷ bs) h =
    ap (λ (x : ℕ). value x bs) step ∙ divided (bit_xor (m * 2) (digit (eqb t 1) * generator)) (bring_down r b) bs (bring_lt r b h)
  where
    s : ℕ
    s = r * 2 + digit b

    t : ℕ
    t = s / 2 ^ 16

    t_lt : t < 2
    t_lt = omega (arith, brought_lt r b h)

    step : bit_xor m r * 2 + digit b ≡ bit_xor (bit_xor (m * 2) (digit (eqb t 1) * generator)) (bring_down r b)
    step =
        double_xor m r b
        ∙ ap (bit_xor (m * 2))
        (sym (ap (λ (x : ℕ). bit_xor x s) (xor_self (t * generator)))
        ∙ xor_assoc (t * generator) (t * generator) s
        ∙ ap (bit_xor (t * generator)) (xor_comm (t * generator) s))
        ∙ sym (xor_assoc (m * 2) (t * generator) (bring_down r b))
        ∙ ap (λ (x : ℕ). bit_xor (bit_xor (m * 2) (x * generator)) (bring_down r b)) (sym (as_digit t t_lt))

-- ---- no other

product_xor : (m n : ℕ) (p q : List Bool) → length p ≡ length q → product (bit_xor m n) (sums p q) ≡ bit_xor (product m p) (product n q)
unfolding product sums
product_xor m n [] [] e = refl
product_xor m n [] (c ∷ q) e = absurd (omega arith)
product_xor m n (b ∷ p) [] e = absurd (omega arith)
product_xor m n (b ∷ p) (c ∷ q) e =
    ap (λ (x : ℕ). product x (sums p q)) step
    ∙ product_xor (bit_xor (m * 2) (digit b * generator)) (bit_xor (n * 2) (digit c * generator)) p q (omega arith)
  where
    twice : bit_xor m n * 2 ≡ bit_xor (m * 2) (n * 2)
    twice = sym (add-zero (bit_xor m n * 2)) ∙ double_xor m n false ∙ ap (bit_xor (m * 2)) (add-zero (n * 2))

    step : bit_xor (bit_xor m n * 2) (digit (xorb b c) * generator)
        ≡ bit_xor (bit_xor (m * 2) (digit b * generator)) (bit_xor (n * 2) (digit c * generator))
    step =
        ap₂ (λ (x y : ℕ). bit_xor x (y * generator)) twice (digit_xor b c)
        ∙ ap (bit_xor (bit_xor (m * 2) (n * 2))) (times_bit (digit b) (digit c) (digit_lt b) (digit_lt c))
        ∙ xor_swap (m * 2) (n * 2) (digit b * generator) (digit c * generator)

product_big : (m : ℕ) (p : List Bool) → 2 ^ 16 ≤ m → 2 ^ 16 ≤ product m p
unfolding product
product_big m [] h = h
product_big m (b ∷ p) h = product_big (bit_xor (m * 2) (digit b * generator)) p (omega (arith, high))
  where
    none : digit b * generator / 2 ^ 17 ≡ 0
    none = omega (arith, digit_lt b)

    high : bit_xor (m * 2) (digit b * generator) / 2 ^ 17 ≡ m * 2 / 2 ^ 17
    high = xor_shr (m * 2) (digit b * generator) 17 ∙ ap (bit_xor (m * 2 / 2 ^ 17)) none ∙ xor_zero_r (m * 2 / 2 ^ 17)

small_product : (p : List Bool) → product 0 p < 2 ^ 16 → product 0 p ≡ 0
unfolding product
small_product [] h = refl
small_product (true ∷ p) h = absurd (omega (arith, product_big generator p (lit≤ tt)))
small_product (false ∷ p) h = small_product p h

padded : (k : ℕ) (p : List Bool) → product 0 (zeros k ++ p) ≡ product 0 p
unfolding product
padded zero p = refl
padded (suc k) p = padded k p

same_left : (p q : List Bool) (r s : ℕ) → r < 2 ^ 16 → s < 2 ^ 16 → bit_xor (product 0 p) r ≡ bit_xor (product 0 q) s → r ≡ s
same_left p q r s hr hs e =
    xor_cancel r s (sym both ∙ small_product (sums p' q') (subst (λ (x : ℕ). x < 2 ^ 16) (sym both) (xor_lt 16 r s hr hs)))
  where
    p' : List Bool
    p' = zeros (length q) ++ p

    q' : List Bool
    q' = zeros (length p) ++ q

    lengths : length p' ≡ length q'
    lengths =
        omega (
          arith,
          length-append (zeros (length q)) p,
          length-append (zeros (length p)) q,
          length-replicate (length q) false,
          length-replicate (length p) false,
        )

    both : product 0 (sums p' q') ≡ bit_xor r s
    both =
        product_xor 0 0 p' q' lengths
        ∙ ap₂ bit_xor (padded (length q) p) (padded (length p) q)
        ∙ xor_cancel (bit_xor (product 0 p) (product 0 q)) (bit_xor r s)
        (xor_swap (product 0 p) (product 0 q) r s ∙ ap (λ (x : ℕ). bit_xor x (bit_xor (product 0 q) s)) e ∙ xor_self (bit_xor (product 0 q) s))

-- ---- what the check is

found : (p : List Bool) → Leaves (value 0 p) (remainder 0 p)
found p = record { small = remainder_lt 0 p (lit< tt); quotient = quotient_of 0 p; adds_up = divided 0 0 p (lit< tt) }

remains : (p : List Bool) → Remainder (value 0 p) (remainder 0 p)
unfolding quotient_of found
remains p =
    (found p, λ r l. same_left l.quotient (quotient_of 0 p) r (remainder 0 p) l.small (found p).small (sym l.adds_up ∙ (found p).adds_up))

shifted : (block : List ℕ) → AllBelowBase 256 block → value 0 (bits block ++ zeros 16) ≡ number_from_digits 256 block * 2 ^ 16
shifted block h =
    value-++ 0 (bits block) (zeros 16) ∙ ap (λ (n : ℕ). value n (zeros 16)) (value_bits 0 block h) ∙ up (number_from_digits 256 block)
  where
    up : (n : ℕ) → value n (zeros 16) ≡ n * 2 ^ 16
    up n = omega arith

pub check_divides : (block : List ℕ) → AllBelowBase 256 block → Remainder (number_from_digits 256 block * 2 ^ 16) (bit_xor (check block) 0xFFFF)
unfolding check
check_divides block h =
    let p : List Bool = bits block ++ zeros 16 in
    let back : remainder 0 p ≡ bit_xor (check block) 0xFFFF =
    sym (xor_assoc (remainder 0 p) 0xFFFF 0xFFFF ∙ xor_zero_r (remainder 0 p)) in
    subst (λ (n : ℕ). Remainder n (bit_xor (check block) 0xFFFF)) (shifted block h)
    (subst (λ (r : ℕ). Remainder (value 0 p) r) back (remains p))
