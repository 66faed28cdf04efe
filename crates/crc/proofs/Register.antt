-- The register of the code, octet by octet, against what is left of the block shifted up.
use Rattle.std.proofs.Common.{◌≡◌, ℕ, zero, suc, ◌+◌, ◌*◌, ◌/◌, ◌%◌, ◌^◌, ◌<◌, List, [], ◌∷◌, get_or, sym, refl, ap, ◌∙◌, ap₂, add-zero, add-suc, suc-add, zero-add, arith, lit<}
use lib.Bits.{bit_xor, xor_comm, xor_zero_r, xor_lt, xor_shifted, xor_block}
use lib.Pow.{split}
use Rattle.std.specs.Int.Digits.{AllBelowBase}
use Rattle.std.specs.List.{fold}
use Rattle.crc.specs.Check.{bring_down, remainder, octet_bits, bits, check}
use Rattle.crc.proofs.Linear.{zeros, shift, remainder_lt, remainder-++, shift_xor, shift_octet, octet}

-- the register after more octets
abbrev pub feed : ℕ → List ℕ → ℕ
feed r xs = fold (λ s x. shift 8 (bit_xor s (x * 2 ^ 8))) r xs

feed_is : (q : ℕ) (xs : List ℕ) → q < 2 ^ 16 → AllBelowBase 256 xs → feed (shift 16 q) xs ≡ shift 16 (remainder q (bits xs))
unfolding remainder bits
feed_is q [] h o = refl
feed_is q (x ∷ xs) h o =
    ap (λ (r : ℕ). feed r xs) one
    ∙ feed_is (remainder q (octet_bits x)) xs (remainder_lt q (octet_bits x) h) o.1
    ∙ ap (shift 16) (sym (remainder-++ q (octet_bits x) (bits xs)))
  where
    up : x * 2 ^ 8 < 2 ^ 16
    up = omega (arith, o.0)

    one : shift 8 (bit_xor (shift 16 q) (x * 2 ^ 8)) ≡ shift 16 (remainder q (octet_bits x))
    one =
        shift_xor 8 (shift 16 q) (x * 2 ^ 8) (remainder_lt q (zeros 16) h) up
        ∙ ap (λ (r : ℕ). bit_xor (shift 24 q) (shift 8 r)) (sym (shift_octet x o.0))
        ∙ sym (shift_xor 16 (shift 8 q) x (remainder_lt q (zeros 8) h) (omega (arith, o.0)))
        ∙ ap (shift 16) (sym (octet q x h o.0))

pub fed_check : (xs : List ℕ) → AllBelowBase 256 xs → bit_xor (feed 0 xs) 0xFFFF ≡ check xs
unfolding check remainder bring_down
fed_check xs o = ap (λ (r : ℕ). bit_xor r 0xFFFF) (feed_is 0 xs (lit< tt) o ∙ sym (remainder-++ 0 (bits xs) (zeros 16)))

-- ---- the table

-- its n entries from k on; the table of the code computes to `entries 256 0`
unfoldable pub entries : ℕ → ℕ → List ℕ
entries zero k = []
entries (suc n) k = shift 8 (k * 2 ^ 8) ∷ entries n (suc k)

entry_from : (n k i : ℕ) → i < n → get_or (entries n k) i 0 ≡ shift 8 ((k + i) * 2 ^ 8)
unfolding entries
entry_from zero k i h = absurd (omega arith)
entry_from (suc n) k zero h = ap (λ (m : ℕ). shift 8 (m * 2 ^ 8)) (sym (add-zero k))
entry_from (suc n) k (suc i) h =
    entry_from n (suc k) i (omega arith) ∙ ap (λ (m : ℕ). shift 8 (m * 2 ^ 8)) (suc-add k i ∙ sym (add-suc k i))

entry : (i : ℕ) → i < 2 ^ 8 → get_or (entries 256 0) i 0 ≡ shift 8 (i * 2 ^ 8)
entry i h = entry_from 256 0 i h ∙ ap (λ (m : ℕ). shift 8 (m * 2 ^ 8)) (zero-add i)

-- the upper half of the register, with the octet added, goes by the table, and the lower half moves up
pub by_table : (r x : ℕ) → r < 2 ^ 16 → x < 2 ^ 8
    → bit_xor (r * 2 ^ 8 % 2 ^ 16) (get_or (entries 256 0) (bit_xor (r / 2 ^ 8) x) 0) ≡ shift 8 (bit_xor r (x * 2 ^ 8))
by_table r x hr hx =
    ap (bit_xor (r * 2 ^ 8 % 2 ^ 16)) (entry out out_lt)
    ∙ ap (λ (n : ℕ). bit_xor n (shift 8 (out * 2 ^ 8))) (moved ∙ sym (shift_octet low low_lt))
    ∙ xor_comm (shift 8 low) (shift 8 (out * 2 ^ 8))
    ∙ sym (shift_xor 8 (out * 2 ^ 8) low (omega (arith, out_lt)) (omega (arith, low_lt)))
    ∙ ap (shift 8) (sym halves)
  where
    out : ℕ
    out = bit_xor (r / 2 ^ 8) x

    low : ℕ
    low = r % 2 ^ 8

    out_lt : out < 2 ^ 8
    out_lt = xor_lt 8 (r / 2 ^ 8) x (omega arith) hx

    low_lt : low < 2 ^ 8
    low_lt = omega arith

    moved : r * 2 ^ 8 % 2 ^ 16 ≡ low * 2 ^ 8
    moved = omega arith

    halves : bit_xor r (x * 2 ^ 8) ≡ bit_xor (out * 2 ^ 8) low
    halves =
        ap₂ bit_xor (sym (split r 8)) (sym (add-zero (x * 2 ^ 8)))
        ∙ xor_block 8 (r / 2 ^ 8) x low 0 low_lt (lit< tt)
        ∙ ap (λ (n : ℕ). out * 2 ^ 8 + n) (xor_zero_r low)
        ∙ sym (xor_shifted out 8 low low_lt)
