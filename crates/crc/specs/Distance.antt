-- How far the blocks that are sent lie apart.
use Rattle.std.specs.Prelude.{◌≡◌, ℕ, ◌-◌, ◌≤◌, List, length, bit_xor, count_ones}
use Rattle.std.specs.Int.Digits.{AllBelowBase, number_from_digits}
use Rattle.crc.specs.Check.{sealed}

-- in how many bits two blocks of one length differ, each read as one long number
abbrev pub differing : List ℕ → List ℕ → ℕ
differing a b = count_ones (bit_xor (number_from_digits 256 a) (number_from_digits 256 b))

-- blocks of one length, up to 16 octets, are the same if they differ in at most d bits as they are sent
abbrev pub Apart : ℕ → Type 0
Apart d =
    (a b : List ℕ) → AllBelowBase 256 a → AllBelowBase 256 b → length a ≡ length b → length a ≤ 16 → differing (sealed a) (sealed b) ≤ d → a ≡ b

-- d is the least number of bits in which two different blocks differ as they are sent
abbrev pub Least : ℕ → Type 0
Least d = Apart (d - 1) × (Apart d → ⊥)
