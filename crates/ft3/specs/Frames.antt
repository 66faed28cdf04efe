-- The frames of FT3, whose symbols are octets.
use Rattle.std.specs.Prelude.{ℕ, zero, suc, ◌+◌, ◌/◌, List, [], ◌∷◌, ◌++◌, length, take, drop}
use Rattle.crc.specs.Check.{sealed}
use Rattle.frame.specs.Contents.{Meaning, single, fixed, variable}

-- the start octets, and the header block: length octet, control octet and address, with their check
abbrev pub headed : ℕ → ℕ → ℕ → List ℕ
headed l c a = 0x05 ∷ 0x64 ∷ sealed (l ∷ c ∷ a ∷ [])

-- in how many blocks n user octets go
abbrev pub block_count : ℕ → ℕ
block_count n = (n + 15) / 16

-- user octets in k blocks of 16, the last with those that are left, each with its check
abbrev pub blocks : ℕ → List ℕ → List ℕ
blocks zero us = []
blocks (suc k) us = sealed (take 16 us) ++ blocks k (drop 16 us)

-- user octets in as many blocks as they need
abbrev pub all_blocks : List ℕ → List ℕ
all_blocks us = blocks (block_count (length us)) us

-- the frame of a content; the length octet is 0 in a fixed one, and counts control octet and address too in a variable one
abbrev pub frame_of : Meaning → List ℕ
frame_of single = 0x12 ∷ 0x3D ∷ []
frame_of (fixed c a) = headed 0 c a
frame_of (variable c a us) = headed (length us + 2) c a ++ all_blocks us
