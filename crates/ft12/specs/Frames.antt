-- The frames of FT1.2: their octets, and the symbols of those.
use Rattle.std.specs.Prelude.{ℕ, ◌+◌, ◌%◌, List, [], ◌∷◌, ◌++◌, map, length, sum}
use Rattle.frame.specs.Contents.{Meaning, single, fixed, variable}
use Rattle.ft12.specs.Symbols.{symbol_of}

-- the check octet of the octets that it covers
abbrev pub check_of : List ℕ → ℕ
check_of os = sum os % 256

-- the octets of a content's frame
abbrev pub octets_of : Meaning → List ℕ
octets_of single = 0xE5 ∷ []
octets_of (fixed c a) = 0x10 ∷ c ∷ a ∷ check_of (c ∷ a ∷ []) ∷ 0x16 ∷ []
octets_of (variable c a us) =
    0x68 ∷ (length us + 2) ∷ (length us + 2) ∷ 0x68 ∷ c ∷ a ∷ us ++ (check_of (c ∷ a ∷ us) ∷ 0x16 ∷ [])

-- the frame of a content
abbrev pub frame_of : Meaning → List ℕ
frame_of m = map symbol_of (octets_of m)
