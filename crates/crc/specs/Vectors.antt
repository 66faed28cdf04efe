-- Checks that are published.
use Rattle.std.specs.Prelude.{◌≡◌, [], ◌∷◌, codes}
use Rattle.crc.specs.Check.{check, sealed}

-- the check of the nine digits, and a reset to station 5 as it is sent
abbrev pub Vectors : Type 0
Vectors = (check (codes "123456789") ≡ 0xC2B7) × (sealed (0x00 ∷ 0x40 ∷ 0x05 ∷ []) ≡ 0x00 ∷ 0x40 ∷ 0x05 ∷ 0x90 ∷ 0xD6 ∷ [])
