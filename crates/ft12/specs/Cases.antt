-- Worked cases of FT1.2.
use Rattle.std.specs.Prelude.{◌≡◌, ℕ, ◌+◌, true, false, List, [], ◌∷◌, map, length, Err}
use Rattle.fault.specs.Causes.{fault}
use Rattle.fault.specs.declared.Cause.TheVariants.{LongBurst, WrongLength}
use Rattle.frame.specs.Contents.{fixed, variable}
use Rattle.frame.specs.Controls.{primary_octet}
use Rattle.ft12.specs.Frames.{frame_of}
use Rattle.ft12.specs.Symbols.{symbol_of}
use Rattle.ft12.specs.Verdicts.{verdict_of}

-- all of them together; octets are hexadecimal, symbols and counts decimal; the longest frame has so many symbols
pub record Cases (longest : ℕ) : Type 0 where
  -- the symbols of octets 10 and E5
  pub octet_10 : symbol_of 0x10 ≡ 1568
  pub octet_E5 : symbol_of 0xE5 ≡ 1994
  -- a reset of reader 5
  pub reset : frame_of (fixed (primary_octet false false 0) 5) ≡ map symbol_of (0x10 ∷ 0x40 ∷ 0x05 ∷ 0x45 ∷ 0x16 ∷ [])
  -- a send of 41 to reader 5 with frame count bit 1
  pub send :
      frame_of (variable (primary_octet true true 3) 5 (0x41 ∷ [])) ≡
      map symbol_of (0x68 ∷ 0x03 ∷ 0x03 ∷ 0x68 ∷ 0x73 ∷ 0x05 ∷ 0x41 ∷ 0xB9 ∷ 0x16 ∷ [])
  -- a length of 2 leaves no user octet
  pub no_user : verdict_of (map symbol_of (0x68 ∷ 0x02 ∷ 0x02 ∷ 0x68 ∷ [])) ≡ Err (fault WrongLength 1)
  -- 64 user octets make the longest frame
  pub most_octets : (c a : ℕ) (us : List ℕ) → length us ≡ 64 → length (frame_of (variable c a us)) ≡ longest
  -- one symbol more is too many, whatever the symbols
  pub over : (b : List ℕ) → length b ≡ longest + 1 → verdict_of b ≡ Err (fault LongBurst 0)
