-- Worked cases of FT3.
use Rattle.std.specs.Prelude.{◌≡◌, ℕ, ◌+◌, true, false, List, [], ◌∷◌, length, Err}
use Rattle.fault.specs.Causes.{fault}
use Rattle.fault.specs.declared.Cause.TheVariants.{LongBurst, WrongCheck, WrongLength, WrongStart}
use Rattle.frame.specs.Contents.{fixed, single, variable}
use Rattle.frame.specs.Controls.{primary_octet}
use Rattle.ft3.specs.Frames.{frame_of}
use Rattle.ft3.specs.Verdicts.{verdict_of}

-- all of them together, for a longest frame of so many symbols; octets are hexadecimal
pub record Cases (longest : ℕ) : Type 0 where
  -- an acknowledgement
  pub single : frame_of single ≡ 0x12 ∷ 0x3D ∷ []
  -- a reset of reader 5
  pub reset : frame_of (fixed (primary_octet false false 0) 5) ≡ 0x05 ∷ 0x64 ∷ 0x00 ∷ 0x40 ∷ 0x05 ∷ 0x90 ∷ 0xD6 ∷ []
  -- a send of 41 to reader 5 with frame count bit 1
  pub send :
      frame_of (variable (primary_octet true true 3) 5 (0x41 ∷ [])) ≡ 0x05 ∷ 0x64 ∷ 0x03 ∷ 0x73 ∷ 0x05 ∷ 0xD9 ∷ 0x5A ∷ 0x41 ∷ 0xFF ∷ 0xAC ∷ []
  -- 64 user octets, whatever they are
  pub longest_frame : (c a : ℕ) (us : List ℕ) → length us ≡ 64 → length (frame_of (variable c a us)) ≡ longest
  -- one symbol more than the longest frame has
  pub over : (b : List ℕ) → length b ≡ longest + 1 → verdict_of b ≡ Err (fault LongBurst 0)
  -- a first octet with nothing after it
  pub start_alone : verdict_of (0x05 ∷ []) ≡ Err (fault WrongStart 1)
  -- the reset with a bit of its address inverted
  pub reset_spoilt : verdict_of (0x05 ∷ 0x64 ∷ 0x00 ∷ 0x40 ∷ 0x04 ∷ 0x90 ∷ 0xD6 ∷ []) ≡ Err (fault WrongCheck 5)
  -- the send cut off before its last check octet
  pub send_cut : verdict_of (0x05 ∷ 0x64 ∷ 0x03 ∷ 0x73 ∷ 0x05 ∷ 0xD9 ∷ 0x5A ∷ 0x41 ∷ 0xFF ∷ []) ≡ Err (fault WrongLength 9)
