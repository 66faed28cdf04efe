-- How many inverted bits can pass unseen in FT1.2.
use Rattle.std.specs.Prelude.{ℕ, ◌≢◌}
use Rattle.frame.specs.Contents.{Meaning, Valid}
use Rattle.frame.specs.Damage.{Damaged}
use Rattle.ft12.specs.Frames.{frame_of}

-- so many inverted bits turn the frame of some content into that of another
abbrev pub Unseen : ℕ → Type 0
Unseen bits = (m : Meaning) × (o : Meaning) × Valid m × Valid o × Damaged 11 bits (frame_of m) (frame_of o) × (o ≢ m)
