-- The laws of a format, over what it means.
use Rattle.std.specs.Prelude.{◌≡◌, ℕ, ◌≤◌, List, length, Ok, Result}
use Rattle.fault.specs.declared.Fault.{Fault}
use Rattle.frame.specs.Contents.{Meaning, Valid}
use Rattle.frame.specs.Damage.{Damaged, Fits}

-- frames are not empty, not over the longest, and every symbol fits the width
abbrev pub SizeLaw : ℕ → ℕ → (Meaning → List ℕ) → Type 0
SizeLaw width longest frame =
    (m : Meaning) → Valid m → (1 ≤ length (frame m)) × (length (frame m) ≤ longest) × Fits width (frame m)

-- a burst is accepted exactly if it is some content's frame, and as that content
abbrev pub VerdictLaw : (Meaning → List ℕ) → (List ℕ → Result Meaning Fault) → Type 0
VerdictLaw frame verdict =
    ((m : Meaning) → Valid m → verdict (frame m) ≡ Ok m) ×
    ((b : List ℕ) (m : Meaning) → verdict b ≡ Ok m → Valid m × (b ≡ frame m))

-- a damaged frame is some content's frame only if nothing was left off or inverted, and then of that content only
abbrev pub GuardLaw : ℕ → ℕ → (Meaning → List ℕ) → Type 0
GuardLaw width guard frame =
    (m o : Meaning) (b : List ℕ) →
    Valid m →
    Valid o →
    Damaged width guard (frame m) b →
    b ≡ frame o →
    (b ≡ frame m) × (o ≡ m)
