-- What a line can do to a burst.
use Rattle.std.specs.Prelude.{◌≡◌, ℕ, ◌+◌, ◌^◌, ◌<◌, ◌≤◌, List, [], ◌∷◌, length, take, bit_xor, count_ones}
use Rattle.std.specs.List.{AllByRecursion}

-- every symbol has at most this many bits
abbrev pub Fits : ℕ → List ℕ → Type 0
Fits width b = AllByRecursion (λ s. s < 2 ^ width) b

-- in how many bits two bursts of one length differ
abbrev pub distance : List ℕ → List ℕ → ℕ
distance [] ys = 0
distance (x ∷ xs) [] = 0
distance (x ∷ xs) (y ∷ ys) = count_ones (bit_xor x y) + distance xs ys

-- b is what was sent with zero or more symbols left off at its end and at most guard bits of the rest inverted, within the width
abbrev pub Damaged : ℕ → ℕ → List ℕ → List ℕ → Type 0
Damaged width guard sent b =
    (k : ℕ) × (k ≤ length sent) × (length b ≡ k) × Fits width b × (distance (take k sent) b ≤ guard)
