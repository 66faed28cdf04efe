-- The check of a block, by long division of binary polynomials.
-- A polynomial is the list of its coefficients, the highest power first. A remainder, of degree below 16, is the number whose bit k is the
-- coefficient of x^k. Adding and taking away are both exclusive or.
use Rattle.std.specs.Prelude.{ℕ, ◌+◌, ◌*◌, ◌/◌, ◌%◌, ◌^◌, Bool, true, false, List, [], ◌∷◌, ◌++◌, map, replicate, ◌==◌, bit_xor}

-- the polynomial that divides
abbrev pub generator : ℕ
generator = 2 ^ 16 + 2 ^ 13 + 2 ^ 12 + 2 ^ 11 + 2 ^ 10 + 2 ^ 8 + 2 ^ 6 + 2 ^ 5 + 2 ^ 2 + 2 ^ 0

-- a coefficient as a number
abbrev pub digit : Bool → ℕ
digit true = 1
digit false = 0

abbrev pub odd : ℕ → Bool
odd n = n % 2 == 1

-- a step of the division: the next coefficient is brought down to the remainder, and where x^16 then stands the generator is taken away
unfoldable pub bring_down : ℕ → Bool → ℕ
bring_down r b = let s : ℕ = r * 2 + digit b in bit_xor s (s / 2 ^ 16 * generator)

-- what the division leaves of a polynomial, where the coefficients before it have left r
unfoldable pub remainder : ℕ → List Bool → ℕ
remainder r [] = r
remainder r (b ∷ bs) = remainder (bring_down r b) bs

-- the bits of an octet, the highest first
abbrev pub octet_bits : ℕ → List Bool
octet_bits x = map (λ k. odd (x / 2 ^ k)) (7 ∷ 6 ∷ 5 ∷ 4 ∷ 3 ∷ 2 ∷ 1 ∷ 0 ∷ [])

-- the bits of a block, those of its first octet first
unfoldable pub bits : List ℕ → List Bool
bits [] = []
bits (x ∷ xs) = octet_bits x ++ bits xs

-- the check of a block: its bits shifted up 16 places, the remainder of that, and all 16 bits inverted
unfoldable pub check : List ℕ → ℕ
check block = bit_xor (remainder 0 (bits block ++ replicate 16 false)) 0xFFFF

-- a block as it is sent: its octets and the two check octets, the higher first
unfoldable pub sealed : List ℕ → List ℕ
sealed block = block ++ check block / 2 ^ 8 ∷ check block % 2 ^ 8 ∷ []
