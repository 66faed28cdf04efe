-- What division by the generator leaves, apart from how it is found.
-- Here a polynomial is the number whose bit k is the coefficient of x^k.
use Rattle.std.specs.Prelude.{◌≡◌, ℕ, ◌*◌, ◌^◌, ◌<◌, Bool, List, [], ◌∷◌, bit_xor}
use Rattle.crc.specs.Check.{generator, digit}

-- the generator times a quotient, given by its coefficients; n is the product with the coefficients before them
unfoldable pub product : ℕ → List Bool → ℕ
product n [] = n
product n (b ∷ bs) = product (bit_xor (n * 2) (digit b * generator)) bs

-- r, of degree below 16, is left of p: p is a multiple of the generator, and r
pub record Leaves (p r : ℕ) : Type 0 where
  pub small : r < 2 ^ 16
  pub quotient : List Bool
  pub adds_up : p ≡ bit_xor (product 0 quotient) r

-- r is left of p, and nothing else is
abbrev pub Remainder : ℕ → ℕ → Type 0
Remainder p r = Leaves p r × ((s : ℕ) → Leaves p s → s ≡ r)
