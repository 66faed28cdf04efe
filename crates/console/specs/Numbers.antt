-- The number that a word of digits writes.
use Rattle.std.specs.Prelude.{ℕ, ◌+◌, ◌-◌, ◌*◌, Bool, cond, ◌&&◌, List, [], ◌∷◌, length, Some, None, Ok, Err, Option, Result, ◌==◌, nat_le}
use Rattle.console.specs.declared.number.NumberFault.{NumberFault}
use Rattle.console.specs.declared.number.NumberFault.TheVariants.{NoNumber, OutOfRange}
use Rattle.console.specs.declared.number.Radix.{Radix}
use Rattle.console.specs.declared.number.Radix.TheVariants.{Decimal, Hexadecimal}

-- what the digits count by
abbrev pub base_of : Radix → ℕ
base_of Decimal = 10
base_of Hexadecimal = 16

-- from first to last, by their codes
abbrev pub between : ℕ → ℕ → ℕ → Bool
between first last byte = nat_le first byte && nat_le byte last

-- the value of a digit: 0 to 9, and if hexadecimal A to F, capital or small
abbrev pub digit_of : Radix → ℕ → Option ℕ
digit_of Decimal byte = cond (between 48 57 byte) (Some (byte - 48)) None
digit_of Hexadecimal byte =
    cond (between 48 57 byte) (Some (byte - 48)) (
    cond (between 65 70 byte) (Some (byte - 65 + 10)) (
    cond (between 97 102 byte) (Some (byte - 97 + 10)) None))

-- what follows from a value, if there is one
abbrev pub and_then : Option ℕ → (ℕ → Option ℕ) → Option ℕ
and_then None f = None
and_then (Some d) f = f d

-- the value of digits that follow those of value v; none if one of the bytes is no digit
abbrev pub value_after : Radix → ℕ → List ℕ → Option ℕ
value_after radix v [] = Some v
value_after radix v (byte ∷ bytes) =
    and_then (digit_of radix byte) (λ d. value_after radix (v * base_of radix + d) bytes)

-- a value that is there and at most the given one
abbrev pub limited : ℕ → Option ℕ → Result ℕ NumberFault
limited most None = Err NoNumber
limited most (Some v) = cond (nat_le v most) (Ok v) (Err OutOfRange)

-- the number that a word writes: one digit at least, and at most the given number
abbrev pub number_of : Radix → ℕ → List ℕ → Result ℕ NumberFault
number_of radix most word = cond (length word == 0) (Err NoNumber) (limited most (value_after radix 0 word))
