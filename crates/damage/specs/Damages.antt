-- What is heard of a burst that is cut short and has bits inverted, and which damage a line may do to it.
use Rattle.std.specs.Prelude.{◌≡◌, ℕ, ◌/◌, ◌%◌, ◌^◌, Bool, true, false, cond, not, ◌&&◌, ◌||◌, ◌⊎◌, List, [], ◌∷◌, length, take, Some, None, Ok, Err, vec_items, Option, Result, Vec, ◌==◌, bit_xor, nat_le, nat_lt, slice_index, slice_set}
use Rattle.damage.specs.declared.DamageError.{DamageError}
use Rattle.damage.specs.declared.DamageError.TheVariants.{NothingCut, FlipOutside, FlipTwice, BeyondGuard, OutOfMemory}
use Rattle.damage.specs.declared.Flip.{Flip}
use Rattle.std.specs.declared.alloc.Global.{Global}

-- what a cut leaves of a burst
abbrev pub rest : Option ℕ → List ℕ → List ℕ
rest None ss = ss
rest (Some n) ss = take n ss

-- whether a cut, if there is one, leaves off something
abbrev pub shortens : Option ℕ → List ℕ → Bool
shortens None ss = true
shortens (Some n) ss = nat_lt n (length ss)

-- one bit of one symbol inverted
abbrev pub inverted : Flip → List ℕ → List ℕ
inverted f ss = slice_set ss f.place (bit_xor (slice_index ss f.place) (2 ^ f.bit))

-- whether a bit is not as it was sent
abbrev pub differs : Flip → List ℕ → List ℕ → Bool
differs f heard sent = bit_xor (slice_index heard f.place) (slice_index sent f.place) / 2 ^ f.bit % 2 == 1

-- each flip in turn
unfoldable pub flipped : List Flip → List ℕ → List ℕ
flipped [] ss = ss
flipped (f ∷ fs) ss = flipped fs (inverted f ss)

-- what is heard of a burst
abbrev pub heard : Option ℕ → List Flip → List ℕ → List ℕ
heard cut fs ss = flipped fs (rest cut ss)

-- whether a flip is of one of so many symbols, and of a bit within the width and the 16 bits of a symbol
abbrev pub is_within : ℕ → ℕ → Flip → Bool
is_within count width f = nat_lt f.place count && (nat_lt f.bit width && nat_lt f.bit 16)

-- whether all flips are
unfoldable pub all_within : ℕ → ℕ → List Flip → Bool
all_within count width [] = true
all_within count width (f ∷ fs) = is_within count width f && all_within count width fs

-- whether two flips are of one bit
abbrev pub same_bit : Flip → Flip → Bool
same_bit f g = f.place == g.place && f.bit == g.bit

-- whether a flip is among these
unfoldable pub among : Flip → List Flip → Bool
among f [] = false
among f (g ∷ gs) = same_bit f g || among f gs

-- whether a flip is given twice
unfoldable pub twice : List Flip → Bool
twice [] = false
twice (f ∷ fs) = among f fs || twice fs

-- the fault, unless the test holds; then what follows
abbrev pub only_if : Bool → DamageError → Result (List ℕ) DamageError → Result (List ℕ) DamageError
only_if test fault next = cond test next (Err fault)

-- what is heard in a format of this width and guard, or why not, in the order of the checks
abbrev pub hearing : ℕ → ℕ → Option ℕ → List Flip → List ℕ → Result (List ℕ) DamageError
hearing width guard cut fs ss =
    only_if (shortens cut ss) NothingCut (
    only_if (all_within (length (rest cut ss)) width fs) FlipOutside (
    only_if (not (twice fs)) FlipTwice (
    only_if (nat_le (length fs) guard) BeyondGuard (
    Ok (heard cut fs ss)))))

-- the answer is this, unless there was no memory
abbrev pub Answers : Result (Vec ℕ Global) DamageError → Result (List ℕ) DamageError → Type 0
Answers (Ok v) told = told ≡ Ok (vec_items v)
Answers (Err e) told = (told ≡ Err e) ⊎ (e ≡ OutOfMemory)
