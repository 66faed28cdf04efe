-- Lemmas on the value of digits, as the loop over a word goes through them.
use Rattle.std.proofs.Common.{◌≡◌, ℕ, ◌+◌, ◌*◌, ◌<◌, ◌≤◌, min, false, eqb, List, [], ◌∷◌, length, get_or, drop, Some, None, refl, ap, inl, inr, arith}
use Rattle.std.proofs.lemmas.Bool.{cases_lt}
use Rattle.console.specs.Numbers.{and_then, base_of, digit_of, limited, number_of, value_after}
use Rattle.console.specs.declared.number.Radix.{Radix}
use Rattle.console.specs.declared.number.Radix.TheVariants.{Decimal, Hexadecimal}
use Rattle.std.proofs.lemmas.List.{drop_more, drop_all}
use Rattle.std.proofs.lemmas.Bool.Decides.{nat_tests}

-- one more digit does not make a value smaller
grows : (radix : Radix) (most v d : ℕ) → most < v → most < v * base_of radix + d
grows Decimal most v d h = omega arith
grows Hexadecimal most v d h = omega arith

-- a value over the limit stays over it, whatever digits follow
pub beyond :
    (radix : Radix) (most u v : ℕ) (bytes : List ℕ) →
    most < u →
    most < v →
    limited most (value_after radix u bytes) ≡ limited most (value_after radix v bytes)
beyond radix most u v [] h k = grind (arith, nat_tests)
beyond radix most u v (byte ∷ bytes) h k =
    elim (digit_of radix byte) as (λ o. limited most (and_then o (λ d. value_after radix (u * base_of radix + d) bytes)) ≡ limited most (and_then o (λ d. value_after radix (v * base_of radix + d) bytes))) [
      | None ↦ refl
      | Some d ↦ beyond radix most (u * base_of radix + d) (v * base_of radix + d) bytes (grows radix most u d h) (grows radix most v d k)
    ]

-- a value may be held at the first number that is over every limit
capped :
    (radix : Radix) (most x w : ℕ) (bytes : List ℕ) →
    most < 65536 →
    w ≡ min x 65536 →
    limited most (value_after radix w bytes) ≡ limited most (value_after radix x bytes)
capped radix most x w bytes k m =
    elim (cases_lt x 65536) [
      | inl below ↦ let e : w ≡ x = omega arith in ap (λ v. limited most (value_after radix v bytes)) e
      | inr over ↦ beyond radix most w x bytes (omega arith) (omega arith)
    ]

pub number_is :
    (radix : Radix) (most : ℕ) (word : List ℕ) →
    eqb (length word) 0 ≡ false →
    number_of radix most word ≡ limited most (value_after radix 0 word)
number_is radix most word e = rw e refl

pub one_digit :
    (radix : Radix) (most v w b d i : ℕ) (word : List ℕ) →
    i < length word →
    digit_of radix (get_or word i 0) ≡ Some d →
    most < 65536 →
    b ≡ base_of radix →
    w ≡ min (v * b + d) 65536 →
    limited most (value_after radix w (drop (i + 1) word)) ≡ limited most (value_after radix v (drop i word))
one_digit radix most v w b d i word h is_digit k p m =
    let same : w ≡ min (v * base_of radix + d) 65536 = cc in
    rw (drop_more word i 0 h, is_digit) (capped radix most (v * base_of radix + d) w (drop (i + 1) word) k same)

pub no_more :
    (radix : Radix) (most v i : ℕ) (word : List ℕ) →
    length word ≤ i →
    limited most (value_after radix v (drop i word)) ≡ limited most (Some v)
no_more radix most v i word h = rw (drop_all i word h) refl
