-- The distance of two bursts: of their parts, and where it is 0.
use Rattle.std.proofs.Common.{◌≡◌, ℕ, ◌+◌, ◌≤◌, List, [], ◌∷◌, ◌++◌, length, sym, refl, ap, ◌∙◌, ap₂, arith}
use lib.Bits.{bit_xor, xor_assoc, xor_self, xor_zero_r, xor_zero_l}
use lib.Count.{ones, ones_in}
use Rattle.frame.specs.Damage.{distance}
use Rattle.std.proofs.lemmas.Nat.{zero_from_ones}

pub same_symbol : (x y : ℕ) → ones (bit_xor x y) ≡ 0 → x ≡ y
same_symbol x y e =
    let z : bit_xor x y ≡ 0 = zero_from_ones (bit_xor x y) e in
    sym (xor_assoc x y y ∙ ap (bit_xor x) (xor_self y) ∙ xor_zero_r x) ∙ ap (λ n. bit_xor n y) z ∙ xor_zero_l y

pub none_inverted : (xs : List ℕ) → distance xs xs ≡ 0
unfolding ones ones_in
none_inverted [] = refl
none_inverted (x ∷ xs) = let e : ones (bit_xor x x) ≡ 0 = ap ones (xor_self x) in omega (arith, e, none_inverted xs)

pub same_at_zero : (xs ys : List ℕ) → length xs ≡ length ys → distance xs ys ≤ 0 → xs ≡ ys
same_at_zero [] [] l d = refl
same_at_zero [] (y ∷ ys) l d = absurd (omega arith)
same_at_zero (x ∷ xs) [] l d = absurd (omega arith)
same_at_zero (x ∷ xs) (y ∷ ys) l d =
    ap₂ ◌∷◌ (same_symbol x y (omega arith)) (same_at_zero xs ys (omega arith) (omega arith))

pub distance_append :
    (xs ys us vs : List ℕ) → length xs ≡ length ys → distance (xs ++ us) (ys ++ vs) ≡ distance xs ys + distance us vs
distance_append [] [] us vs l = omega arith
distance_append [] (y ∷ ys) us vs l = absurd (omega arith)
distance_append (x ∷ xs) [] us vs l = absurd (omega arith)
distance_append (x ∷ xs) (y ∷ ys) us vs l = omega (arith, distance_append xs ys us vs (omega arith))
