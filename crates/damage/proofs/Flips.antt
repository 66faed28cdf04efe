-- A list of flips as a loop goes through it: which are within, which were given before, and what they leave.
use Rattle.std.proofs.Common.{◌≡◌, ℕ, zero, suc, ◌+◌, ◌/◌, ◌%◌, ◌^◌, ◌<◌, Bool, true, false, cond, ◌&&◌, ◌||◌, eqb, ltb, List, [], ◌∷◌, ◌++◌, length, get_or, take, set, Ok, Err, Result, sym, refl, ap, ◌∙◌, subst, ap₂, ⊎_elim, arith}
use native.Mathlib.Nat.{zero-div}
use lib.Bits.{bit_xor, xor_self}
use Rattle.damage.proofs.Digits.{bit_of_pow, bit_of_xor, digit_or, xor_swap}
use Rattle.damage.specs.Damages.{all_within, among, differs, flipped, inverted, is_within, same_bit, twice}
use Rattle.damage.specs.declared.DamageError.{DamageError}
use Rattle.damage.specs.declared.DamageError.TheVariants.{FlipTwice}
use Rattle.damage.specs.declared.Flip.{Flip}
use Rattle.frame.specs.Controls.{digit}
use Rattle.std.proofs.lemmas.List.{get_or-set_other, get_or-set_same, length-set, take_more}
use Rattle.std.proofs.lemmas.Bool.{and_from, and_parts, both_ways, cases_eq, eq-eqb, eqb-true, false≢true, ltb-true, lt-ltb, ne_eqb, or_cases}
use Rattle.std.proofs.lemmas.Bool.Decides.{nat_tests}
use Rattle.std.specs.List.{list_all}

-- every flip of a list that is within
pub within_at :
    (n w : ℕ) (fs : List Flip) (i : ℕ) (d : Flip) →
    all_within n w fs ≡ true →
    i < length fs →
    is_within n w (get_or fs i d) ≡ true
unfolding all_within
within_at n w [] i d h l = absurd (omega arith)
within_at n w (f ∷ fs) zero d h l = (and_parts (is_within n w f) (all_within n w fs) h).0
within_at n w (f ∷ fs) (suc i) d h l =
    within_at n w fs i d (and_parts (is_within n w f) (all_within n w fs) h).1 (omega arith)

-- whether all are within, as a call of `all` finds it out
pub within_all : (n w : ℕ) (fs : List Flip) → list_all (is_within n w) fs ≡ all_within n w fs
unfolding all_within
within_all n w [] = refl
within_all n w (f ∷ fs) = ap (λ b. is_within n w f && b) (within_all n w fs)

-- a flip that is within
pub within_parts : (n w : ℕ) (f : Flip) → is_within n w f ≡ true → (f.place < n) × (f.bit < w) × (f.bit < 16)
within_parts n w f h =
    let a = and_parts (ltb f.place n) (ltb f.bit w && ltb f.bit 16) h in
    let b = and_parts (ltb f.bit w) (ltb f.bit 16) a.1 in
    (ltb-true f.place n a.0, ltb-true f.bit w b.0, ltb-true f.bit 16 b.1)

-- whatever the width, the bits are among 16
pub within_16 : (n w : ℕ) (fs : List Flip) → all_within n w fs ≡ true → all_within n 16 fs ≡ true
unfolding all_within
within_16 n w [] h = refl
within_16 n w (f ∷ fs) h =
    let both = and_parts (is_within n w f) (all_within n w fs) h in
    let p = within_parts n w f both.0 in
    let bit = lt-ltb f.bit 16 p.2 in
    let first = and_from (ltb f.place n) (ltb f.bit 16 && ltb f.bit 16) (lt-ltb f.place n p.0) (and_from (ltb f.bit 16) (ltb f.bit 16) bit bit) in
    and_from (is_within n 16 f) (all_within n 16 fs) first (within_16 n w fs both.1)

pub flipped_push : (fs : List Flip) (f : Flip) (ss : List ℕ) → flipped (fs ++ f ∷ []) ss ≡ inverted f (flipped fs ss)
unfolding flipped
flipped_push [] f ss = refl
flipped_push (g ∷ fs) f ss = flipped_push fs f (inverted g ss)

pub length_flipped : (fs : List Flip) (ss : List ℕ) → length (flipped fs ss) ≡ length ss
unfolding flipped
length_flipped [] ss = refl
length_flipped (f ∷ fs) ss =
    length_flipped fs (inverted f ss) ∙ length-set ss f.place (bit_xor (get_or ss f.place 0) (2 ^ f.bit))

or_false : (b : Bool) → (b || false) ≡ b
or_false true = refl
or_false false = refl

or_assoc : (a b c : Bool) → (a || (b || c)) ≡ ((a || b) || c)
or_assoc true b c = refl
or_assoc false b c = refl

or_swap : (a s t m : Bool) → ((a || s) || (t || m)) ≡ ((a || t) || (s || m))
or_swap true s t m = refl
or_swap false true true m = refl
or_swap false true false m = refl
or_swap false false t m = refl

same_sym : (f g : Flip) → same_bit f g ≡ same_bit g f
same_sym f g = grind (arith, nat_tests)

pub among_push : (g : Flip) (fs : List Flip) (f : Flip) → among g (fs ++ f ∷ []) ≡ (among g fs || same_bit g f)
unfolding among
among_push g [] f = or_false (same_bit g f)
among_push g (h ∷ fs) f = ap (λ b. same_bit g h || b) (among_push g fs f) ∙ or_assoc (same_bit g h) (among g fs) (same_bit g f)

twice_push : (fs : List Flip) (f : Flip) → twice (fs ++ f ∷ []) ≡ (twice fs || among f fs)
unfolding twice among
twice_push [] f = refl
twice_push (g ∷ fs) f =
    ap₂ ◌||◌ (among_push g fs f) (twice_push fs f) ∙
    or_swap (among g fs) (same_bit g f) (twice fs) (among f fs) ∙
    ap (λ b. (among g fs || twice fs) || (b || among f fs)) (same_sym g f)

or_true : (a b : Bool) → b ≡ true → (a || b) ≡ true
or_true true b h = refl
or_true false b h = h

among_front : (f : Flip) (n : ℕ) (fs : List Flip) → among f (take n fs) ≡ true → among f fs ≡ true
unfolding among
among_front f zero fs h = absurd (false≢true h)
among_front f (suc n) [] h = h
among_front f (suc n) (g ∷ fs) h =
    ⊎_elim (λ (e : same_bit f g ≡ true). ap (λ b. b || among f fs) e)
    (λ (e : among f (take n fs) ≡ true). or_true (same_bit f g) (among f fs) (among_front f n fs e))
    (or_cases (same_bit f g) (among f (take n fs)) h)

twice_front : (n : ℕ) (fs : List Flip) → twice (take n fs) ≡ true → twice fs ≡ true
unfolding twice
twice_front zero fs h = absurd (false≢true h)
twice_front (suc n) [] h = h
twice_front (suc n) (f ∷ fs) h =
    ⊎_elim (λ (e : among f (take n fs) ≡ true). ap (λ b. b || twice fs) (among_front f n fs e))
    (λ (e : twice (take n fs) ≡ true). or_true (among f fs) (twice fs) (twice_front n fs e))
    (or_cases (among f (take n fs)) (twice (take n fs)) h)

-- which bits differ from those that were sent: those that were inverted
abbrev pub Marks : List ℕ → List ℕ → List Flip → Type 0
Marks sent heard fs =
    (p b : ℕ) → bit_xor (get_or heard p 0) (get_or sent p 0) / 2 ^ b % 2 ≡ digit (among (record { place = p; bit = b }) fs)

pub marks_none : (sent : List ℕ) → Marks sent sent []
unfolding among
marks_none sent p b =
    ap (λ n. n / 2 ^ b % 2) (xor_self (get_or sent p 0)) ∙ (let none = zero-div (2 ^ b) in omega arith)

-- bit b of place p is inverted
marks_here :
    (sent heard : List ℕ) (fs : List Flip) (p b c : ℕ) →
    p < length heard →
    among (record { place = p; bit = c }) fs ≡ false →
    Marks sent heard fs →
    bit_xor (bit_xor (get_or heard p 0) (2 ^ c)) (get_or sent p 0) / 2 ^ b % 2 ≡ digit (among (record { place = p; bit = b }) fs || eqb b c)
marks_here sent heard fs p b c l new marks =
    let h = get_or heard p 0 in
    let s = get_or sent p 0 in
    let before = among (record { place = p; bit = b }) fs in
    ap (λ n. n / 2 ^ b % 2) (xor_swap h (2 ^ c) s) ∙
    bit_of_xor (bit_xor h s) (2 ^ c) b ∙
    ap₂ bit_xor (marks p b) (bit_of_pow b c) ∙
    digit_or before (eqb b c) (λ e. ap (λ n. among (record { place = p; bit = n }) fs) (eqb-true b c e) ∙ new)

pub marks_more :
    (sent heard : List ℕ) (fs : List Flip) (f : Flip) →
    f.place < length heard →
    among f fs ≡ false →
    Marks sent heard fs →
    Marks sent (inverted f heard) (fs ++ f ∷ [])
marks_more sent heard fs f l new marks p b =
    let q = f.place in
    let c = f.bit in
    let x = bit_xor (get_or heard q 0) (2 ^ c) in
    let g : Flip = record { place = p; bit = b } in
    let pushed = ap digit (among_push g fs f) in
    ⊎_elim
    (λ (e : p ≡ q).
    let read : get_or (set heard q x) p 0 ≡ bit_xor (get_or heard p 0) (2 ^ c) =
    ap (λ n. get_or (set heard q x) n 0) e ∙ get_or-set_same heard q x 0 l ∙ ap (λ n. bit_xor (get_or heard n 0) (2 ^ c)) (sym e)
    in
    let there = marks_here sent heard fs p b c (rw e l) (ap (λ n. among (record { place = n; bit = c }) fs) e ∙ new) marks in
    ap (λ n. bit_xor n (get_or sent p 0) / 2 ^ b % 2) read ∙ there ∙
    sym (pushed ∙ ap (λ t. digit (among g fs || (t && eqb b c))) (eq-eqb p q e)))
    (λ (e : p ≡ q → ⊥).
    ap (λ n. bit_xor n (get_or sent p 0) / 2 ^ b % 2) (get_or-set_other heard q p x 0 e) ∙ marks p b ∙
    sym (pushed ∙ ap (λ t. digit (among g fs || (t && eqb b c))) (ne_eqb p q e) ∙ ap digit (or_false (among g fs))))
    (cases_eq p q)

-- what holds after so many flips
pub record Inverting (sent heard : List ℕ) (fs : List Flip) : Type 0 where
  pub far : heard ≡ flipped fs sent
  pub once : twice fs ≡ false
  pub marks : Marks sent heard fs

pub inverting_none : (sent heard : List ℕ) → heard ≡ sent → Inverting sent heard []
unfolding flipped twice
inverting_none sent heard e =
    record { far = e; once = refl; marks = subst (λ ss. Marks sent ss []) (sym e) (marks_none sent) }

is_off : (b : Bool) (n : ℕ) → n ≡ digit b → eqb n 1 ≡ false → b ≡ false
is_off true n e h = absurd (both_ways (eqb n 1) h (eq-eqb n 1 e))
is_off false n e h = refl

is_on : (b : Bool) (n : ℕ) → n ≡ digit b → eqb n 1 ≡ true → b ≡ true
is_on true n e h = refl
is_on false n e h = let one = eqb-true n 1 h in absurd (omega arith)

-- what an inversion answers
abbrev pub refusal : Bool → Result (Unit {0}) DamageError
refusal b = cond b (Err FlipTwice) (Ok tt)

pub refused : (b : Bool) (r : Result (Unit {0}) DamageError) (e : DamageError) → r ≡ refusal b → r ≡ Err e → (b ≡ true) × (e ≡ FlipTwice)
refused true r e h k = (refl, cc)
refused false r e h k = (cc, cc)

pub passed : (b : Bool) (r : Result (Unit {0}) DamageError) → r ≡ refusal b → r ≡ Ok tt → b ≡ false
passed true r h k = cc
passed false r h k = refl

-- the next flip of a list
module _ (sent heard : List ℕ) (fs : List Flip) (i : ℕ) (d : Flip) (l : i < length fs) (so_far : Inverting sent heard (take i fs)) where
  abbrev next : Flip
  next = get_or fs i d

  abbrev sent_bit : ℕ
  sent_bit = bit_xor (get_or heard next.place 0) (get_or sent next.place 0) / 2 ^ next.bit % 2

  as_long : length heard ≡ length sent
  as_long = ap length so_far.far ∙ length_flipped (take i fs) sent

  -- it may be tried
  pub may-invert :
      all_within (length sent) 16 fs ≡ true →
      (length heard ≡ length sent) × ((next.place < length sent) × (next.bit < 16))
  may-invert h =
      let p = within_parts (length sent) 16 next (within_at (length sent) 16 fs i d h l) in (as_long, (p.0, p.1))

  -- its bit is as it was sent: it is inverted
  pub inverting-more :
      next.place < length sent → differs next heard sent ≡ false → Inverting sent (inverted next heard) (take (i + 1) fs)
  inverting-more here off =
      let new : among next (take i fs) ≡ false = is_off (among next (take i fs)) sent_bit (so_far.marks next.place next.bit) off in
      let P : List Flip → Type 0 = λ gs. Inverting sent (inverted next heard) gs in
      let long = as_long in
      subst P (sym (take_more fs i d l)) (record {
        far = ap (inverted next) so_far.far ∙ sym (flipped_push (take i fs) next sent);
        once = twice_push (take i fs) next ∙ ap₂ ◌||◌ so_far.once new;
        marks = marks_more sent heard (take i fs) next (omega arith) new so_far.marks;
      })

  -- its bit is not as it was sent: it was given before
  pub given_before : differs next heard sent ≡ true → twice fs ≡ true
  given_before on =
      let old : among next (take i fs) ≡ true = is_on (among next (take i fs)) sent_bit (so_far.marks next.place next.bit) on in
      twice_front (i + 1) fs (ap twice (take_more fs i d l) ∙ twice_push (take i fs) next ∙ or_true (twice (take i fs)) (among next (take i fs)) old)
