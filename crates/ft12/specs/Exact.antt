-- The verdict of FT1.2 accepts a burst only if it is the frame of the content that it tells.
use Rattle.std.specs.Prelude.{◌≡◌, ℕ, zero, suc, ◌+◌, ◌-◌, ◌<◌, ◌≤◌, Bool, true, false, cond, ◌&&◌, leb, List, [], ◌∷◌, ◌++◌, map, length, take, drop, Ok, Err, Result, ◌==◌, nat_le, slice_index, slice_index_or, slice_range, refl}
use Rattle.std.proofs.Common.{sym, ap, ap₂, ◌∙◌, subst, arith}
use Rattle.fault.specs.Causes.{fault}
use Rattle.fault.specs.declared.Cause.TheVariants.{BrokenSymbol, LongBurst, WrongStart, WrongLength, WrongCheck, WrongEnd}
use Rattle.fault.specs.declared.Fault.{Fault}
use Rattle.frame.proofs.Bursts.{last_two}
use Rattle.frame.proofs.Verdicts.{after_ok, line_ok, must_ok, same_accepted}
use Rattle.frame.specs.Contents.{Meaning, single, fixed, variable, Valid}
use Rattle.frame.specs.Verdicts.{after, line_checked, must, symbols_checked}
use Rattle.ft12.specs.SymbolsLemmas.{symbol_octet}
use Rattle.ft12.specs.Frames.{check_of, frame_of, octets_of}
use Rattle.ft12.specs.Symbols.{is_sound, octet_of, symbol_of}
use Rattle.ft12.specs.Verdicts.{close_checked, counted_verdict, fixed_verdict, octets_verdict, single_verdict, variable_verdict, verdict_of}
use Rattle.std.proofs.ByRecursion.{All-from_get_or, All-take}
use Rattle.std.proofs.lemmas.List.{get_or-drop, length-drop, length-take}
use Rattle.std.proofs.lemmas.Bool.Decides.{nat_tests}
use Rattle.std.specs.List.{AllByRecursion}

-- the check octet and the end are right
close_ok :
    (os : List ℕ) (first place : ℕ) →
    close_checked os first place ≡ Ok tt →
    (slice_index os place ≡ check_of (slice_range os first place)) × (slice_index os (place + 1) ≡ 0x16)
close_ok os first place e =
    let k = check_of (slice_range os first place) in
    let p = must_ok (slice_index os place == k) (fault WrongCheck place) (must (slice_index os (place + 1) == 0x16) (fault WrongEnd (place + 1)) (Ok tt)) tt e in
    let q = must_ok (slice_index os (place + 1) == 0x16) (fault WrongEnd (place + 1)) (Ok tt) tt p.1 in
    (grind (arith, nat_tests, p.0), grind (arith, nat_tests, q.0))

one_of : (b : List ℕ) → length b ≡ 1 → b ≡ slice_index b 0 ∷ []
one_of [] h = absurd (omega arith)
one_of (p ∷ []) h = refl
one_of (p ∷ q ∷ r) h = absurd (omega arith)

five_of : (b : List ℕ) → length b ≡ 5 → b ≡ slice_index b 0 ∷ slice_index b 1 ∷ slice_index b 2 ∷ slice_index b 3 ∷ slice_index b 4 ∷ []
five_of [] h = absurd (omega arith)
five_of (p ∷ []) h = absurd (omega arith)
five_of (p ∷ q ∷ []) h = absurd (omega arith)
five_of (p ∷ q ∷ r ∷ []) h = absurd (omega arith)
five_of (p ∷ q ∷ r ∷ s ∷ []) h = absurd (omega arith)
five_of (p ∷ q ∷ r ∷ s ∷ t ∷ []) h = refl
five_of (p ∷ q ∷ r ∷ s ∷ t ∷ u ∷ v) h = absurd (omega arith)

-- the first four, and what follows
four_of : (b : List ℕ) → 4 ≤ length b → b ≡ slice_index b 0 ∷ slice_index b 1 ∷ slice_index b 2 ∷ slice_index b 3 ∷ drop 4 b
four_of [] h = absurd (omega arith)
four_of (p ∷ []) h = absurd (omega arith)
four_of (p ∷ q ∷ []) h = absurd (omega arith)
four_of (p ∷ q ∷ r ∷ []) h = absurd (omega arith)
four_of (p ∷ q ∷ r ∷ s ∷ t) h = refl

-- what is covered: control octet, address and user octets
covered_of : (b : List ℕ) (l n : ℕ) → l ≡ suc (suc n) → 6 ≤ length b → take l (drop 4 b) ≡ slice_index b 4 ∷ slice_index b 5 ∷ take n (drop 6 b)
covered_of [] l n h k = absurd (omega arith)
covered_of (p ∷ []) l n h k = absurd (omega arith)
covered_of (p ∷ q ∷ []) l n h k = absurd (omega arith)
covered_of (p ∷ q ∷ r ∷ []) l n h k = absurd (omega arith)
covered_of (p ∷ q ∷ r ∷ s ∷ []) l n h k = absurd (omega arith)
covered_of (p ∷ q ∷ r ∷ s ∷ t ∷ []) l n h k = absurd (omega arith)
covered_of (p ∷ q ∷ r ∷ s ∷ t ∷ u ∷ v) l n h k = rw h refl

-- every element is an octet, and so is 0 past the end
abbrev Each : List ℕ → Type 0
Each os = (i : ℕ) → slice_index os i < 256

each_decoded : (b : List ℕ) → Each (map octet_of b)
each_decoded [] i = omega arith
each_decoded (x ∷ xs) zero = omega arith
each_decoded (x ∷ xs) (suc i) = each_decoded xs i

each_drop : (os : List ℕ) (n : ℕ) → Each os → Each (drop n os)
each_drop os n o i = rw (get_or-drop n os i 0) (o (n + i))

-- the octets are those of a valid content
abbrev Exact : List ℕ → Meaning → Type 0
Exact os m = Valid m × (os ≡ octets_of m)

exact_single : (os : List ℕ) (m : Meaning) → slice_index os 0 ≡ 0xE5 → single_verdict os ≡ Ok m → Exact os m
exact_single os m at e =
    let p = must_ok (length os == 1) (fault WrongLength (length os)) (Ok single) m e in
    let one : length os ≡ 1 = grind (arith, nat_tests, p.0) in
    subst (Exact os) (same_accepted p.1) (tt, one_of os one ∙ ap (λ x. x ∷ []) at)

exact_fixed : (os : List ℕ) (m : Meaning) → Each os → slice_index os 0 ≡ 0x10 → fixed_verdict os ≡ Ok m → Exact os m
exact_fixed os m o at e =
    let c = slice_index_or os 1 0 in
    let a = slice_index_or os 2 0 in
    let p = must_ok (length os == 5) (fault WrongLength (length os)) (after (close_checked os 1 3) (Ok (fixed c a))) m e in
    let q = after_ok (close_checked os 1 3) (Ok (fixed c a)) m p.1 in
    let k = close_ok os 1 3 q.0 in
    let five : length os ≡ 5 = grind (arith, nat_tests, p.0) in
    let whole = five_of os five in
    let covered : take 2 (drop 1 os) ≡ c ∷ a ∷ [] = ap (λ z. take 2 (drop 1 z)) whole in
    subst (Exact os) (same_accepted q.1) (
      (o 1, o 2),
      whole ∙
          ap (λ x. x ∷ c ∷ a ∷ slice_index os 3 ∷ slice_index os 4 ∷ []) at ∙
          ap₂ (λ x y. 0x10 ∷ c ∷ a ∷ x ∷ y ∷ []) (k.0 ∙ ap check_of covered) k.1,
    )

exact_counted :
    (os : List ℕ) (l : ℕ) (m : Meaning) →
    Each os →
    slice_index os 0 ≡ 0x68 →
    slice_index os 1 ≡ l →
    counted_verdict os l ≡ Ok m →
    Exact os m
exact_counted os l m o at0 at1 e =
    let n = l - 2 in
    let c = slice_index_or os 4 0 in
    let a = slice_index_or os 5 0 in
    let us = take n (drop 6 os) in
    let r4 : Result Meaning Fault = after (close_checked os 4 (l + 4)) (Ok (variable c a us)) in
    let r3 = must (length os == l + 6) (fault WrongLength (length os)) r4 in
    let r2 = must (slice_index os 3 == 0x68) (fault WrongLength 3) r3 in
    let r1 = must (slice_index os 2 == l) (fault WrongLength 2) r2 in
    let p0 = must_ok (nat_le 3 l && nat_le l 66) (fault WrongLength 1) r1 m e in
    let p1 = must_ok (slice_index os 2 == l) (fault WrongLength 2) r2 m p0.1 in
    let p2 = must_ok (slice_index os 3 == 0x68) (fault WrongLength 3) r3 m p1.1 in
    let p3 = must_ok (length os == l + 6) (fault WrongLength (length os)) r4 m p2.1 in
    let p4 = after_ok (close_checked os 4 (l + 4)) (Ok (variable c a us)) m p3.1 in
    let k = close_ok os 4 (l + 4) p4.0 in
    let some : 3 ≤ l = grind (arith, nat_tests, p0.0) in
    let few : l ≤ 66 = grind (arith, nat_tests, p0.0) in
    let again : slice_index_or os 2 0 ≡ l = grind (arith, nat_tests, p1.0) in
    let start : slice_index_or os 3 0 ≡ 0x68 = grind (arith, nat_tests, p2.0) in
    let long : length os ≡ l + 6 = grind (arith, nat_tests, p3.0) in
    let count : length us ≡ n = simp (length-take, length-drop) (omega arith) in
    let l_is : l ≡ length us + 2 = omega (arith, count, some) in
    let octets : AllByRecursion (λ u. u < 256) us = All-take (λ u. u < 256) n (drop 6 os) (All-from_get_or (λ u. u < 256) (drop 6 os) 0 (λ i h. each_drop os 6 o i)) in
    let covered : take l (drop 4 os) ≡ c ∷ a ∷ us = covered_of os l n (omega (arith, some)) (omega (arith, long, some)) in
    let back : l + 4 - 4 ≡ l = omega arith in
    let check : slice_index_or os (l + 4) 0 ≡ check_of (c ∷ a ∷ us) = k.0 ∙ ap (λ j. check_of (take j (drop 4 os))) back ∙ ap check_of covered in
    let l4 : 4 + l ≡ l + 4 = omega arith in
    let l5 : 4 + (l + 1) ≡ l + 4 + 1 = omega arith in
    let s_is : slice_index_or (drop 4 os) l 0 ≡ check_of (c ∷ a ∷ us) = get_or-drop 4 os l 0 ∙ ap (λ j. slice_index os j) l4 ∙ check in
    let end_is : slice_index_or (drop 4 os) (l + 1) 0 ≡ 0x16 = get_or-drop 4 os (l + 1) 0 ∙ ap (λ j. slice_index os j) l5 ∙ k.1 in
    let rest : drop 4 os ≡ c ∷ a ∷ us ++ (check_of (c ∷ a ∷ us) ∷ 0x16 ∷ []) =
    last_two (drop 4 os) l (simp length-drop (omega (arith, long))) ∙ ap (λ z. z ++ (slice_index (drop 4 os) l ∷ slice_index (drop 4 os) (l + 1) ∷ [])) covered ∙ ap₂ (λ x y. c ∷ a ∷ us ++ (x ∷ y ∷ [])) s_is end_is
    in
    subst (Exact os) (same_accepted p4.1) (
      (o 4, o 5, omega (arith, l_is, some), omega (arith, l_is, few), octets),
      four_of os (omega (arith, long)) ∙
          ap₂ (λ x y. x ∷ y ∷ slice_index os 2 ∷ slice_index os 3 ∷ drop 4 os) at0 (at1 ∙ l_is) ∙
          ap₂ (λ x y. 0x68 ∷ (length us + 2) ∷ x ∷ y ∷ drop 4 os) (again ∙ l_is) start ∙
          ap (λ z. 0x68 ∷ (length us + 2) ∷ (length us + 2) ∷ 0x68 ∷ z) rest,
    )

exact_variable : (os : List ℕ) (m : Meaning) → Each os → slice_index os 0 ≡ 0x68 → variable_verdict os ≡ Ok m → Exact os m
exact_variable os m o at e =
    let p = must_ok (nat_le 4 (length os)) (fault WrongLength (length os)) (counted_verdict os (slice_index os 1)) m e in
    exact_counted os (slice_index os 1) m o at refl p.1

exact_start :
    (os : List ℕ) (s : ℕ) (m : Meaning) (x y z : Bool) →
    Each os →
    slice_index os 0 ≡ s →
    (s == 0xE5) ≡ x →
    (s == 0x10) ≡ y →
    (s == 0x68) ≡ z →
    cond x (single_verdict os) (cond y (fixed_verdict os) (cond z (variable_verdict os) (Err (fault WrongStart 0)))) ≡ Ok m →
    Exact os m
exact_start os s m true y z o at ex ey ez e = exact_single os m (grind (arith, nat_tests)) e
exact_start os s m false true z o at ex ey ez e = exact_fixed os m o (grind (arith, nat_tests)) e
exact_start os s m false false true o at ex ey ez e = exact_variable os m o (grind (arith, nat_tests)) e
exact_start os s m false false false o at ex ey ez e = let w : ◌≡◌ {A = ℕ} 0 1 = cc in absurd (omega arith)

exact_octets : (os : List ℕ) (m : Meaning) → Each os → octets_verdict os ≡ Ok m → Exact os m
exact_octets os m o e =
    let s = slice_index_or os 0 0 in
    exact_start os s m (s == 0xE5) (s == 0x10) (s == 0x68) o refl refl refl refl e

-- sound symbols are those of their octets
coded_again : (b : List ℕ) (i : ℕ) → symbols_checked is_sound i b ≡ Ok tt → map symbol_of (map octet_of b) ≡ b
coded_again [] i e = refl
coded_again (x ∷ xs) i e =
    let p = must_ok (is_sound x) (fault BrokenSymbol i) (symbols_checked is_sound (i + 1) xs) tt e in
    ap₂ ◌∷◌ (symbol_octet x p.0) (coded_again xs (i + 1) p.1)

pub exact : (b : List ℕ) (m : Meaning) → verdict_of b ≡ Ok m → Valid m × (b ≡ frame_of m)
exact b m e =
    let os = map octet_of b in
    let p = after_ok (line_checked is_sound 72 b) (octets_verdict os) m e in
    let inner = exact_octets os m (each_decoded b) p.1 in
    (inner.0, sym (coded_again b 0 (line_ok is_sound 72 b p.0).2) ∙ ap (map symbol_of) inner.1)

-- a burst over the longest frame
pub too_long : (b : List ℕ) → length b ≡ 73 → verdict_of b ≡ Err (fault LongBurst 0)
too_long b h =
    let some : leb 1 (length b) ≡ true = grind (arith, nat_tests) in
    let many : leb (length b) 72 ≡ false = grind (arith, nat_tests) in
    rw (some, many) refl
