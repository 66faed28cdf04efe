-- The verdict of FT1.2 on the frame of a content is that content.
use Rattle.std.specs.Prelude.{◌≡◌, ℕ, suc, ◌+◌, ◌-◌, true, ◌&&◌, leb, List, [], ◌∷◌, ◌++◌, map, length, take, drop, Ok, ◌==◌, nat_eq, nat_le, slice_index, slice_index_or, slice_range, refl}
use Rattle.std.proofs.Common.{sym, ap, ap₂, ◌∙◌, arith}
use Rattle.frame.proofs.Bursts.{line_is}
use Rattle.frame.specs.Contents.{Meaning, single, fixed, variable, Valid}
use Rattle.frame.specs.Verdicts.{after, line_checked, symbols_checked}
use Rattle.ft12.specs.Sizes.{Octets, narrow, octets_length, size}
use Rattle.ft12.specs.SymbolsLemmas.{octet_symbol, symbol_sound}
use Rattle.ft12.specs.Frames.{check_of, frame_of, octets_of}
use Rattle.ft12.specs.Symbols.{is_sound, octet_of, symbol_of}
use Rattle.ft12.specs.Verdicts.{close_checked, octets_verdict, variable_verdict, verdict_of}
use Rattle.std.proofs.lemmas.List.{get_or-append-add, get_or_at, take_at}
use Rattle.std.proofs.lemmas.Bool.Decides.{nat_tests}

symbols_pass : (os : List ℕ) (i : ℕ) → Octets os → symbols_checked is_sound i (map symbol_of os) ≡ Ok tt
symbols_pass [] i h = refl
symbols_pass (x ∷ xs) i h = rw (symbol_sound x h.0) (symbols_pass xs (i + 1) h.1)

decoded : (os : List ℕ) → Octets os → map octet_of (map symbol_of os) ≡ os
decoded [] h = refl
decoded (x ∷ xs) h = ap₂ ◌∷◌ (octet_symbol x h.0) (decoded xs h.1)

close_passes :
    (os : List ℕ) (first place : ℕ) →
    slice_index os place ≡ check_of (slice_range os first place) →
    slice_index os (place + 1) ≡ 0x16 →
    close_checked os first place ≡ Ok tt
close_passes os first place check end =
    let t : nat_eq (slice_index os place) (check_of (slice_range os first place)) ≡ true = grind (arith, nat_tests) in
    let u : nat_eq (slice_index os (place + 1)) 0x16 ≡ true = grind (arith, nat_tests) in
    rw (t, u) refl

-- a variable frame that passes every check
pub counted_passes :
    (os : List ℕ) (l : ℕ) →
    nat_le 4 (length os) ≡ true →
    slice_index os 1 ≡ l →
    (nat_le 3 l && nat_le l 66) ≡ true →
    (slice_index os 2 == l) ≡ true →
    (slice_index os 3 == 0x68) ≡ true →
    (length os == l + 6) ≡ true →
    close_checked os 4 (l + 4) ≡ Ok tt →
    variable_verdict os ≡ Ok (variable (slice_index os 4) (slice_index os 5) (take (l - 2) (drop 6 os)))
counted_passes os l many at fine again start right close = rw (many, at, fine, again, start, right, close) refl

octets_accepted : (m : Meaning) → Valid m → octets_verdict (octets_of m) ≡ Ok m
octets_accepted single v = refl
octets_accepted (fixed c a) v =
    let os = octets_of (fixed c a) in
    ap (λ r. after r (Ok (fixed c a))) (close_passes os 1 3 refl refl)
octets_accepted (variable c a us) v =
    let n = length us in
    let l = n + 2 in
    let k = check_of (c ∷ a ∷ us) in
    let tail = k ∷ 0x16 ∷ [] in
    let os = octets_of (variable c a us) in
    let long : length os ≡ n + 8 = octets_length c a us in
    let many : leb 4 (length os) ≡ true = grind (arith, nat_tests) in
    let fine : (nat_le 3 l && nat_le l 66) ≡ true = grind (arith, nat_tests) in
    let again : nat_eq l l ≡ true = grind (arith, nat_tests) in
    let right : nat_eq (length os) (l + 6) ≡ true = grind (arith, nat_tests) in
    let six : l + 4 ≡ suc (suc (suc (suc (suc (suc n))))) = omega arith in
    let seven : l + 4 + 1 ≡ suc (suc (suc (suc (suc (suc (n + 1)))))) = omega arith in
    let two : l + 4 - 4 ≡ suc (suc n) = omega arith in
    let none : l - 2 ≡ n = omega arith in
    let last : slice_index_or os (l + 4) 0 ≡ k = rw six (get_or_at us k (0x16 ∷ []) 0 n refl) in
    let end : slice_index_or os (l + 4 + 1) 0 ≡ 0x16 = rw seven (get_or-append-add us tail 1 0) in
    let users : take n (us ++ tail) ≡ us = take_at us tail n refl in
    let covered : take (l + 4 - 4) (drop 4 os) ≡ c ∷ a ∷ us = rw two (ap (λ z. c ∷ a ∷ z) users) in
    let close : close_checked os 4 (l + 4) ≡ Ok tt = close_passes os 4 (l + 4) (last ∙ ap check_of (sym covered)) end in
    counted_passes os l many refl fine again refl right close ∙ ap (λ z. Ok (variable c a z)) (ap (λ j. take j (us ++ tail)) none ∙ users)

pub accepted : (m : Meaning) → Valid m → verdict_of (frame_of m) ≡ Ok m
accepted m v =
    let f = frame_of m in
    let s = size m v in
    let n = narrow m v in
    let passes : line_checked is_sound 72 f ≡ Ok tt = line_is is_sound 72 f s.0 s.1 ∙ symbols_pass (octets_of m) 0 n in
    ap (λ l. after l (octets_verdict (map octet_of f))) passes ∙ ap octets_verdict (decoded (octets_of m) n) ∙ octets_accepted m v
