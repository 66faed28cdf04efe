-- Frames of FT1.2 are not empty, not over 72 symbols, and each symbol fits 11 bits.
use Rattle.std.specs.Prelude.{◌≡◌, ℕ, ◌+◌, ◌<◌, ◌≤◌, List, [], ◌∷◌, map, length}
use Rattle.std.proofs.Common.{ap, ◌∙◌, arith}
use Rattle.frame.specs.Contents.{Meaning, single, fixed, variable, Valid}
use Rattle.frame.specs.Damage.{Fits}
use Rattle.frame.specs.Laws.{SizeLaw}
use Rattle.ft12.specs.SymbolsLemmas.{symbol_fits}
use Rattle.ft12.specs.Frames.{check_of, frame_of, octets_of}
use Rattle.ft12.specs.Symbols.{symbol_of}
use Rattle.std.proofs.ByRecursion.{All-append}
use Rattle.std.proofs.lemmas.List.{length-append, length-map}
use Rattle.std.specs.List.{AllByRecursion}

-- every number is an octet
abbrev pub Octets : List ℕ → Type 0
Octets os = AllByRecursion (λ x. x < 256) os

pub octets_length : (c a : ℕ) (us : List ℕ) → length (octets_of (variable c a us)) ≡ length us + 8
octets_length c a us = simp length-append (omega arith)

pub length_frame : (m : Meaning) → length (frame_of m) ≡ length (octets_of m)
length_frame m = length-map (octets_of m) symbol_of

pub longest_variable : (c a : ℕ) (us : List ℕ) → length us ≡ 64 → length (frame_of (variable c a us)) ≡ 72
longest_variable c a us h =
    let l = length_frame (variable c a us) in
    let k = octets_length c a us in
    l ∙ k ∙ ap (λ n. n + 8) h

pub narrow : (m : Meaning) → Valid m → Octets (octets_of m)
narrow single v = (omega arith, tt)
narrow (fixed c a) v = (omega arith, (v.0, (v.1, (omega arith, (omega arith, tt)))))
narrow (variable c a us) v =
    (omega arith, (omega arith, (omega arith, (omega arith, (v.0, (v.1, All-append (λ s. s < 256) us (check_of (c ∷ a ∷ us) ∷ 0x16 ∷ []) v.4 (omega arith, (omega arith, tt))))))))

symbols_fit : (os : List ℕ) → Octets os → Fits 11 (map symbol_of os)
symbols_fit [] h = tt
symbols_fit (x ∷ xs) h = (symbol_fits x h.0, symbols_fit xs h.1)

octets_some : (m : Meaning) → 1 ≤ length (octets_of m)
octets_some single = omega arith
octets_some (fixed c a) = omega arith
octets_some (variable c a us) = omega arith

octets_few : (m : Meaning) → Valid m → length (octets_of m) ≤ 72
octets_few single v = omega arith
octets_few (fixed c a) v = omega arith
octets_few (variable c a us) v = let l = octets_length c a us in omega (arith, l)

pub size : SizeLaw 11 72 frame_of
size m v =
    let l = length_frame m in
    let s = octets_some m in
    let f = octets_few m v in
    (omega (arith, l, s), omega (arith, l, f), symbols_fit (octets_of m) (narrow m v))
