-- The guard law of FT1.2: parity shows one inverted bit of a symbol, the check octet one changed octet.
use Rattle.std.specs.Prelude.{◌≡◌, ℕ, zero, suc, ◌+◌, ◌<◌, ◌≤◌, ◌⊎◌, List, [], ◌∷◌, ◌++◌, map, length, take, drop, sum, ◌≢◌, bit_xor, slice_index, refl}
use Rattle.std.proofs.Common.{inl, inr, sym, ap, ap₂, ◌∙◌, arith}
use Rattle.std.specs.Int.Count.{ones, ones_in}
use Rattle.frame.proofs.Distance.{distance_append, same_symbol}
use Rattle.frame.proofs.Parity.{xor_parity}
use Rattle.frame.specs.Contents.{Meaning, single, fixed, variable, Valid}
use Rattle.frame.specs.Damage.{distance}
use Rattle.frame.specs.Laws.{GuardLaw}
use Rattle.ft12.specs.Sizes.{Octets, length_frame, octets_length, size}
use Rattle.ft12.specs.SymbolsLemmas.{octet_symbol, symbol_odd}
use Rattle.ft12.specs.Frames.{check_of, frame_of, octets_of}
use Rattle.ft12.specs.Sharp.{Unseen}
use Rattle.ft12.specs.Symbols.{octet_of, symbol_of}
use Rattle.std.proofs.lemmas.List.{length-map, map-append, take_all, take-map}
use Rattle.std.proofs.lemmas.List.Sums.{sum_by-cons}
use Rattle.std.proofs.lemmas.Bool.{cases_eq}

-- in how many bits the symbols of two octets differ
abbrev gap : ℕ → ℕ → ℕ
gap x y = ones (bit_xor (symbol_of x) (symbol_of y))

-- in how many bits the symbols of two lists of octets differ
abbrev apart : List ℕ → List ℕ → ℕ
apart xs ys = distance (map symbol_of xs) (map symbol_of ys)

-- two octets are the same, or their symbols differ in two bits at least
same_or_two : (x y : ℕ) → x < 256 → y < 256 → (x ≡ y) ⊎ (2 ≤ gap x y)
same_or_two x y hx hy =
    elim (cases_eq (gap x y) 0) [
      | inl z ↦ inl (sym (octet_symbol x hx) ∙ ap octet_of (same_symbol (symbol_of x) (symbol_of y) z) ∙ octet_symbol y hy)
      | inr some ↦ inr (at_least some)
    ]
  where
    at_least : (gap x y ≢ 0) → 2 ≤ gap x y
    at_least some =
        let p = xor_parity (symbol_of x) (symbol_of y) in
        let a = symbol_odd x hx in
        let b = symbol_odd y hy in
        omega (arith, p, a, b, some)

-- one inverted bit at most: nothing is changed
near_same : (xs ys : List ℕ) → length xs ≡ length ys → Octets xs → Octets ys → apart xs ys ≤ 1 → xs ≡ ys
near_same [] [] l hx hy d = refl
near_same [] (y ∷ ys) l hx hy d = absurd (omega arith)
near_same (x ∷ xs) [] l hx hy d = absurd (omega arith)
near_same (x ∷ xs) (y ∷ ys) l hx hy d =
    elim (same_or_two x y hx.0 hy.0) [
      | inl e ↦ ap₂ ◌∷◌ e (near_same xs ys (omega arith) hx.1 hy.1 (omega arith))
      | inr two ↦ absurd (omega (arith, two))
    ]

-- three inverted bits at most change one octet at most, and one changed octet shows in the sum
sum_tells :
    (xs ys : List ℕ) → length xs ≡ length ys → Octets xs → Octets ys → apart xs ys ≤ 3 → check_of xs ≡ check_of ys → xs ≡ ys
sum_tells [] [] l hx hy d e = refl
sum_tells [] (y ∷ ys) l hx hy d e = absurd (omega arith)
sum_tells (x ∷ xs) [] l hx hy d e = absurd (omega arith)
sum_tells (x ∷ xs) (y ∷ ys) l hx hy d e =
    let sx = sum_by-cons (λ n. n) x xs in
    let sy = sum_by-cons (λ n. n) y ys in
    elim (same_or_two x y hx.0 hy.0) [
      | inl is ↦ ap₂ ◌∷◌ is (sum_tells xs ys (omega arith) hx.1 hy.1 (omega arith) (omega (arith, is, sx, sy, e)))
      | inr two ↦
          let rest : xs ≡ ys = near_same xs ys (omega arith) hx.1 hy.1 (omega (arith, two)) in
          let sums : sum xs ≡ sum ys = ap sum rest in
          ap₂ ◌∷◌ (omega (arith, sums, sx, sy, e, hx.0, hy.0)) rest
    ]

apart_append :
    (xs ys us vs : List ℕ) → length xs ≡ length ys → apart (xs ++ us) (ys ++ vs) ≡ apart xs ys + apart us vs
apart_append xs ys us vs l =
    ap₂ distance (map-append symbol_of xs us) (map-append symbol_of ys vs) ∙
    distance_append (map symbol_of xs) (map symbol_of ys) (map symbol_of us) (map symbol_of vs) (length-map xs symbol_of ∙ l ∙ sym (length-map ys symbol_of))

-- what is covered, its check octet and the end
abbrev sealed : List ℕ → List ℕ
sealed xs = xs ++ (check_of xs ∷ 0x16 ∷ [])

sealed_same :
    (xs ys : List ℕ) → length xs ≡ length ys → Octets xs → Octets ys → apart (sealed xs) (sealed ys) ≤ 3 → xs ≡ ys
sealed_same xs ys l hx hy d =
    let cx = check_of xs in
    let cy = check_of ys in
    let parts = apart_append xs ys (cx ∷ 0x16 ∷ []) (cy ∷ 0x16 ∷ []) l in
    elim (same_or_two cx cy (omega arith) (omega arith)) [
      | inl e ↦ sum_tells xs ys l hx hy (omega (arith, parts)) e
      | inr two ↦ near_same xs ys l hx hy (omega (arith, parts, two))
    ]

-- the first symbols of what came and what was sent
heads :
    (x y : ℕ) (xs ys : List ℕ) (k : ℕ) → 1 ≤ k → apart (take k (x ∷ xs)) (y ∷ ys) ≤ 3 → gap x y ≤ 3
heads x y xs ys zero h d = absurd (omega arith)
heads x y xs ys (suc k) h d = omega arith

-- a changed length is there twice
lengths :
    (l r : ℕ) (xs ys : List ℕ) (k : ℕ) →
    l < 256 →
    r < 256 →
    3 ≤ k →
    apart (take k (0x68 ∷ l ∷ l ∷ xs)) (0x68 ∷ r ∷ r ∷ ys) ≤ 3 →
    l ≡ r
lengths l r xs ys zero hl hr h d = absurd (omega arith)
lengths l r xs ys (suc zero) hl hr h d = absurd (omega arith)
lengths l r xs ys (suc (suc zero)) hl hr h d = absurd (omega arith)
lengths l r xs ys (suc (suc (suc k))) hl hr h d =
    elim (same_or_two l r hl hr) [ inl e ↦ e | inr two ↦ absurd (omega (arith, two)) ]

-- the three start octets
fixed_single : gap 0x10 0xE5 ≡ 6
unfolding ones ones_in
fixed_single = refl

variable_single : gap 0x68 0xE5 ≡ 4
unfolding ones ones_in
variable_single = refl

variable_fixed : gap 0x68 0x10 ≡ 4
unfolding ones ones_in
variable_fixed = refl

-- what is left of a frame, within three inverted bits of another's, is that one
same_content :
    (m o : Meaning) (k : ℕ) →
    Valid m →
    Valid o →
    k ≤ length (octets_of m) →
    length (octets_of o) ≡ k →
    apart (take k (octets_of m)) (octets_of o) ≤ 3 →
    o ≡ m
same_content single single k vm vo within long near = refl
same_content single (fixed c a) k vm vo within long near = absurd (omega arith)
same_content single (variable c a us) k vm vo within long near = absurd (omega arith)
same_content (fixed c a) single k vm vo within long near =
    let g = heads 0x10 0xE5 (drop 1 (octets_of (fixed c a))) [] k (omega arith) near in
    absurd (omega (arith, g, fixed_single))
same_content (fixed c a) (fixed d b) k vm vo within long near =
    let os = octets_of (fixed c a) in
    let whole : take k os ≡ os = take_all k os (omega arith) in
    let n : apart os (octets_of (fixed d b)) ≤ 3 = rw whole at near in
    let e = sealed_same (c ∷ a ∷ []) (d ∷ b ∷ []) refl (vm.0, (vm.1, tt)) (vo.0, (vo.1, tt)) (omega (arith, n)) in
    ap (λ z. fixed (slice_index z 0) (slice_index z 1)) (sym e)
same_content (fixed c a) (variable d b vs) k vm vo within long near = absurd (omega (arith, octets_length d b vs))
same_content (variable c a us) single k vm vo within long near =
    let g = heads 0x68 0xE5 (drop 1 (octets_of (variable c a us))) [] k (omega arith) near in
    absurd (omega (arith, g, variable_single))
same_content (variable c a us) (fixed d b) k vm vo within long near =
    let g = heads 0x68 0x10 (drop 1 (octets_of (variable c a us))) (drop 1 (octets_of (fixed d b))) k (omega arith) near in
    absurd (omega (arith, g, variable_fixed))
same_content (variable c a us) (variable d b vs) k vm vo within long near =
    let os = octets_of (variable c a us) in
    let lm = octets_length c a us in
    let lo = octets_length d b vs in
    let ls : length us + 2 ≡ length vs + 2 =
    lengths (length us + 2) (length vs + 2) (drop 3 os) (drop 3 (octets_of (variable d b vs))) k (omega arith) (omega arith) (omega (arith, lo)) near
    in
    let whole : take k os ≡ os = take_all k os (omega (arith, lm, lo, ls)) in
    let n : apart os (octets_of (variable d b vs)) ≤ 3 = rw whole at near in
    let e = sealed_same (c ∷ a ∷ us) (d ∷ b ∷ vs) (omega arith) (vm.0, (vm.1, vm.4)) (vo.0, (vo.1, vo.4)) (omega (arith, n)) in
    ap (λ z. variable (slice_index z 0) (slice_index z 1) (drop 2 z)) (sym e)

pub guarded : GuardLaw 11 3 frame_of
guarded m o b vm vo (k, within, long, fits, near) e =
    let om = octets_of m in
    let oo = octets_of o in
    let count : length oo ≡ k = sym (length_frame o) ∙ ap length (sym e) ∙ long in
    let few : k ≤ length om = let l = length_frame m in omega (arith, l, within) in
    let close : apart (take k om) oo ≤ 3 = rw (e, take-map symbol_of k om) at near in
    let is = same_content m o k vm vo few count close in
    (e ∙ ap frame_of is, is)

-- 10 01 02 03 16 and 10 02 01 03 16
pub sharp : Unseen 4
unfolding ones ones_in
sharp =
    let m = fixed 1 2 in
    let o = fixed 2 1 in
    let v : Valid o = (omega arith, omega arith) in
    let near : distance (frame_of m) (frame_of o) ≤ 4 = let d : distance (frame_of m) (frame_of o) ≡ 4 = refl in omega (arith, d) in
    let other : o ≡ m → ⊥ = λ e. let z : ◌≡◌ {A = ℕ} 2 1 = cc in omega arith in
    (m, o, (omega arith, omega arith), v, (5, omega arith, refl, (size o v).2, near), other)
