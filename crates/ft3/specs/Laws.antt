-- The size and the verdict of FT3.
use Rattle.std.specs.Prelude.{◌≡◌, ℕ, zero, suc, ◌+◌, ◌-◌, ◌*◌, ◌<◌, ◌≤◌, true, false, ◌&&◌, leb, List, [], ◌∷◌, ◌++◌, length, take, drop, Ok, Err, nat_eq, nat_le, slice_index, refl}
use Rattle.std.proofs.Common.{ap, ◌∙◌, arith}
use Rattle.crc.specs.Check.{sealed}
use Rattle.crc.proofs.Sealed.{under_sealed}
use Rattle.fault.specs.Causes.{fault}
use Rattle.fault.specs.declared.Cause.TheVariants.{LongBurst}
use Rattle.frame.specs.Contents.{Meaning, Valid, single, fixed, variable}
use Rattle.frame.specs.Laws.{SizeLaw}
use Rattle.frame.specs.Verdicts.{after}
use Rattle.ft3.specs.Blocks.{length_all_blocks}
use Rattle.ft3.specs.Opening.{blocks_pass, sealed_good}
use Rattle.ft3.specs.VerdictsLemmas.{line_passes}
use Rattle.ft3.specs.Buffers.{length_headed}
use Rattle.ft3.specs.Frames.{all_blocks, block_count, blocks, frame_of, headed}
use Rattle.ft3.specs.Verdicts.{blocks_checked, headed_verdict, length_verdict, opened_blocks, octets_verdict, variable_verdict, verdict_of}
use Rattle.std.proofs.ByRecursion.{All-append, All-drop, All-take}
use Rattle.std.proofs.lemmas.List.{length-append}
use Rattle.std.proofs.lemmas.Bool.Decides.{nat_tests}
use Rattle.std.specs.Int.Digits.{AllBelowBase}

-- ---- size

pub length_variable : (c a : ℕ) (us : List ℕ) → length (frame_of (variable c a us)) ≡ 7 + length us + 2 * block_count (length us)
length_variable c a us =
    length-append (headed (length us + 2) c a) (all_blocks us) ∙
    omega (arith, length_headed (length us + 2) c a, length_all_blocks us)

under_headed : (l c a : ℕ) → l < 256 → c < 256 → a < 256 → AllBelowBase 256 (headed l c a)
under_headed l c a hl hc ha = (omega arith, (omega arith, under_sealed (l ∷ c ∷ a ∷ []) (hl, (hc, (ha, tt)))))

under_blocks : (k : ℕ) (us : List ℕ) → AllBelowBase 256 us → AllBelowBase 256 (blocks k us)
under_blocks zero us h = tt
under_blocks (suc k) us h =
    All-append (λ s. s < 256) (sealed (take 16 us)) (blocks k (drop 16 us)) (under_sealed (take 16 us) (All-take (λ s. s < 256) 16 us h)) (under_blocks k (drop 16 us) (All-drop (λ s. s < 256) 16 us h))

pub size : SizeLaw 8 79 frame_of
size single v = (omega arith, omega arith, (omega arith, (omega arith, tt)))
size (fixed c a) v =
    (omega (arith, length_headed 0 c a), omega (arith, length_headed 0 c a), under_headed 0 c a (omega arith) v.0 v.1)
size (variable c a us) v =
    let n : length (frame_of (variable c a us)) ≡ 7 + length us + 2 * block_count (length us) = length_variable c a us in (
      omega arith,
      omega arith,
      All-append (λ s. s < 256) (headed (length us + 2) c a) (all_blocks us) (under_headed (length us + 2) c a (omega arith) v.0 v.1) (under_blocks (block_count (length us)) us v.4),
    )

-- ---- a frame is accepted

headed_passes : (l c a : ℕ) (rest : List ℕ) → headed_verdict (headed l c a ++ rest) ≡ length_verdict (headed l c a ++ rest) l
unfolding sealed
headed_passes l c a rest =
    let os : List ℕ = headed l c a ++ rest in
    let seven : leb 7 (length os) ≡ true = grind (arith, nat_tests) in
    let two : leb 2 (length os) ≡ true = grind (arith, nat_tests) in
    rw (two, seven, sealed_good (l ∷ c ∷ a ∷ [])) refl

length_passes : (os : List ℕ) (n l : ℕ) → l ≡ n + 2 → 1 ≤ n → n ≤ 64 → length_verdict os l ≡ variable_verdict os n
length_passes os n l is some few =
    let zero_not : nat_eq l 0 ≡ false = grind (arith, nat_tests) in
    let fine : (nat_le 3 l && nat_le l 66) ≡ true = grind (arith, nat_tests) in
    let two : l - 2 ≡ n = omega arith in
    rw (zero_not, fine) (ap (variable_verdict os) two)

variable_passes :
    (os : List ℕ) (n : ℕ) (m : Meaning) →
    length os ≡ 7 + n + 2 * block_count n →
    blocks_checked (block_count n) 7 (drop 7 os) ≡ Ok tt →
    variable (slice_index os 3) (slice_index os 4) (opened_blocks (block_count n) (drop 7 os)) ≡ m →
    variable_verdict os n ≡ Ok m
variable_passes os n m long good is =
    let t : nat_eq (length os) (7 + n + 2 * block_count n) ≡ true = grind (arith, nat_tests) in
    rw (t, good) (ap Ok is)

octets_accepted : (m : Meaning) → Valid m → octets_verdict (frame_of m) ≡ Ok m
unfolding sealed
octets_accepted single v = refl
octets_accepted (fixed c a) v = headed_passes 0 c a []
octets_accepted (variable c a us) v =
    let n : ℕ = length us in
    let k : ℕ = block_count n in
    let os : List ℕ = frame_of (variable c a us) in
    let good : (blocks_checked k 7 (blocks k us) ≡ Ok tt) × (opened_blocks k (blocks k us) ≡ us) = blocks_pass k us 7 (omega arith) (omega arith) in
    headed_passes (n + 2) c a (blocks k us) ∙
    length_passes os n (n + 2) refl v.2 v.3 ∙
    variable_passes os n (variable c a us) (length_variable c a us) good.0 (ap (variable c a) good.1)

pub accepted : (m : Meaning) → Valid m → verdict_of (frame_of m) ≡ Ok m
accepted m v =
    let s : (1 ≤ length (frame_of m)) × (length (frame_of m) ≤ 79) × AllBelowBase 256 (frame_of m) = size m v in
    ap (λ z. after z (octets_verdict (frame_of m))) (line_passes (frame_of m) s.0 s.1 s.2) ∙ octets_accepted m v

-- ---- the longest frame

pub most_octets : (c a : ℕ) (us : List ℕ) → length us ≡ 64 → length (frame_of (variable c a us)) ≡ 79
most_octets c a us h = length_variable c a us ∙ omega arith

pub too_long : (b : List ℕ) → length b ≡ 80 → verdict_of b ≡ Err (fault LongBurst 0)
too_long b h =
    let some : leb 1 (length b) ≡ true = grind (arith, nat_tests) in
    let many : leb (length b) 79 ≡ false = grind (arith, nat_tests) in
    rw (some, many) refl
