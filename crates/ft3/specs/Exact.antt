-- Only frames are accepted.
use Rattle.std.specs.Prelude.{◌≡◌, ℕ, ◌+◌, ◌-◌, ◌*◌, ◌<◌, ◌≤◌, Bool, true, false, cond, ◌&&◌, List, [], ◌∷◌, ◌++◌, length, take, drop, Ok, Err, Result, ◌==◌, nat_le, slice_index, slice_index_or, refl}
use Rattle.std.proofs.Common.{sym, ap, ap₂, subst, ◌∙◌, arith}
use Rattle.crc.specs.Check.{sealed}
use Rattle.fault.specs.Causes.{fault}
use Rattle.fault.specs.declared.Cause.TheVariants.{WrongLength, WrongStart}
use Rattle.fault.specs.declared.Fault.{Fault}
use Rattle.frame.proofs.Verdicts.{after_ok, must_ok, same_accepted}
use Rattle.frame.specs.Contents.{Meaning, Valid, single, fixed, variable}
use Rattle.frame.specs.Verdicts.{after, line_checked, must}
use Rattle.ft3.specs.Opening.{block_ok, blocks_exact, sealed_from}
use Rattle.ft3.specs.VerdictsLemmas.{line_under}
use Rattle.ft3.specs.Frames.{block_count, blocks, frame_of, headed}
use Rattle.ft3.specs.Verdicts.{block_checked, blocks_checked, fixed_verdict, headed_verdict, length_verdict, opened_blocks, partner_checked, is_sound, octets_verdict, single_verdict, variable_verdict, verdict_of}
use Rattle.std.proofs.lemmas.List.{append-nil, nil_from_length}
use Rattle.std.proofs.lemmas.Bool.{and_parts, eqb-true, leb-true}
use Rattle.std.specs.Int.Digits.{AllBelowBase}

abbrev Exact : List ℕ → Meaning → Type 0
Exact b m = Valid m × (b ≡ frame_of m)

partner_is : (partner : ℕ) (b : List ℕ) → partner_checked partner b ≡ Ok tt → slice_index b 1 ≡ partner
partner_is partner b e =
    let t : (nat_le 2 (length b) && slice_index b 1 == partner) ≡ true = (must_ok (nat_le 2 (length b) && slice_index b 1 == partner) (fault WrongStart 1) (Ok tt) tt e).0 in
    eqb-true (slice_index b 1) partner (and_parts (nat_le 2 (length b)) (slice_index b 1 == partner) t).1

-- ---- single

two_of : (b : List ℕ) → length b ≡ 2 → b ≡ slice_index b 0 ∷ slice_index b 1 ∷ []
two_of [] h = absurd (omega arith)
two_of (p ∷ []) h = absurd (omega arith)
two_of (p ∷ q ∷ []) h = refl
two_of (p ∷ q ∷ r ∷ b) h = absurd (omega arith)

exact_single : (b : List ℕ) (m : Meaning) → slice_index b 0 ≡ 0x12 → single_verdict b ≡ Ok m → Exact b m
exact_single b m first e =
    let rest : Result Meaning Fault = must (length b == 2) (fault WrongLength (length b)) (Ok single) in
    let p : (partner_checked 0x3D b ≡ Ok tt) × (rest ≡ Ok m) = after_ok (partner_checked 0x3D b) rest m e in
    let q : ((length b == 2) ≡ true) × (Ok single ≡ Ok m) = must_ok (length b == 2) (fault WrongLength (length b)) (Ok single) m p.1 in
    subst (Exact b) (same_accepted q.1) (tt, two_of b (eqb-true (length b) 2 q.0) ∙ ap₂ (λ x y. x ∷ y ∷ []) first (partner_is 0x3D b p.0))

-- ---- fixed and variable

-- a burst that begins with a good header block
record Headed (b : List ℕ) (l c a : ℕ) (rest : List ℕ) : Type 0 where
  whole : b ≡ headed l c a ++ rest
  long : length b ≡ 7 + length rest
  control : slice_index_or b 3 0 ≡ c
  address : slice_index_or b 4 0 ≡ a
  left : drop 7 b ≡ rest
  control_lt : c < 256
  address_lt : a < 256
  under : AllBelowBase 256 rest

exact_fixed : (b rest : List ℕ) (l c a : ℕ) (m : Meaning) → Headed b l c a rest → l ≡ 0 → fixed_verdict b ≡ Ok m → Exact b m
exact_fixed b rest l c a m h none e =
    let p : ((length b == 7) ≡ true) × (Ok (fixed (slice_index b 3) (slice_index b 4)) ≡ Ok m) =
    must_ok (length b == 7) (fault WrongLength (length b)) (Ok (fixed (slice_index b 3) (slice_index b 4))) m e
    in
    let seven : length b ≡ 7 = eqb-true (length b) 7 p.0 in
    let empty : rest ≡ [] = nil_from_length rest (omega (arith, h.long)) in
    subst (Exact b) (ap₂ fixed (sym h.control) (sym h.address) ∙ same_accepted p.1) (
      (h.control_lt, h.address_lt),
      h.whole ∙ ap₂ (λ k z. headed k c a ++ z) none empty ∙ append-nil (headed 0 c a),
    )

exact_variable :
    (b rest : List ℕ) (l c a n : ℕ) (m : Meaning) →
    Headed b l c a rest →
    l ≡ n + 2 →
    1 ≤ n →
    n ≤ 64 →
    variable_verdict b n ≡ Ok m →
    Exact b m
exact_variable b rest l c a n m h is some few e =
    let k : ℕ = block_count n in
    let us : List ℕ = opened_blocks k (drop 7 b) in
    let last : Result Meaning Fault = Ok (variable (slice_index b 3) (slice_index b 4) us) in
    let inner : Result Meaning Fault = after (blocks_checked k 7 (drop 7 b)) last in
    let p : ((length b == 7 + n + 2 * k) ≡ true) × (inner ≡ Ok m) = must_ok (length b == 7 + n + 2 * k) (fault WrongLength (length b)) inner m e in
    let q : (blocks_checked k 7 (drop 7 b) ≡ Ok tt) × (last ≡ Ok m) = after_ok (blocks_checked k 7 (drop 7 b)) last m p.1 in
    let count : length b ≡ 7 + n + 2 * k = eqb-true (length b) (7 + n + 2 * k) p.0 in
    let all : (drop 7 b ≡ blocks k us) × (length us ≡ n) × AllBelowBase 256 us =
    blocks_exact k n 7 (drop 7 b) (omega arith) (omega arith) (ap length h.left ∙ omega (arith, h.long)) (subst (AllBelowBase 256) (sym h.left) h.under) q.0
    in
    subst (Exact b) (ap₂ (λ x y. variable x y us) (sym h.control) (sym h.address) ∙ same_accepted q.1) (
      (h.control_lt, h.address_lt, omega (arith, all.1), omega (arith, all.1), all.2),
      h.whole ∙ ap₂ (λ j z. headed j c a ++ z) (is ∙ ap (λ j. j + 2) (sym all.1)) (sym h.left ∙ all.0 ∙ ap (λ j. blocks (block_count j) us) (sym all.1)),
    )

exact_length :
    (b rest : List ℕ) (l c a : ℕ) (m : Meaning) (none fine : Bool) →
    Headed b l c a rest →
    (l == 0) ≡ none →
    (nat_le 3 l && nat_le l 66) ≡ fine →
    cond none (fixed_verdict b) (cond fine (variable_verdict b (l - 2)) (Err (fault WrongLength 2))) ≡ Ok m →
    Exact b m
exact_length b rest l c a m true fine h t u e = exact_fixed b rest l c a m h (eqb-true l 0 t) e
exact_length b rest l c a m false true h t u e =
    let p : (nat_le 3 l ≡ true) × (nat_le l 66 ≡ true) = and_parts (nat_le 3 l) (nat_le l 66) u in
    let three : 3 ≤ l = leb-true 3 l p.0 in
    let most : l ≤ 66 = leb-true l 66 p.1 in
    exact_variable b rest l c a (l - 2) m h (omega arith) (omega arith) (omega arith) e
exact_length b rest l c a m false false h t u e = let z : ◌≡◌ {A = ℕ} 0 1 = cc in absurd (omega arith)

exact_headed : (b : List ℕ) (m : Meaning) → AllBelowBase 256 b → slice_index b 0 ≡ 0x05 → 7 ≤ length b → headed_verdict b ≡ Ok m → Exact b m
exact_headed [] m u first h e = absurd (omega arith)
exact_headed (p ∷ []) m u first h e = absurd (omega arith)
exact_headed (p ∷ q ∷ []) m u first h e = absurd (omega arith)
exact_headed (p ∷ q ∷ l ∷ []) m u first h e = absurd (omega arith)
exact_headed (p ∷ q ∷ l ∷ c ∷ []) m u first h e = absurd (omega arith)
exact_headed (p ∷ q ∷ l ∷ c ∷ a ∷ []) m u first h e = absurd (omega arith)
exact_headed (p ∷ q ∷ l ∷ c ∷ a ∷ x ∷ []) m u first h e = absurd (omega arith)
exact_headed (p ∷ q ∷ l ∷ c ∷ a ∷ x ∷ y ∷ rest) m u first h e =
    let b : List ℕ = p ∷ q ∷ l ∷ c ∷ a ∷ x ∷ y ∷ rest in
    let block : List ℕ = l ∷ c ∷ a ∷ x ∷ y ∷ [] in
    let r₂ : Result Meaning Fault = after (block_checked 2 block) (length_verdict b l) in
    let r₁ : Result Meaning Fault = must (nat_le 7 (length b)) (fault WrongLength (length b)) r₂ in
    let p₁ : (partner_checked 0x64 b ≡ Ok tt) × (r₁ ≡ Ok m) = after_ok (partner_checked 0x64 b) r₁ m e in
    let p₂ : (nat_le 7 (length b) ≡ true) × (r₂ ≡ Ok m) = must_ok (nat_le 7 (length b)) (fault WrongLength (length b)) r₂ m p₁.1 in
    let p₃ : (block_checked 2 block ≡ Ok tt) × (length_verdict b l ≡ Ok m) = after_ok (block_checked 2 block) (length_verdict b l) m p₂.1 in
    let under_block : AllBelowBase 256 block = (u.1.1.0, (u.1.1.1.0, (u.1.1.1.1.0, (u.1.1.1.1.1.0, (u.1.1.1.1.1.1.0, tt))))) in
    let good : block ≡ sealed (l ∷ c ∷ a ∷ []) = sealed_from block (omega arith) under_block (block_ok block 2 p₃.0) in
    let start : List ℕ → List ℕ = λ z. 0x05 ∷ 0x64 ∷ z ++ rest in
    exact_length b rest l c a m (l == 0) (nat_le 3 l && nat_le l 66)
    (record {
      whole = ap₂ (λ x' y'. x' ∷ y' ∷ block ++ rest) first (partner_is 0x64 b p₁.0) ∙ ap start good;
      long = omega arith;
      control = refl;
      address = refl;
      left = refl;
      control_lt = u.1.1.1.0;
      address_lt = u.1.1.1.1.0;
      under = u.1.1.1.1.1.1.1;
    })
    refl refl p₃.1

headed_long : (b : List ℕ) (m : Meaning) → headed_verdict b ≡ Ok m → 7 ≤ length b
headed_long b m e =
    let r₂ : Result Meaning Fault = after (block_checked 2 (take 5 (drop 2 b))) (length_verdict b (slice_index b 2)) in
    let r₁ : Result Meaning Fault = must (nat_le 7 (length b)) (fault WrongLength (length b)) r₂ in
    let p : (partner_checked 0x64 b ≡ Ok tt) × (r₁ ≡ Ok m) = after_ok (partner_checked 0x64 b) r₁ m e in
    leb-true 7 (length b) (must_ok (nat_le 7 (length b)) (fault WrongLength (length b)) r₂ m p.1).0

-- ---- every burst

exact_start :
    (b : List ℕ) (start : ℕ) (m : Meaning) (one other : Bool) →
    AllBelowBase 256 b →
    slice_index b 0 ≡ start →
    (start == 0x12) ≡ one →
    (start == 0x05) ≡ other →
    cond one (single_verdict b) (cond other (headed_verdict b) (Err (fault WrongStart 0))) ≡ Ok m →
    Exact b m
exact_start b start m true other u first t s e = exact_single b m (first ∙ eqb-true start 0x12 t) e
exact_start b start m false true u first t s e = exact_headed b m u (first ∙ eqb-true start 0x05 s) (headed_long b m e) e
exact_start b start m false false u first t s e = let z : ◌≡◌ {A = ℕ} 0 1 = cc in absurd (omega arith)

pub exact : (b : List ℕ) (m : Meaning) → verdict_of b ≡ Ok m → Valid m × (b ≡ frame_of m)
exact b m e =
    let s : ℕ = slice_index_or b 0 0 in
    let p : (line_checked is_sound 79 b ≡ Ok tt) × (octets_verdict b ≡ Ok m) = after_ok (line_checked is_sound 79 b) (octets_verdict b) m e in
    exact_start b s m (s == 0x12) (s == 0x05) (line_under b p.0) refl refl refl p.1
