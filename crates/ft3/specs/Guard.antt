-- The guard law of FT3, from the distance of the check's code.
use Rattle.std.specs.Prelude.{◌≡◌, ℕ, zero, suc, ◌+◌, ◌*◌, ◌<◌, ◌≤◌, List, [], ◌∷◌, ◌++◌, length, take, drop, bit_xor, slice_index}
use Rattle.std.proofs.Math.Path.{refl, ap, ap₂, subst}
use Rattle.std.proofs.Common.{sym, ◌∙◌}
use native.Mathlib.Omega.{arith}
use Rattle.std.proofs.lemmas.Nat.{xor_block, xor_lt, ones_cat}
use Rattle.std.specs.Int.Count.{ones, ones_in}
use Rattle.crc.specs.Check.{sealed}
use Rattle.crc.specs.Distance.{Apart, differing}
use Rattle.crc.proofs.Sealed.{apart_five, apart_within, length_sealed, under_sealed}
use Rattle.frame.proofs.Distance.{distance_append}
use Rattle.frame.specs.Contents.{Meaning, Valid, single, fixed, variable}
use Rattle.frame.specs.Damage.{distance}
use Rattle.frame.specs.Laws.{GuardLaw}
use Rattle.ft3.specs.Blocks.{length_all_blocks}
use Rattle.ft3.specs.Laws.{length_variable}
use Rattle.ft3.specs.Buffers.{length_headed}
use Rattle.ft3.specs.Frames.{all_blocks, block_count, blocks, frame_of, headed}
use Rattle.std.proofs.ByRecursion.{All-drop, All-take}
use Rattle.std.proofs.lemmas.List.{length-append, length-drop, length-take, nil_from_length, take_all, take-append-drop}
use Rattle.std.specs.Int.Digits.{AllBelowBase, number_from_digits_after}

-- ---- the distance of two bursts of octets is that of their long numbers

distance_after :
    (m n : ℕ) (a b : List ℕ) →
    AllBelowBase 256 a →
    AllBelowBase 256 b →
    length a ≡ length b →
    ones (bit_xor (number_from_digits_after 256 m a) (number_from_digits_after 256 n b)) ≡ ones (bit_xor m n) + distance a b
distance_after m n [] [] ha hb l = omega arith
distance_after m n [] (y ∷ b) ha hb l = absurd (omega arith)
distance_after m n (x ∷ a) [] ha hb l = absurd (omega arith)
distance_after m n (x ∷ a) (y ∷ b) ha hb l =
    let rest : ones (bit_xor (number_from_digits_after 256 (m * 256 + x) a) (number_from_digits_after 256 (n * 256 + y) b)) ≡ ones (bit_xor (m * 256 + x) (n * 256 + y)) + distance a b =
    distance_after (m * 256 + x) (n * 256 + y) a b ha.1 hb.1 (omega arith)
    in
    let first : ones (bit_xor (m * 256 + x) (n * 256 + y)) ≡ ones (bit_xor m n) + ones (bit_xor x y) =
    ap ones (xor_block 8 m n x y ha.0 hb.0) ∙ ones_cat 8 (bit_xor m n) (bit_xor x y) (xor_lt 8 x y ha.0 hb.0)
    in
    omega (arith, rest, first)

differing_is : (a b : List ℕ) → AllBelowBase 256 a → AllBelowBase 256 b → length a ≡ length b → differing a b ≡ distance a b
unfolding ones ones_in
differing_is a b ha hb l = omega (arith, distance_after 0 0 a b ha hb l)

-- a front of two lists joined
take_join : (a c : List ℕ) (n : ℕ) → take (length a + n) (a ++ c) ≡ a ++ take n c
take_join [] c n = let z : 0 + n ≡ n = omega arith in ap (λ k. take k c) z
take_join (x ∷ a) c n = let z : suc (length a) + n ≡ suc (length a + n) = omega arith in ap (λ k. take k (x ∷ a ++ c)) z ∙ ap (λ w. x ∷ w) (take_join a c n)

-- the start octets of two headed frames are the same
starts : (x y : List ℕ) → distance (0x05 ∷ 0x64 ∷ x) (0x05 ∷ 0x64 ∷ y) ≡ distance x y
unfolding ones ones_in
starts x y = omega arith

-- ---- within g inverted bits, for any g at which sealed blocks lie apart and that is under the distance of the two starts

module _ (g : ℕ) (few : g ≤ 7) (apart : Apart g) where
  same_sealed : (a b : List ℕ) → AllBelowBase 256 a → AllBelowBase 256 b → length a ≡ length b → length a ≤ 16 → distance (sealed a) (sealed b) ≤ g → a ≡ b
  same_sealed a b ha hb l k d =
      let equal : length (sealed a) ≡ length (sealed b) = length_sealed a ∙ ap (λ n. n + 2) l ∙ sym (length_sealed b) in
      apart a b ha hb l k (omega (arith, d, differing_is (sealed a) (sealed b) (under_sealed a ha) (under_sealed b hb) equal))

  same_blocks :
      (k : ℕ) (us vs : List ℕ) →
      length us ≡ length vs →
      length us ≤ 16 * k →
      AllBelowBase 256 us →
      AllBelowBase 256 vs →
      distance (blocks k us) (blocks k vs) ≤ g →
      us ≡ vs
  same_blocks zero us vs l k hu hv d = nil_from_length us (omega arith) ∙ sym (nil_from_length vs (omega arith))
  same_blocks (suc k) us vs l few' hu hv d =
      let xu : List ℕ = take 16 us in
      let xv : List ℕ = take 16 vs in
      let lu : length xu ≡ length xv = omega (arith, length-take 16 us, length-take 16 vs) in
      let ls : length (sealed xu) ≡ length (sealed xv) = omega (arith, length_sealed xu, length_sealed xv) in
      let parts : distance (sealed xu ++ blocks k (drop 16 us)) (sealed xv ++ blocks k (drop 16 vs)) ≡ distance (sealed xu) (sealed xv) + distance (blocks k (drop 16 us)) (blocks k (drop 16 vs)) =
      distance_append (sealed xu) (sealed xv) (blocks k (drop 16 us)) (blocks k (drop 16 vs)) ls
      in
      let first : xu ≡ xv =
      same_sealed xu xv (All-take (λ s. s < 256) 16 us hu) (All-take (λ s. s < 256) 16 vs hv) lu (omega (arith, length-take 16 us)) (omega (arith, parts))
      in
      let rest : drop 16 us ≡ drop 16 vs =
      same_blocks k (drop 16 us) (drop 16 vs) (omega (arith, length-drop 16 us, length-drop 16 vs)) (omega (arith, length-drop 16 us)) (All-drop (λ s. s < 256) 16 us hu) (All-drop (λ s. s < 256) 16 vs hv) (omega (arith, parts))
      in
      sym (take-append-drop 16 us) ∙ ap₂ ◌++◌ first rest ∙ take-append-drop 16 vs

  -- two headed frames, of which the first may be cut short: the header is the same, and the rest is near
  same-header :
      (l c a l' c' a' : ℕ) (r r' : List ℕ) →
      AllBelowBase 256 (l ∷ c ∷ a ∷ []) →
      AllBelowBase 256 (l' ∷ c' ∷ a' ∷ []) →
      distance (take (length (headed l' c' a' ++ r')) (headed l c a ++ r)) (headed l' c' a' ++ r') ≤ g →
      (l ≡ l') × (c ≡ c') × (a ≡ a') × (distance (take (length r') r) r' ≤ g)
  same-header l c a l' c' a' r r' u u' d =
      let h : List ℕ = headed l c a in
      let h' : List ℕ = headed l' c' a' in
      let seven : length h ≡ 7 = length_headed l c a in
      let seven' : length h' ≡ 7 = length_headed l' c' a' in
      let cut_at : length (h' ++ r') ≡ length h + length r' = omega (arith, length-append h' r') in
      let split : take (length (h' ++ r')) (h ++ r) ≡ h ++ take (length r') r = ap (λ n. take n (h ++ r)) cut_at ∙ take_join h r (length r') in
      let sum : distance (h ++ take (length r') r) (h' ++ r') ≡ distance h h' + distance (take (length r') r) r' = distance_append h h' (take (length r') r) r' (omega arith) in
      let near : distance (h ++ take (length r') r) (h' ++ r') ≤ g = subst (λ (z : List ℕ). distance z (h' ++ r') ≤ g) split d in
      let start : distance h h' ≡ distance (sealed (l ∷ c ∷ a ∷ [])) (sealed (l' ∷ c' ∷ a' ∷ [])) = starts (sealed (l ∷ c ∷ a ∷ [])) (sealed (l' ∷ c' ∷ a' ∷ [])) in
      let same : l ∷ c ∷ a ∷ [] ≡ l' ∷ c' ∷ a' ∷ [] = same_sealed (l ∷ c ∷ a ∷ []) (l' ∷ c' ∷ a' ∷ []) u u' refl (omega arith) (omega (arith, sum, near, start)) in
      (ap (λ z. slice_index z 0) same, ap (λ z. slice_index z 1) same, ap (λ z. slice_index z 2) same, omega (arith, sum, near))

  same_content :
      (m o : Meaning) →
      Valid m →
      Valid o →
      length (frame_of o) ≤ length (frame_of m) →
      distance (take (length (frame_of o)) (frame_of m)) (frame_of o) ≤ g →
      o ≡ m
  unfolding sealed ones ones_in
  same_content single single vm vo l d = refl
  same_content single (fixed c a) vm vo l d = absurd (omega arith)
  same_content single (variable c a us) vm vo l d = absurd (omega (arith, length_variable c a us))
  same_content (fixed c a) single vm vo l d = absurd (omega arith)
  same_content (variable c a us) single vm vo l d = absurd (omega arith)
  same_content (fixed c a) (fixed c' a') vm vo l d =
      let s = same-header 0 c a 0 c' a' [] [] (omega arith, (vm.0, (vm.1, tt))) (omega arith, (vo.0, (vo.1, tt))) d in
      ap₂ fixed (sym s.1) (sym s.2)
  same_content (fixed c a) (variable c' a' us) vm vo l d =
      let s = same-header 0 c a (length us + 2) c' a' [] (all_blocks us) (omega arith, (vm.0, (vm.1, tt))) (omega arith, (vo.0, (vo.1, tt))) d in
      absurd (omega (arith, s.0))
  same_content (variable c a us) (fixed c' a') vm vo l d =
      let s = same-header (length us + 2) c a 0 c' a' (all_blocks us) [] (omega arith, (vm.0, (vm.1, tt))) (omega arith, (vo.0, (vo.1, tt))) d in
      absurd (omega (arith, s.0))
  same_content (variable c a us) (variable c' a' vs) vm vo l d =
      let s = same-header (length us + 2) c a (length vs + 2) c' a' (all_blocks us) (all_blocks vs) (omega arith, (vm.0, (vm.1, tt))) (omega arith, (vo.0, (vo.1, tt))) d in
      let equal : length us ≡ length vs = omega (arith, s.0) in
      let k : ℕ = block_count (length us) in
      let same_count : all_blocks vs ≡ blocks k vs = ap (λ n. blocks (block_count n) vs) (sym equal) in
      let whole : take (length (all_blocks vs)) (all_blocks us) ≡ all_blocks us = take_all (length (all_blocks vs)) (all_blocks us) (omega (arith, length_all_blocks us, length_all_blocks vs)) in
      let near : distance (blocks k us) (blocks k vs) ≤ g = subst (λ (z : List ℕ). distance z (blocks k vs) ≤ g) whole (subst (λ (z : List ℕ). distance (take (length (all_blocks vs)) (all_blocks us)) z ≤ g) same_count s.3) in
      let same : us ≡ vs = same_blocks k us vs equal (omega arith) vm.4 vo.4 near in
      ap₂ (λ x y. variable x y vs) (sym s.1) (sym s.2) ∙ ap (variable c a) (sym same)

  guarded_within : GuardLaw 8 g frame_of
  guarded_within m o b vm vo d e =
      let count : length b ≡ length (frame_of o) = ap length e in
      let k : d.0 ≡ length (frame_of o) = sym d.2 ∙ count in
      let near : distance (take (length (frame_of o)) (frame_of m)) (frame_of o) ≤ g = subst (λ (z : List ℕ). distance (take (length (frame_of o)) (frame_of m)) z ≤ g) e (subst (λ (n : ℕ). distance (take n (frame_of m)) b ≤ g) k d.4) in
      let same : o ≡ m = same_content m o vm vo (subst (λ (n : ℕ). n ≤ length (frame_of m)) k d.1) near in
      (e ∙ ap frame_of same, same)

pub guarded : GuardLaw 8 3 frame_of
guarded = guarded_within 3 (omega arith) (apart_within 3 5 (omega arith) apart_five)
