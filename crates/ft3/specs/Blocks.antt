-- Lists cut into blocks: how many there are, how long they are, and the first of them.
use Rattle.std.specs.Prelude.{◌≡◌, ℕ, zero, suc, ◌+◌, ◌*◌, ◌<◌, ◌≤◌, min, List, [], ◌++◌, length, take, drop}
use Rattle.std.proofs.Common.{inl, inr, sym, ap, ap₂, ◌∙◌, arith}
use Rattle.crc.specs.Check.{sealed}
use Rattle.crc.proofs.Sealed.{length_sealed}
use Rattle.ft3.specs.Frames.{all_blocks, block_count, blocks}
use Rattle.std.proofs.lemmas.List.{append-nil, drop_all, drop_at, length-append, length-drop, length-take, nil_from_length, take_all, take_at}
use Rattle.std.proofs.lemmas.Bool.{cases_lt}

-- the first k of a list, or all of it, and the rest
pub cut :
    (k : ℕ) (xs front rest : List ℕ) →
    xs ≡ front ++ rest →
    length front ≡ min k (length xs) →
    (take k xs ≡ front) × (drop k xs ≡ rest)
cut k xs front rest e l =
    elim (cases_lt (length xs) k) [
      | inl short ↦
          let none : rest ≡ [] = nil_from_length rest (omega (arith, ap length e ∙ length-append front rest)) in
          (take_all k xs (omega arith) ∙ e ∙ ap (λ z. front ++ z) none ∙ append-nil front, drop_all k xs (omega arith) ∙ sym none)
      | inr long ↦
          let all : length front ≡ k = omega arith in
          (ap (take k) e ∙ take_at front rest k all, ap (drop k) e ∙ drop_at front rest k all)
    ]

pub count_none : (us : List ℕ) → length us ≡ 0 → block_count (length us) ≡ 0
count_none us h = omega arith

pub count_more : (us : List ℕ) → 0 < length us → block_count (length us) ≡ suc (block_count (length (drop 16 us)))
count_more us h = simp length-drop (omega arith)

pub blocks_none : (us : List ℕ) → length us ≡ 0 → all_blocks us ≡ []
blocks_none us h = ap (λ k. blocks k us) (count_none us h)

pub blocks_more :
    (us block rest : List ℕ) →
    us ≡ block ++ rest →
    length block ≡ min 16 (length us) →
    0 < length us →
    all_blocks us ≡ sealed block ++ all_blocks rest
blocks_more us block rest e l h =
    let parts : (take 16 us ≡ block) × (drop 16 us ≡ rest) = cut 16 us block rest e l in
    ap (λ k. blocks k us) (count_more us h) ∙ ap₂ (λ x y. sealed x ++ all_blocks y) parts.0 parts.1

pub length_blocks : (k : ℕ) (us : List ℕ) → length us ≤ 16 * k → length (blocks k us) ≡ length us + 2 * k
length_blocks zero us h = omega arith
length_blocks (suc k) us h =
    let rest : length (blocks k (drop 16 us)) ≡ length (drop 16 us) + 2 * k = length_blocks k (drop 16 us) (simp length-drop (omega arith)) in
    simp length-append (
    omega (arith, length_sealed (take 16 us), length-take 16 us, length-drop 16 us, rest))

pub length_all_blocks : (us : List ℕ) → length (all_blocks us) ≡ length us + 2 * block_count (length us)
length_all_blocks us = length_blocks (block_count (length us)) us (omega arith)
