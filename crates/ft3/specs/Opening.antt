-- Sealing and opening blocks: one undoes the other.
use Rattle.std.specs.Prelude.{◌≡◌, ℕ, zero, suc, ◌+◌, ◌-◌, ◌*◌, ◌/◌, ◌%◌, ◌<◌, ◌≤◌, min, true, List, [], ◌∷◌, ◌++◌, length, take, drop, Ok, slice_index, slice_index_or, refl}
use Rattle.std.proofs.Common.{sym, ap, ap₂, ◌∙◌, arith}
use Rattle.crc.specs.Check.{check, sealed}
use Rattle.crc.proofs.Sealed.{length_sealed}
use Rattle.fault.specs.Causes.{fault}
use Rattle.fault.specs.declared.Cause.TheVariants.{WrongCheck}
use Rattle.frame.proofs.Bursts.{last_two}
use Rattle.frame.proofs.Verdicts.{after_ok, must_ok}
use Rattle.frame.specs.Verdicts.{after}
use Rattle.ft3.specs.Blocks.{cut, length_blocks}
use Rattle.ft3.specs.Frames.{blocks}
use Rattle.ft3.specs.Verdicts.{block_checked, blocks_checked, is_sealed, opened, opened_blocks}
use Rattle.std.proofs.ByRecursion.{All-append, All-drop, All-get_or, All-take}
use Rattle.std.proofs.lemmas.List.{get_or-append-add, get_or_at, length-append, length-drop, length-take, nil_from_length, take-append-drop, take_at}
use Rattle.std.proofs.lemmas.Bool.{eq-eqb, eqb-true}
use Rattle.std.specs.Int.Digits.{AllBelowBase}

-- ---- one block

pub opened_sealed : (x : List ℕ) → opened (sealed x) ≡ x
unfolding sealed
opened_sealed x = take_at x _ (length (sealed x) - 2) (omega (arith, length_sealed x))

pub sealed_good : (x : List ℕ) → is_sealed (sealed x) ≡ true
unfolding sealed
sealed_good x =
    let r : ℕ = check x in
    let high : slice_index_or (sealed x) (length (sealed x) - 2) 0 ≡ r / 256 = get_or_at x (r / 256) (r % 256 ∷ []) 0 (length (sealed x) - 2) (omega (arith, length_sealed x)) in
    let last : length (sealed x) - 1 ≡ length x + 1 = omega (arith, length_sealed x) in
    let low : slice_index_or (sealed x) (length (sealed x) - 1) 0 ≡ r % 256 = ap (λ n. slice_index (sealed x) n) last ∙ get_or-append-add x (r / 256 ∷ r % 256 ∷ []) 1 0 in
    eq-eqb (slice_index (sealed x) (length (sealed x) - 2) * 256 + slice_index (sealed x) (length (sealed x) - 1)) (check (opened (sealed x)))
    (omega (arith, high, low, ap check (opened_sealed x)))

pub sealed_from : (y : List ℕ) → 2 ≤ length y → AllBelowBase 256 y → is_sealed y ≡ true → y ≡ sealed (opened y)
unfolding sealed
sealed_from y h under t =
    let l : ℕ = length y - 2 in
    let last : l + 1 ≡ length y - 1 = omega arith in
    let x : ℕ = slice_index_or y l 0 in
    let z : ℕ = slice_index_or y (length y - 1) 0 in
    let is : x * 256 + z ≡ check (opened y) = eqb-true (x * 256 + z) (check (opened y)) t in
    let low : z < 256 = All-get_or (λ s. s < 256) y (length y - 1) 0 (omega arith) under in
    let high : x ≡ check (opened y) / 256 = omega arith in
    let rest : z ≡ check (opened y) % 256 = omega arith in
    last_two y l (omega arith) ∙ ap (λ k. take l y ++ (x ∷ slice_index y k ∷ [])) last ∙ ap₂ (λ p q. take l y ++ (p ∷ q ∷ [])) high rest

block_passes : (x : List ℕ) (place : ℕ) → block_checked place (sealed x) ≡ Ok tt
block_passes x place = rw (sealed_good x) refl

pub block_ok : (y : List ℕ) (place : ℕ) → block_checked place y ≡ Ok tt → is_sealed y ≡ true
block_ok y place e = (must_ok (is_sealed y) (fault WrongCheck (place + (length y - 2))) (Ok tt) tt e).0

-- ---- all blocks

-- octets that go in k blocks are found in them again
pub blocks_pass :
    (k : ℕ) (us : List ℕ) (place : ℕ) →
    length us ≤ 16 * k →
    16 * k < length us + 16 →
    (blocks_checked k place (blocks k us) ≡ Ok tt) × (opened_blocks k (blocks k us) ≡ us)
blocks_pass zero us place few all = (refl, sym (nil_from_length us (omega arith)))
blocks_pass (suc k) us place few all =
    let x : List ℕ = take 16 us in
    let r : List ℕ = drop 16 us in
    let lx : length x ≡ min 16 (length us) = length-take 16 us in
    let lr : length r ≡ length us - 16 = length-drop 16 us in
    let ls : length (sealed x) ≡ length x + 2 = length_sealed x in
    let lb : length (blocks k r) ≡ length r + 2 * k = length_blocks k r (omega arith) in
    let la : length (sealed x ++ blocks k r) ≡ length (sealed x) + length (blocks k r) = length-append (sealed x) (blocks k r) in
    let parts : (take 18 (sealed x ++ blocks k r) ≡ sealed x) × (drop 18 (sealed x ++ blocks k r) ≡ blocks k r) =
    cut 18 (sealed x ++ blocks k r) (sealed x) (blocks k r) refl (omega arith)
    in
    let ih : (blocks_checked k (place + 18) (blocks k r) ≡ Ok tt) × (opened_blocks k (blocks k r) ≡ r) = blocks_pass k r (place + 18) (omega arith) (omega arith) in (
      ap₂ (λ y z. after (block_checked place y) (blocks_checked k (place + 18) z)) parts.0 parts.1 ∙
          ap (λ z. after z (blocks_checked k (place + 18) (blocks k r))) (block_passes x place) ∙
          ih.0,
      ap₂ (λ y z. opened y ++ opened_blocks k z) parts.0 parts.1 ∙
          ap₂ ◌++◌ (opened_sealed x) ih.1 ∙
          take-append-drop 16 us,
    )

-- k good blocks of n octets in all are the blocks of those octets
pub blocks_exact :
    (k n place : ℕ) (xs : List ℕ) →
    n ≤ 16 * k →
    16 * k < n + 16 →
    length xs ≡ n + 2 * k →
    AllBelowBase 256 xs →
    blocks_checked k place xs ≡ Ok tt →
    (xs ≡ blocks k (opened_blocks k xs)) × (length (opened_blocks k xs) ≡ n) × AllBelowBase 256 (opened_blocks k xs)
blocks_exact zero n place xs few all long under e = (nil_from_length xs (omega arith), omega arith, tt)
blocks_exact (suc k) n place xs few all long under e =
    let y : List ℕ = take 18 xs in
    let z : List ℕ = drop 18 xs in
    let ly : length y ≡ min 18 (length xs) = length-take 18 xs in
    let lz : length z ≡ length xs - 18 = length-drop 18 xs in
    let uy : AllBelowBase 256 y = All-take (λ s. s < 256) 18 xs under in
    let uz : AllBelowBase 256 z = All-drop (λ s. s < 256) 18 xs under in
    let p : (block_checked place y ≡ Ok tt) × (blocks_checked k (place + 18) z ≡ Ok tt) = after_ok (block_checked place y) (blocks_checked k (place + 18) z) tt e in
    let o : List ℕ = opened y in
    let us : List ℕ = opened_blocks k z in
    let lo : length o ≡ min (length y - 2) (length y) = length-take (length y - 2) y in
    let first : y ≡ sealed o = sealed_from y (omega arith) uy (block_ok y place p.0) in
    let ih : (z ≡ blocks k us) × (length us ≡ n - 16) × AllBelowBase 256 us = blocks_exact k (n - 16) (place + 18) z (omega arith) (omega arith) (omega arith) uz p.1 in
    let both : length (o ++ us) ≡ length o + length us = length-append o us in
    let parts : (take 16 (o ++ us) ≡ o) × (drop 16 (o ++ us) ≡ us) = cut 16 (o ++ us) o us refl (omega (arith, ih.1)) in (
      sym (take-append-drop 18 xs) ∙ ap₂ ◌++◌ first ih.0 ∙ sym (ap₂ (λ f g. sealed f ++ blocks k g) parts.0 parts.1),
      omega (arith, both, lo, ih.1),
      All-append (λ s. s < 256) o us (All-take (λ s. s < 256) (length y - 2) y uy) ih.2,
    )
