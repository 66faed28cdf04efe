-- What is written of a frame, and how many octets it has.
use Rattle.std.specs.Prelude.{◌≡◌, ℕ, ◌+◌, ◌<◌, min, List, [], ◌∷◌, ◌++◌, length, drop}
use Rattle.std.proofs.Common.{sym, ap, ap₂, ◌∙◌, zero-add, arith}
use Rattle.crc.specs.Check.{sealed}
use Rattle.crc.proofs.Sealed.{length_sealed}
use Rattle.frame.proofs.Symbols.{encoded_next}
use Rattle.frame.specs.Writing.{encoded_at}
use Rattle.ft3.specs.Blocks.{blocks_more}
use Rattle.ft3.specs.Frames.{all_blocks, headed}
use Rattle.std.proofs.lemmas.List.{length-append, map-id}

-- the next block, and what is left after it
pub block_next :
    (rest block left : List ℕ) (size : ℕ) →
    size ≡ 16 →
    rest ≡ block ++ left →
    length block ≡ min size (length rest) →
    0 < length rest →
    (all_blocks rest ≡ sealed block ++ all_blocks left) × (length (all_blocks rest) ≡ length block + 2 + length (all_blocks left))
block_next rest block left size sixteen e l h =
    let more : all_blocks rest ≡ sealed block ++ all_blocks left = blocks_more rest block left e (omega arith) h in
    (more, ap length more ∙ length-append (sealed block) (all_blocks left) ∙ ap (λ n. n + length (all_blocks left)) (length_sealed block))

pub length_headed : (l c a : ℕ) → length (headed l c a) ≡ 7
length_headed l c a = omega (arith, length_sealed (l ∷ c ∷ a ∷ []))

-- octets that are put in at the front
pub put_first : (os b : List ℕ) → encoded_at (λ o. o) 0 os b ≡ os ++ drop (length os) b
put_first os b = ap₂ (λ x n. x ++ drop n b) (map-id os) (zero-add (length os))

-- octets that are put in behind those at the front
pub put_next : (xs ys b : List ℕ) → encoded_at (λ o. o) (length xs) ys (xs ++ drop (length xs) b) ≡ (xs ++ ys) ++ drop (length (xs ++ ys)) b
put_next xs ys b =
    ap (encoded_at (λ o. o) (length xs) ys) (sym (put_first xs b)) ∙ encoded_next (λ o. o) xs ys b 0 (length xs) (omega arith) (omega arith) ∙ put_first (xs ++ ys) b
