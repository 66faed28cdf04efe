-- A buffer block by block: what is written, what the blocks that are left will add, and whole frames in it.
use Rattle.std.specs.Prelude.{◌≡◌, ℕ, suc, ◌+◌, ◌-◌, ◌/◌, ◌%◌, ◌<◌, ◌≤◌, min, true, List, [], ◌∷◌, ◌++◌, length, take, drop, set, Ok, slice_index, slice_set, refl}
use Rattle.std.proofs.Common.{sym, ap, ap₂, ◌∙◌, add-one, arith}
use borrow.Rule.Slice.PartMut.{put_mid}
use Rattle.crc.specs.Check.{check, sealed}
use Rattle.crc.proofs.Sealed.{length_sealed}
use Rattle.frame.proofs.Buffers.{answered, proper_variable}
use Rattle.frame.specs.Contents.{meaning}
use Rattle.frame.specs.Writing.{buffer_written, proper, write_answer}
use Rattle.frame.specs.declared.Content.{Content}
use Rattle.frame.specs.declared.Content.TheVariants.{Fixed, Variable}
use Rattle.frame.specs.declared.control.Control.{Control}
use Rattle.ft3.specs.Blocks.{blocks_more, blocks_none, length_all_blocks}
use Rattle.ft3.specs.Buffers.{length_headed}
use Rattle.ft3.specs.Frames.{all_blocks, frame_of, headed}
use Rattle.std.proofs.lemmas.List.{append_assoc, append-nil, drop_at, drop-drop, drop_more, length-append, length-drop, length-take-le, set_at, take_all, take-append-drop, take_at, take_more}
use Rattle.std.proofs.lemmas.Slice.{drop-put_mid, take-put_mid}

-- ---- one block

-- the part e, as long as the block and its check, has become p, with i of the block's octets
pub copied_more :
    (block e p : List ℕ) (i x : ℕ) →
    length e ≡ length block + 2 →
    i < length block →
    x ≡ slice_index block i →
    p ≡ take i block ++ drop i e →
    slice_set p i x ≡ take (i + 1) block ++ drop (i + 1) e
copied_more block e p i x long h is inv =
    ap (λ z. set z i x) (inv ∙ ap (λ z. take i block ++ z) (drop_more e i 0 (omega arith))) ∙
    set_at (take i block) (slice_index e i) (drop (i + 1) e) x i (length-take-le i block (omega arith)) ∙
    ap (λ z. take i block ++ z ∷ drop (i + 1) e) is ∙
    sym (append_assoc (take i block) (slice_index block i ∷ []) (drop (i + 1) e)) ∙
    ap (λ z. z ++ drop (i + 1) e) (sym (take_more block i 0 h))

pair_set : (xs d : List ℕ) (a b : ℕ) → length d ≡ 2 → slice_set (slice_set (xs ++ d) (length xs) a) (suc (length xs)) b ≡ xs ++ a ∷ b ∷ []
pair_set [] [] a b h = absurd (omega arith)
pair_set [] (p ∷ []) a b h = absurd (omega arith)
pair_set [] (p ∷ q ∷ []) a b h = refl
pair_set [] (p ∷ q ∷ r ∷ d) a b h = absurd (omega arith)
pair_set (x ∷ xs) d a b h = ap (λ z. x ∷ z) (pair_set xs d a b h)

pub copied_all :
    (block e p : List ℕ) (i r : ℕ) →
    length e ≡ length block + 2 →
    i ≤ length block →
    length block ≤ i →
    r ≡ check block →
    p ≡ take i block ++ drop i e →
    slice_set (slice_set p (length block) (r / 256)) (length block + 1) (r % 256) ≡ sealed block
unfolding sealed
copied_all block e p i r long few all is inv =
    let whole : p ≡ block ++ drop i e = inv ∙ ap (λ z. z ++ drop i e) (take_all i block all) in
    ap₂ (λ z n. set (slice_set z (length block) (r / 256)) n (r % 256)) whole (add-one (length block)) ∙
    pair_set block (drop i e) (r / 256) (r % 256) (simp length-drop (omega arith)) ∙
    ap (λ n. block ++ n / 256 ∷ n % 256 ∷ []) is

-- ---- all blocks

-- the buffer e has become b, which is written up to `end`; the octets `rest` of us are left
pub record Written (us e b rest : List ℕ) (end : ℕ) : Type 0 where
  pub counts : end + length (all_blocks rest) ≡ 7 + length (all_blocks us)
  pub front : take end b ++ all_blocks rest ≡ take 7 e ++ all_blocks us
  pub back : drop end b ≡ drop end e

pub written_none : (us e : List ℕ) → Written us e e us 7
written_none us e = record { counts = refl; front = refl; back = refl }

-- the next block has its place
pub room :
    (us e b rest block left : List ℕ) (end size : ℕ) →
    Written us e b rest end →
    length us ≤ 64 →
    size ≡ 16 →
    rest ≡ block ++ left →
    length block ≡ min size (length rest) →
    0 < length rest →
    end + length block + 2 ≤ 79
room us e b rest block left end size w few sixteen e' l h =
    let more : length (all_blocks rest) ≡ length (sealed block ++ all_blocks left) = ap length (blocks_more rest block left e' (omega arith) h) in
    omega (arith, w.counts, more, length-append (sealed block) (all_blocks left), length_sealed block, length_all_blocks us)

pub written_more :
    (us e b rest block left part : List ℕ) (end size : ℕ) →
    Written us e b rest end →
    length us ≤ 64 →
    79 ≤ length b →
    size ≡ 16 →
    rest ≡ block ++ left →
    length block ≡ min size (length rest) →
    0 < length rest →
    part ≡ sealed block →
    Written us e (put_mid end (end + length block + 2 - end) b part) left (end + length block + 2)
written_more us e b rest block left part end size w few long sixteen e' l h is =
    let fits : end + length block + 2 ≤ 79 = room us e b rest block left end size w few sixteen e' l h in
    let more : all_blocks rest ≡ sealed block ++ all_blocks left = blocks_more rest block left e' (omega arith) h in
    let whole : length part ≡ length block + 2 = ap length is ∙ length_sealed block in
    let next : ℕ = end + length block + 2 in
    let two : end + (length block + 2) ≡ next = omega arith in
    record {
      counts = omega (arith, w.counts, ap length more, length-append (sealed block) (all_blocks left), length_sealed block);
      front =
          ap (λ z. z ++ all_blocks left) (take-put_mid end (next - end) b part next (omega (arith, whole)) (omega arith)) ∙
          ap (λ z. (take end b ++ z) ++ all_blocks left) is ∙
          append_assoc (take end b) (sealed block) (all_blocks left) ∙
          ap (λ z. take end b ++ z) (sym more) ∙
          w.front;
      back =
          drop-put_mid end (next - end) b part next (omega arith) (omega arith) (omega (arith, whole)) ∙
          ap (λ n. drop n b) (sym two) ∙
          sym (drop-drop (length block + 2) end b) ∙
          ap (drop (length block + 2)) w.back ∙
          drop-drop (length block + 2) end e ∙
          ap (λ n. drop n e) two;
    }

-- all blocks are written
pub written_all :
    (us e b rest : List ℕ) (end : ℕ) →
    Written us e b rest end →
    length rest ≡ 0 →
    (end ≡ 7 + length (all_blocks us)) × (b ≡ take 7 e ++ (all_blocks us ++ drop end e))
written_all us e b rest end w h =
    let none : all_blocks rest ≡ [] = blocks_none rest h in (
      omega (arith, w.counts, ap length none),
      sym (take-append-drop end b) ∙
          ap₂ ◌++◌ (sym (append-nil (take end b)) ∙ ap (λ z. take end b ++ z) (sym none) ∙ w.front) w.back ∙
          append_assoc (take 7 e) (all_blocks us) (drop end e),
    )

-- ---- whole frames

pub fixed_answered :
    (k : Content) (c : Control) (a r : ℕ) (user b after : List ℕ) →
    k ≡ Fixed c a →
    79 ≤ length b →
    r ≡ 7 →
    after ≡ headed 0 c.octet a ++ drop 7 b →
    (Ok r ≡ write_answer 79 (frame_of (meaning k user)) k b) × (after ≡ buffer_written 79 (frame_of (meaning k user)) k b)
fixed_answered k c a r user b after is long seven e =
    let frame : frame_of (meaning k user) ≡ headed 0 c.octet a = ap (λ z. frame_of (meaning z user)) is in
    answered 79 k (frame_of (meaning k user)) b after r long (ap proper is) (seven ∙ sym (ap length frame ∙ length_headed 0 c.octet a))
    (e ∙ ap₂ (λ z n. z ++ drop n b) (sym frame) (sym seven))

pub variable_answered :
    (k : Content) (c : Control) (a n r : ℕ) (user b b₁ b₂ : List ℕ) →
    k ≡ Variable c a n →
    1 ≤ n →
    n ≤ 64 →
    length user ≡ 64 →
    79 ≤ length b →
    b₁ ≡ headed (n + 2) c.octet a ++ drop 7 b →
    r ≡ 7 + length (all_blocks (take n user)) →
    b₂ ≡ take 7 b₁ ++ (all_blocks (take n user) ++ drop r b₁) →
    (Ok r ≡ write_answer 79 (frame_of (meaning k user)) k b) × (b₂ ≡ buffer_written 79 (frame_of (meaning k user)) k b)
variable_answered k c a n r user b b₁ b₂ is some few sixty-four long e₁ count e₂ =
    let us : List ℕ = take n user in
    let head : List ℕ = headed (n + 2) c.octet a in
    let seven : length head ≡ 7 = length_headed (n + 2) c.octet a in
    let all : length us ≡ n = length-take-le n user (omega arith) in
    let frame : frame_of (meaning k user) ≡ head ++ all_blocks us =
    ap (λ z. frame_of (meaning z user)) is ∙ ap (λ m. headed (m + 2) c.octet a ++ all_blocks us) all
    in
    let fine : proper k ≡ true = proper_variable k c a n is some few in
    let rest : drop r b₁ ≡ drop r b =
    ap₂ drop count e₁ ∙ sym (drop-drop (length (all_blocks us)) 7 (head ++ drop 7 b)) ∙ ap (drop (length (all_blocks us))) (drop_at head (drop 7 b) 7 seven) ∙ drop-drop (length (all_blocks us)) 7 b ∙ ap (λ m. drop m b) (sym count)
    in
    answered 79 k (frame_of (meaning k user)) b b₂ r long fine (count ∙ sym (ap length frame ∙ length-append head (all_blocks us) ∙ ap (λ m. m + length (all_blocks us)) seven))
    (e₂ ∙ ap₂ (λ x y. x ++ (all_blocks us ++ y)) (ap (take 7) e₁ ∙ take_at head (drop 7 b) 7 seven) rest ∙ sym (append_assoc head (all_blocks us) (drop r b)) ∙ ap (λ z. z ++ drop r b) (sym frame))
