-- The reader's loop: what is opened, and what the blocks that are left will add.
use Rattle.std.proofs.Common.{◌≡◌, ℕ, suc, ◌+◌, ◌-◌, ◌*◌, ◌/◌, ◌%◌, ◌<◌, ◌≤◌, min, true, eqb, List, ◌++◌, length, take, drop, Ok, Err, Result, sym, refl, ap, ◌∙◌, ap₂, subst, arith}
use borrow.Rule.Slice.PartMut.{put_mid}
use Rattle.fault.specs.declared.Fault.{Fault}
use Rattle.frame.specs.Verdicts.{after}
use Rattle.ft3.specs.Blocks.{cut}
use Rattle.ft3.specs.Frames.{block_count}
use Rattle.ft3.specs.Verdicts.{block_checked, blocks_checked, opened, opened_blocks, variable_verdict}
use Rattle.std.proofs.lemmas.List.{append_assoc, length-append, length-drop, length-take-le}
use Rattle.std.proofs.lemmas.Slice.{take-put_mid}
use Rattle.std.proofs.lemmas.Bool.Decides.{nat_tests}

-- ---- sealed blocks

-- how many sealed blocks these octets make
abbrev pub sealed_count : List ℕ → ℕ
sealed_count os = (length os + 17) / 18

-- none of them is cut off within its check
abbrev pub Uncut : List ℕ → Type 0
Uncut os = (length os + 15) % 18 ≤ 15

count_more : (os : List ℕ) → 0 < length os → sealed_count os ≡ suc (sealed_count (drop 18 os))
count_more os h = simp length-drop (omega arith)

pub checked_more :
    (os block left : List ℕ) (place : ℕ) →
    os ≡ block ++ left →
    length block ≡ min 18 (length os) →
    0 < length os →
    blocks_checked (sealed_count os) place os ≡ after (block_checked place block) (blocks_checked (sealed_count left) (place + 18) left)
checked_more os block left place e l h =
    let parts : (take 18 os ≡ block) × (drop 18 os ≡ left) = cut 18 os block left e l in
    ap (λ k. blocks_checked k place os) (count_more os h) ∙
    ap₂ (λ x y. after (block_checked place x) (blocks_checked (sealed_count y) (place + 18) y)) parts.0 parts.1

opened_more :
    (os block left : List ℕ) →
    os ≡ block ++ left →
    length block ≡ min 18 (length os) →
    0 < length os →
    opened_blocks (sealed_count os) os ≡ opened block ++ opened_blocks (sealed_count left) left
opened_more os block left e l h =
    let parts : (take 18 os ≡ block) × (drop 18 os ≡ left) = cut 18 os block left e l in
    ap (λ k. opened_blocks k os) (count_more os h) ∙
    ap₂ (λ x y. opened x ++ opened_blocks (sealed_count y) y) parts.0 parts.1

-- of the blocks bs with n user octets, `rest` is left, from a place on; `done` octets stand at the front of the record
pub record Read (bs : List ℕ) (n : ℕ) (rec rest : List ℕ) (done place : ℕ) : Type 0 where
  pub checked : blocks_checked (sealed_count rest) place rest ≡ blocks_checked (block_count n) 7 bs
  pub carried : take done rec ++ opened_blocks (sealed_count rest) rest ≡ opened_blocks (block_count n) bs
  pub counts : done + length rest ≡ n + 2 * sealed_count rest
  pub places : place + 18 * sealed_count rest ≡ 7 + 18 * block_count n
  pub uncut : Uncut rest
  pub long : length rec ≡ 64

-- what the next block needs: its check, and a place for its octets
pub next_fits :
    (bs rec rest block left : List ℕ) (n done place size : ℕ) →
    Read bs n rec rest done place →
    n ≤ 64 →
    size ≡ 18 →
    rest ≡ block ++ left →
    length block ≡ min size (length rest) →
    0 < length rest →
    (2 ≤ length block) × (place ≤ 61) × (done + (length block - 2) ≤ 64)
next_fits bs rec rest block left n done place size r few eighteen e l h =
    let whole : Uncut rest = r.uncut in
    let some : 1 ≤ sealed_count rest = omega arith in
    (omega (arith, whole), omega (arith, r.places), omega (arith, whole, r.counts))

length_mid : (a k : ℕ) (xs ys : List ℕ) → a + k ≤ length xs → length ys ≡ k → length (put_mid a k xs ys) ≡ length xs
length_mid a k xs ys h l =
    simp (length-append, length-drop) (omega (arith, length-take-le a xs (omega arith)))

pub read_more :
    (bs rec rest block left part : List ℕ) (n done place size : ℕ) →
    Read bs n rec rest done place →
    n ≤ 64 →
    size ≡ 18 →
    rest ≡ block ++ left →
    length block ≡ min size (length rest) →
    0 < length rest →
    block_checked place block ≡ Ok tt →
    part ≡ opened block →
    Read bs n (put_mid done (done + (length block - 2) - done) rec part) left (done + (length block - 2)) (place + 18)
read_more bs rec rest block left part n done place size r few eighteen e l h good is =
    let short : length block ≡ min 18 (length rest) = omega arith in
    let fits : (2 ≤ length block) × (place ≤ 61) × (done + (length block - 2) ≤ 64) = next_fits bs rec rest block left n done place size r few eighteen e l h in
    let lengths : length rest ≡ length block + length left = ap length e ∙ length-append block left in
    let one : sealed_count rest ≡ suc (sealed_count left) = omega (arith, lengths) in
    let size_is : length part ≡ length block - 2 = ap length is ∙ length-take-le (length block - 2) block (omega arith) in
    let next : ℕ = done + (length block - 2) in
    let later : Result (Unit {0}) Fault = blocks_checked (sealed_count left) (place + 18) left in
    record {
      checked = sym (ap (λ z. after z later) good) ∙ sym (checked_more rest block left place e short h) ∙ r.checked;
      carried =
          ap (λ z. z ++ opened_blocks (sealed_count left) left) (take-put_mid done (next - done) rec part next (omega (arith, size_is)) (omega (arith, fits.2, r.long))) ∙
          ap (λ z. (take done rec ++ z) ++ opened_blocks (sealed_count left) left) is ∙
          append_assoc (take done rec) (opened block) (opened_blocks (sealed_count left) left) ∙
          ap (λ z. take done rec ++ z) (sym (opened_more rest block left e short h)) ∙
          r.carried;
      counts = omega (arith, lengths, one, r.counts, fits.0);
      places = omega (arith, one, r.places);
      uncut = omega (arith, lengths, r.uncut);
      long = length_mid done (next - done) rec part (omega (arith, fits.2, r.long)) (omega (arith, size_is)) ∙ r.long;
    }

-- the loop counts blocks, of which i were read and the next is the one of number k
pub read_next :
    (bs rec rest block left part : List ℕ) (n i j k size : ℕ) →
    Read bs n rec rest (min n (16 * i)) (7 + 18 * i) →
    n ≤ 64 →
    size ≡ 18 →
    rest ≡ block ++ left →
    length block ≡ min size (length rest) →
    0 < length rest →
    k ≡ i →
    j ≡ i + 1 →
    block_checked (7 + k * 18) block ≡ Ok tt →
    part ≡ opened block →
    Read bs n (put_mid (k * 16) (k * 16 + (length block - 2) - k * 16) rec part) left (min n (16 * j)) (7 + 18 * j)
read_next bs rec rest block left part n i j k size r few eighteen e l h at next good is =
    let d = min n (16 * i) in
    let size_is = length block - 2 in
    let here : 7 + k * 18 ≡ 7 + 18 * i = omega arith in
    let lengths : length rest ≡ length block + length left = ap length e ∙ length-append block left in
    let step = read_more bs rec rest block left part n d (7 + 18 * i) size r few eighteen e l h (sym (ap (λ p. block_checked p block) here) ∙ good) is in
    let first : d ≡ k * 16 = omega (arith, r.places) in
    let done : d + size_is ≡ min n (16 * j) = omega (arith, first, lengths, step.counts, step.places) in
    let place : 7 + 18 * i + 18 ≡ 7 + 18 * j = omega arith in
    subst (λ p. Read bs n (put_mid (k * 16) (k * 16 + size_is - k * 16) rec part) left (min n (16 * j)) p) place
    (subst (λ q. Read bs n (put_mid (k * 16) (k * 16 + size_is - k * 16) rec part) left q (7 + 18 * i + 18)) done
    (subst (λ q. Read bs n (put_mid q (q + size_is - q) rec part) left (d + size_is) (7 + 18 * i + 18)) first step))

-- at a bad block
pub read_bad :
    (bs rec rest block left : List ℕ) (n done place size : ℕ) (f : Fault) →
    Read bs n rec rest done place →
    size ≡ 18 →
    rest ≡ block ++ left →
    length block ≡ min size (length rest) →
    0 < length rest →
    block_checked place block ≡ Err f →
    blocks_checked (block_count n) 7 bs ≡ Err f
read_bad bs rec rest block left n done place size f r eighteen e l h bad =
    sym r.checked ∙ checked_more rest block left place e (omega arith) h ∙ ap (λ z. after z (blocks_checked (sealed_count left) (place + 18) left)) bad

-- ---- the verdict

-- the code's count of the blocks
pub ceiling : (n r : ℕ) → r ≡ n / 16 + min 1 (n % 16) → r ≡ block_count n
ceiling n r h = omega arith

pub variable_bad :
    (os : List ℕ) (n : ℕ) (f : Fault) →
    length os ≡ 7 + n + 2 * block_count n →
    blocks_checked (block_count n) 7 (drop 7 os) ≡ Err f →
    variable_verdict os n ≡ Err f
variable_bad os n f h e =
    let t : eqb (length os) (7 + n + 2 * block_count n) ≡ true = grind (arith, nat_tests) in
    rw (t, e) refl
