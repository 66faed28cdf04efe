-- What a queue holds where its numbers lie within its slots, and what each call changes of it.
use Rattle.std.proofs.Common.{◌≡◌, ℕ, ◌+◌, ◌-◌, ◌<◌, ◌≤◌, true, false, cond, List, [], ◌∷◌, ◌++◌, length, get_or, set, Some, None, Ok, Err, sym, refl, ap, ◌∙◌, ⊎_elim, arith}
use Rattle.std.specs.List.{slice_get}
use Rattle.std.proofs.lemmas.List.{length-set}
use Rattle.std.proofs.lemmas.Option.{slice_get-get_or}
use Rattle.std.proofs.lemmas.Bool.{false≢true, leb-false, cases_Bool}
use Rattle.std.proofs.lemmas.Bool.Decides.{nat_tests}
use Rattle.fault.specs.declared.Cause.TheVariants.{QueueFull, QueueEmpty}
use Rattle.fault.specs.Causes.{fault}
use Rattle.queue.specs.declared.Queue.{Queue}
use Rattle.queue.specs.Fifo.{slots_capacity, full, empty, oldest, put_answer, put_contents, take_answer, take_contents}
use Rattle.queue.specs.Ring.{next_slot, slot_after, round, sound, contents, capacity, free_slot, put_items, take_first}
use Rattle.queue.proofs.Round.{length_round, grown, shrunk}

not_none : {A : Type 0} (q : List A) (n : ℕ) → false ≡ empty q → length q ≡ n → 0 < n
not_none [] n e l = absurd (false≢true e)
not_none (x ∷ q) n e l = omega arith

oldest_some : {A : Type 0} (q : List A) → false ≡ empty q → (x : A) × (oldest q ≡ Some x)
oldest_some [] e = absurd (false≢true e)
oldest_some (x ∷ q) e = (x, refl)

-- a list with an oldest record is not empty, and that record is what a take answers
pub some_oldest : {A : Type 0} (q : List A) (x : A) → Some x ≡ oldest q → (false ≡ empty q) × (Ok x ≡ take_answer q)
some_oldest [] x e =
    let z : ◌≡◌ {A = ℕ} 0 1 = cc in
    let no : ⊥ = omega arith in
    absurd no
some_oldest (y ∷ q) x e = (refl, cc)

-- a list with no oldest record is empty
none_oldest : {A : Type 0} (q : List A) → None ≡ oldest q → q ≡ []
none_oldest [] e = refl
none_oldest (x ∷ q) e =
    let z : ◌≡◌ {A = ℕ} 0 1 = cc in
    let no : ⊥ = omega arith in
    absurd no

-- one step on is the next slot
one_after : (h k : ℕ) → h < k → slot_after h 1 k ≡ next_slot h (k - 1)
one_after h k l = grind (arith, nat_tests)

-- numbers that lie within `k` slots
pub record Within (k first len : ℕ) : Type 0 where
  pub most : k ≤ 256
  pub inside : first < k
  pub fits : len ≤ k

module _ {S A : Type 0} (items : S → List A) where
  within : (q : Queue S) → sound items q ≡ true → Within (length (items q.slots)) q.first q.len
  unfolding sound
  within q e = record { most = grind (arith, nat_tests); inside = grind (arith, nat_tests); fits = grind (arith, nat_tests) }

  sound_within : (q : Queue S) → Within (length (items q.slots)) q.first q.len → sound items q ≡ true
  unfolding sound
  sound_within q w = grind (arith, nat_tests)

  contents_within : (q : Queue S) → Within (length (items q.slots)) q.first q.len → contents items q ≡ round (items q.slots) q.first q.len
  unfolding contents
  contents_within q w = ap (λ b. cond b (round (items q.slots) q.first q.len) []) (sound_within q w)

  capacity_within : (q : Queue S) → Within (length (items q.slots)) q.first q.len → capacity items q ≡ length (items q.slots)
  unfolding capacity
  capacity_within q w = ap (λ b. cond b (length (items q.slots)) 0) (sound_within q w)

  contents_unsound : (q : Queue S) → sound items q ≡ false → contents items q ≡ []
  unfolding contents
  contents_unsound q e = ap (λ b. cond b (round (items q.slots) q.first q.len) []) e

  length_contents : (q : Queue S) → Within (length (items q.slots)) q.first q.len → length (contents items q) ≡ q.len
  length_contents q w = ap length (contents_within q w) ∙ length_round (items q.slots) q.first q.len (omega arith) w.fits

  -- how many records a queue holds and can hold, by whether it is sound
  pub len_sound : (q : Queue S) → true ≡ sound items q → q.len ≡ length (contents items q)
  len_sound q e = sym (length_contents q (within q (sym e)))

  pub len_unsound : (q : Queue S) → false ≡ sound items q → 0 ≡ length (contents items q)
  len_unsound q e = sym (ap length (contents_unsound q (sym e)))

  pub capacity_sound : (q : Queue S) → true ≡ sound items q → length (items q.slots) ≡ capacity items q
  capacity_sound q e = sym (capacity_within q (within q (sym e)))

  pub capacity_unsound : (q : Queue S) → false ≡ sound items q → 0 ≡ capacity items q
  unfolding capacity
  capacity_unsound q e = ap (λ b. cond b (length (items q.slots)) 0) e

  -- a queue as it is made
  pub just_made : (q : Queue S) → q.first ≡ 0 → q.len ≡ 0 → (contents items q ≡ []) × (capacity items q ≡ slots_capacity (length (items q.slots)))
  unfolding sound contents capacity
  just_made q f n = (grind (arith, nat_tests), grind (arith, nat_tests))

  -- a queue with a free slot
  pub has_room : (q : Queue S) → false ≡ full (capacity items q) (contents items q) → Within (length (items q.slots)) q.first q.len × (q.len < length (items q.slots))
  has_room q e =
      let n : length (contents items q) < capacity items q = leb-false (capacity items q) (length (contents items q)) (sym e) in
      ⊎_elim
      (λ (t : sound items q ≡ true).
      let w = within q t in
      let l = length_contents q w in
      let k = capacity_within q w in
      (w, omega arith))
      (λ (t : sound items q ≡ false).
      let k = capacity_unsound q (sym t) in
      omega arith)
      (cases_Bool (sound items q))

  -- a queue with a record
  pub has_record : (q : Queue S) → false ≡ empty (contents items q) → Within (length (items q.slots)) q.first q.len × (0 < q.len)
  has_record q e =
      ⊎_elim
      (λ (t : sound items q ≡ true).
      let w = within q t in
      (w, not_none (contents items q) q.len e (length_contents q w)))
      (λ (t : sound items q ≡ false). absurd (false≢true (e ∙ ap empty (contents_unsound q t))))
      (cases_Bool (sound items q))

  -- a put that is refused: the answer, what the queue holds, and every slot
  pub refused_put : (q : Queue S) (x : A) → true ≡ full (capacity items q) (contents items q)
      → (Err (fault QueueFull 0) ≡ put_answer (capacity items q) (contents items q)) × (contents items q ≡ put_contents (capacity items q) (contents items q) x) × (items q.slots ≡ put_items items q x)
  unfolding put_items
  refused_put q x e = (
    ap (λ b. cond b (Err (fault QueueFull 0)) (Ok tt)) e,
    ap (λ b. cond b (contents items q) (contents items q ++ x ∷ [])) e,
    ap (λ b. cond b (items q.slots) (set (items q.slots) (free_slot items q) x)) e,
  )

  -- a put that is done: the answer, what the queue holds and can hold then, and every slot
  pub after_put : (q q' : Queue S) (x : A) (k at : ℕ) → false ≡ full (capacity items q) (contents items q) → k ≡ length (items q.slots) → at ≡ slot_after q.first q.len k
      → items q'.slots ≡ set (items q.slots) at x → q'.first ≡ q.first → q'.len ≡ q.len + 1
      → (Ok tt ≡ put_answer (capacity items q) (contents items q)) × (contents items q' ≡ put_contents (capacity items q) (contents items q) x) × (capacity items q' ≡ capacity items q) × (items q'.slots ≡ put_items items q x)
  unfolding put_items free_slot
  after_put q q' x k at e c a s f n =
      let h = has_room q e in
      let w = h.0 in
      let xs : List A = items q.slots in
      let l : length (items q'.slots) ≡ length xs = ap length s ∙ length-set xs at x in
      let w' : Within (length (items q'.slots)) q'.first q'.len = record { most = omega arith; inside = omega arith; fits = omega arith } in
      let b : at ≡ slot_after q.first q.len (length xs) = a ∙ ap (slot_after q.first q.len) c in (
        ap (λ t. cond t (Err (fault QueueFull 0)) (Ok tt)) e,
        contents_within q' w'
            ∙ ap (λ ys. round ys q'.first q'.len) s
            ∙ ap (λ i. round (set xs i x) q'.first q'.len) b
            ∙ ap (λ i. round (set xs (slot_after q.first q.len (length xs)) x) i q'.len) f
            ∙ ap (λ m. round (set xs (slot_after q.first q.len (length xs)) x) q.first m) n
            ∙ grown xs q.first q.len x w.inside h.1
            ∙ ap (λ v. v ++ x ∷ []) (sym (contents_within q w))
            ∙ ap (λ t. cond t (contents items q) (contents items q ++ x ∷ [])) e,
        capacity_within q' w' ∙ l ∙ sym (capacity_within q w),
        s
            ∙ ap (λ i. set xs i x) b
            ∙ ap (λ m. set xs (slot_after q.first m (length xs)) x) (sym (length_contents q w))
            ∙ ap (λ m. set xs (slot_after q.first (length (contents items q)) m) x) (sym (capacity_within q w))
            ∙ ap (λ t. cond t xs (set xs (slot_after q.first (length (contents items q)) (capacity items q)) x)) e,
      )

  first_held : (q : Queue S) (d : A) → false ≡ empty (contents items q) → contents items q ≡ get_or (items q.slots) q.first d ∷ round (items q.slots) (next_slot q.first (length (items q.slots) - 1)) (q.len - 1)
  first_held q d e =
      let h = has_record q e in
      let w = h.0 in
      contents_within q w ∙ shrunk (items q.slots) q.first q.len d w.inside w.fits h.1

  -- the oldest record is that of the first slot
  pub oldest_first : (q : Queue S) → false ≡ empty (contents items q) → slice_get (items q.slots) q.first ≡ oldest (contents items q)
  oldest_first q e =
      let s = oldest_some (contents items q) e in
      slice_get-get_or (items q.slots) q.first s.0 (has_record q e).0.inside ∙ sym (ap oldest (first_held q s.0 e))

  -- a take that is refused: the answer, what the queue holds, and where its oldest record would be
  pub refused_take : (q : Queue S) → None ≡ oldest (contents items q)
      → (Err (fault QueueEmpty 0) ≡ take_answer (contents items q)) × (contents items q ≡ take_contents (contents items q)) × (q.first ≡ take_first items q)
  unfolding take_first
  refused_take q o =
      let e = none_oldest (contents items q) o in (
        sym (ap take_answer e),
        e ∙ sym (ap take_contents e),
        sym (ap (λ v. cond (empty v) q.first (next_slot q.first (capacity items q - 1))) e),
      )

  -- a take that is done: the answer, what the queue holds and can hold then, and where its oldest record is
  pub after_take : (q q' : Queue S) (x : A) (k : ℕ) → Some x ≡ oldest (contents items q) → k ≡ length (items q.slots)
      → q'.slots ≡ q.slots → q'.first ≡ slot_after q.first 1 k → q'.len ≡ q.len - 1
      → (Ok x ≡ take_answer (contents items q)) × (contents items q' ≡ take_contents (contents items q)) × (capacity items q' ≡ capacity items q) × (q'.first ≡ take_first items q)
  unfolding take_first
  after_take q q' x k o c s f n =
      let a = some_oldest (contents items q) x o in
      let e = a.0 in
      let w = (has_record q e).0 in
      let xs : List A = items q.slots in
      let l : length (items q'.slots) ≡ length xs = ap (λ t. length (items t)) s in
      let b : q'.first ≡ next_slot q.first (length xs - 1) = f ∙ ap (slot_after q.first 1) c ∙ one_after q.first (length xs) w.inside in
      let i : next_slot q.first (length xs - 1) < length xs = grind (arith, nat_tests) in
      let w' : Within (length (items q'.slots)) q'.first q'.len = record { most = omega arith; inside = omega arith; fits = omega arith } in (
        a.1,
        contents_within q' w'
            ∙ ap (λ t. round (items t) q'.first q'.len) s
            ∙ ap (λ j. round xs j q'.len) b
            ∙ ap (λ m. round xs (next_slot q.first (length xs - 1)) m) n
            ∙ ap take_contents (sym (first_held q x e)),
        capacity_within q' w' ∙ l ∙ sym (capacity_within q w),
        b
            ∙ ap (λ m. next_slot q.first (m - 1)) (sym (capacity_within q w))
            ∙ ap (λ t. cond t q.first (next_slot q.first (capacity items q - 1))) e,
      )
