-- How a queue lies in its slots: the slot after each, the records from one slot on, and the slots after each call.
use Rattle.std.specs.Prelude.{ℕ, ◌+◌, ◌-◌, Bool, cond, ◌&&◌, List, [], ◌++◌, length, take, drop, ◌==◌, nat_le, nat_lt, slice_set}
use Rattle.queue.specs.declared.Queue.{Queue}
use Rattle.queue.specs.Fifo.{slots_fit, full, empty}

-- the slot after `at`: the first one after the last, otherwise the one above
abbrev pub next_slot : ℕ → ℕ → ℕ
next_slot at last = cond (at == last) 0 (at + 1)

-- the slot `n` steps after `at`, where there are `k` slots and `n` is at most `k`
abbrev pub slot_after : ℕ → ℕ → ℕ → ℕ
slot_after at n k = cond (nat_lt (at + n) k) (at + n) (at + n - k)

-- the records of `n` slots from `at` on, where the first slot follows the last
abbrev pub round : {A : Type 0} → List A → ℕ → ℕ → List A
round xs at n = take n (drop at (xs ++ xs))

-- `items` says what the slots of a store have in them, held or free.
module _ {S A : Type 0} (items : S → List A) where
  -- whether a queue has a right number of slots, and its own numbers lie within it
  unfoldable pub sound : Queue S → Bool
  sound q = slots_fit (length (items q.slots)) && (nat_lt q.first (length (items q.slots)) && nat_le q.len (length (items q.slots)))

  -- what a queue holds, oldest first
  unfoldable pub contents : Queue S → List A
  contents q = cond (sound q) (round (items q.slots) q.first q.len) []

  -- how many records a queue can hold
  unfoldable pub capacity : Queue S → ℕ
  capacity q = cond (sound q) (length (items q.slots)) 0

  -- the slot after that of the newest record
  unfoldable pub free_slot : Queue S → ℕ
  free_slot q = slot_after q.first (length (contents q)) (capacity q)

  -- every slot after a put of `x`: one is written, unless the queue is full
  unfoldable pub put_items : Queue S → A → List A
  put_items q x = cond (full (capacity q) (contents q)) (items q.slots) (slice_set (items q.slots) (free_slot q) x)

  -- the slot of the oldest record after a take
  unfoldable pub take_first : Queue S → ℕ
  take_first q = cond (empty (contents q)) q.first (next_slot q.first (capacity q - 1))
