-- A first-in first-out queue as a list, oldest record first: what each call answers and what it leaves.
use Rattle.std.specs.Prelude.{ℕ, Bool, true, false, cond, ◌&&◌, List, [], ◌∷◌, ◌++◌, length, Some, None, Ok, Err, Option, Result, nat_le}
use Rattle.fault.specs.declared.Cause.TheVariants.{QueueFull, QueueEmpty, BadSlots}
use Rattle.fault.specs.declared.Fault.{Fault}
use Rattle.fault.specs.Causes.{fault}

-- whether a queue may have `n` slots
abbrev pub slots_fit : ℕ → Bool
slots_fit n = nat_le 1 n && nat_le n 256

-- the answer of the check of `n` slots
abbrev pub slots_answer : ℕ → Result (Unit {0}) Fault
slots_answer n = cond (slots_fit n) (Ok tt) (Err (fault BadSlots 0))

-- how many records a queue made over `n` slots can hold
abbrev pub slots_capacity : ℕ → ℕ
slots_capacity n = cond (slots_fit n) n 0

-- whether a queue that can hold `k` records and holds those of `q` has no free slot
abbrev pub full : {A : Type 0} → ℕ → List A → Bool
full k q = nat_le k (length q)

-- whether a queue that holds the records of `q` has none
abbrev pub empty : {A : Type 0} → List A → Bool
empty [] = true
empty (x ∷ q) = false

-- the answer of a put
abbrev pub put_answer : {A : Type 0} → ℕ → List A → Result (Unit {0}) Fault
put_answer k q = cond (full k q) (Err (fault QueueFull 0)) (Ok tt)

-- what the queue holds after a put of `x`
abbrev pub put_contents : {A : Type 0} → ℕ → List A → A → List A
put_contents k q x = cond (full k q) q (q ++ x ∷ [])

-- the oldest record, if there is one
abbrev pub oldest : {A : Type 0} → List A → Option A
oldest [] = None
oldest (x ∷ q) = Some x

-- the answer of a take
abbrev pub take_answer : {A : Type 0} → List A → Result A Fault
take_answer [] = Err (fault QueueEmpty 0)
take_answer (x ∷ q) = Ok x

-- what the queue holds after a take
abbrev pub take_contents : {A : Type 0} → List A → List A
take_contents [] = []
take_contents (x ∷ q) = q
