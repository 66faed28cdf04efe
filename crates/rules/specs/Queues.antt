-- A queue as the rules of the stations speak of it.
use Rattle.std.specs.Prelude.{ℕ, List, []}
use Rattle.queue.specs.Fifo.{put_contents}
use Rattle.queue.specs.Ring.{capacity, contents}
use Rattle.queue.specs.declared.Queue.{Queue}

-- how many records it can hold, and those that it holds, oldest first
pub record Held (A : Type 0) : Type 0 where
  pub room : ℕ
  pub records : List A

-- what a queue holds, where items says what its slots have in them
abbrev pub held : {S A : Type 0} → (S → List A) → Queue S → Held A
held items q = record { room = capacity items q; records = contents items q }

-- a new queue
abbrev pub holds_nothing : {A : Type 0} → ℕ → Held A
holds_nothing room = record { room = room; records = [] }

-- after a put
abbrev pub put_in : {A : Type 0} → A → Held A → Held A
put_in x q = record { room = q.room; records = put_contents q.room q.records x }

-- with these records
abbrev pub holding : {A : Type 0} → Held A → List A → Held A
holding q records = record { room = q.room; records = records }
