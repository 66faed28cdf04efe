-- A hearing of a reader over a format: what it tells its caller, and what stands in the caller's buffer after it.
use Rattle.std.specs.Prelude.{◌≡◌, ℕ, List, ◌++◌, length, drop, None, Ok, Err, Result, nat_lt}
use Rattle.fault.specs.declared.Fault.{Fault}
use Rattle.frame.specs.declared.Format.{Ghosts}
use Rattle.reader.specs.declared.Heard.{Heard}
use Rattle.reader.specs.declared.hearing.Response.{Response}
use Rattle.reader.specs.declared.hearing.Task.{Task}
use Rattle.reader.specs.declared.hearing.Task.TheVariants as task
use Rattle.rules.specs.Reader as rules
use Rattle.rules.specs.Reader.{Reader, Turn, hear, hear_after, mark_heard, took_in}
use Rattle.rules.specs.Telegrams.{carried, telegram_read}

-- a task as the rules speak of it
abbrev pub task_of : Task → rules.Task
task_of (task.Take m) = rules.take m
task_of (task.Give c) = rules.give c

-- a turn before its answer is written
abbrev pub response : Result Turn Fault → Result Response Fault
response (Err f) = Err f
response (Ok t) = Ok (record { answer = t.answer; taken = took_in t.deed; mark = t.mark })

-- a call follows a turn: its answer and the reader after it are those of the turn, which marks nothing where nothing was out
pub record Follows (t : Result Turn Fault) (before after : Reader) (a : Result Response Fault) : Type 0 where
  pub answer : a ≡ response t
  pub moved : after ≡ hear_after t before
  pub mark : before.out ≡ None → mark_heard t ≡ None

module _ {X : Type 0} (F : Ghosts X) where
  -- the turn of a burst, with this buffer for the answer
  abbrev pub hearing : List ℕ → List ℕ → Reader → Result Turn Fault
  hearing burst buffer r = hear (nat_lt (length buffer) F.LONGEST) (telegram_read (F.verdict burst)) r

  -- what hear answers: the count of the answer's symbols, whether a message was taken in, and the mark
  abbrev pub heard_answer : Result Turn Fault → Result Heard Fault
  heard_answer (Err f) = Err f
  heard_answer (Ok t) = Ok (record { count = length (F.frame (carried t.answer)); taken = took_in t.deed; mark = t.mark })

  -- the frame of the answer at the front and the rest untouched; all of it untouched at a refusal
  abbrev pub heard_buffer : Result Turn Fault → List ℕ → List ℕ
  heard_buffer (Err f) buffer = buffer
  heard_buffer (Ok t) buffer = F.frame (carried t.answer) ++ drop (length (F.frame (carried t.answer))) buffer
