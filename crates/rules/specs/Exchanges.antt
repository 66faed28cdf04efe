-- What the calls of an exchange answer, what they leave of the concentrator, and what they write into the caller's buffer.
use Rattle.std.specs.Prelude.{ℕ, List, ◌++◌, length, drop, Ok, Err, Result}
use Rattle.fault.specs.declared.Fault.{Fault}
use Rattle.frame.specs.Contents.{Meaning}
use Rattle.rules.specs.Concentrator.{Concentrator, Ended, Sent, Timed, again, doubted, transmission}
use Rattle.rules.specs.Records.{outcome_of}
use Rattle.rules.specs.Telegrams.{carried}
use Rattle.rules.specs.declared.records.Outcome.{Outcome}

-- the concentrator after a request: a refused one leaves it
abbrev pub sent_after : Result Sent Fault → Concentrator → Concentrator
sent_after (Err f) k = k
sent_after (Ok s) k = s.after

-- after a time-out
abbrev pub timed_after : Result Timed Fault → Concentrator → Concentrator
timed_after (Err f) k = k
timed_after (Ok (again s)) k = s.after
timed_after (Ok (doubted e)) k = e.after

-- after a hearing
abbrev pub heard_after : Result Ended Fault → Concentrator → Concentrator
heard_after (Err f) k = k
heard_after (Ok e) k = e.after

-- a hearing answers how the exchange ended
abbrev pub heard_answer : Result Ended Fault → Result Outcome Fault
heard_answer (Err f) = Err f
heard_answer (Ok e) = Ok (outcome_of e.ending)

-- frame has the symbols of each content
module _ (frame : Meaning → List ℕ) where
  -- the frame that is sent
  abbrev pub sent_frame : Sent → List ℕ
  sent_frame s = frame (carried (transmission s.exchange))

  -- a request answers the count of its symbols
  abbrev pub sent_answer : Result Sent Fault → Result ℕ Fault
  sent_answer (Err f) = Err f
  sent_answer (Ok s) = Ok (length (sent_frame s))

  -- the frame at the front of the buffer and the rest untouched; all of it untouched at a refusal
  abbrev pub sent_buffer : Result Sent Fault → List ℕ → List ℕ
  sent_buffer (Err f) buffer = buffer
  sent_buffer (Ok s) buffer = sent_frame s ++ drop (length (sent_frame s)) buffer

  -- a time-out answers the same, and 0 where the exchange ends in doubt
  abbrev pub timed_answer : Result Timed Fault → Result ℕ Fault
  timed_answer (Err f) = Err f
  timed_answer (Ok (again s)) = Ok (length (sent_frame s))
  timed_answer (Ok (doubted e)) = Ok 0

  -- in doubt nothing is written
  abbrev pub timed_buffer : Result Timed Fault → List ℕ → List ℕ
  timed_buffer (Err f) buffer = buffer
  timed_buffer (Ok (again s)) buffer = sent_frame s ++ drop (length (sent_frame s)) buffer
  timed_buffer (Ok (doubted e)) buffer = buffer
