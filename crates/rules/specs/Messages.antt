-- Messages, by their octets.
use Rattle.std.specs.Prelude.{ℕ, Bool, cond, ◌&&◌, List, length, take, Ok, Err, Result, nat_le}
use Rattle.fault.specs.Causes.{fault}
use Rattle.fault.specs.declared.Cause.TheVariants.{BadLength}
use Rattle.fault.specs.declared.Fault.{Fault}
use Rattle.frame.specs.Contents.{padded}
use Rattle.rules.specs.declared.message.Message.{Message}

-- whether a number lies between two others
abbrev pub within : ℕ → ℕ → ℕ → Bool
within low high n = nat_le low n && nat_le n high

-- how many octets a message has, 1 to 64
abbrev pub octet_count : Message → ℕ
octet_count m = cond (within 1 64 m.count) m.count 64

-- its octets
abbrev pub text : Message → List ℕ
text m = take (octet_count m) m.octets

-- the message of these octets, zero beyond them
abbrev pub message_of : List ℕ → Message
message_of os = record { count = length os; octets = padded os }

-- 15 unless there are 1 to 64 octets
abbrev pub message_answer : List ℕ → Result Message Fault
message_answer os = cond (within 1 64 (length os)) (Ok (message_of os)) (Err (fault BadLength 0))
