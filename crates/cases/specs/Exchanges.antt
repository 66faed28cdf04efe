-- Bursts in FT1.2, given by their octets, at a reader and at a concentrator.
use Rattle.std.specs.Prelude.{ℕ, false, List, [], ◌∷◌, map, None, Ok, Err, Result}
use Rattle.fault.specs.declared.Fault.{Fault}
use Rattle.ft12.specs.Frames.{frame_of}
use Rattle.ft12.specs.Symbols.{symbol_of}
use Rattle.ft12.specs.Verdicts.{verdict_of}
use Rattle.rules.specs.Concentrator.{Concentrator, Sent, for_send, new_concentrator, request, time_out, with_station}
use Rattle.rules.specs.Exchanges.{timed_after}
use Rattle.rules.specs.Links.{reset_link}
use Rattle.rules.specs.Reader as reader
use Rattle.rules.specs.Reader.{Reader, Turn, hear_after}
use Rattle.rules.specs.Telegrams.{carried, telegram_read}
use Rattle.rules.specs.declared.message.Message.{Message}

-- reader 5, its link set and expecting 1, with these messages in class 1 and in an inbox of so many slots
abbrev pub reader5 : List Message → ℕ → List Message → Reader
reader5 waiting slots inbox = record {
  address = 5;
  link = reset_link;
  stored = None;
  out = None;
  class1 = record { room = 4; records = waiting };
  class2 = record { room = 4; records = [] };
  inbox = record { room = slots; records = inbox };
}

-- what a reader makes of the burst of these octets
abbrev pub hears : List ℕ → Reader → Result Turn Fault
hears octets r = reader.hear false (telegram_read (verdict_of (map symbol_of octets))) r

-- the reader after it
abbrev pub heard : List ℕ → Reader → Reader
heard octets r = hear_after (hears octets r) r

-- the burst that it answers
abbrev pub answer_of : Result Turn Fault → List ℕ
answer_of (Ok t) = frame_of (carried t.answer)
answer_of (Err f) = []

-- a concentrator that repeats three times, the link to 5 set
abbrev pub linked5 : Concentrator
linked5 = with_station 5 reset_link (new_concentrator 3 4 4)

-- what a send of one octet to 5 comes to
abbrev pub send5 : ℕ → Concentrator → Result Sent Fault
send5 octet k = request false 5 (for_send (octet ∷ [])) k

-- after so many time-outs
abbrev pub silence : List (Unit {0}) → Concentrator → Concentrator
silence [] k = k
silence (u ∷ us) k = silence us (timed_after (time_out false k) k)
