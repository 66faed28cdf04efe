-- The reader: what each of its calls answers and moves.
use Rattle.std.specs.Prelude.{ℕ, Bool, true, false, cond, not, ◌&&◌, ◌||◌, List, [], ◌∷◌, Some, None, Ok, Err, Option, Result, ◌==◌}
use Rattle.std.specs.Bool.{beq}
use Rattle.fault.specs.Causes.{fault}
use Rattle.fault.specs.declared.Cause.TheVariants.{WrongSender, OtherAddress, WrongControl, ReaderUnset, NothingStored, BadStation, BadClass, BadSlots, ShortBuffer}
use Rattle.fault.specs.declared.Fault.{Fault}
use Rattle.frame.specs.Controls.{bit, code_of, secondary_octet}
use Rattle.frame.specs.Verdicts.{must}
use Rattle.frame.specs.declared.control.Control.{Control}
use Rattle.queue.specs.Fifo.{empty, full, put_answer, slots_capacity, slots_fit}
use Rattle.rules.specs.Functions.{class_of, function_of, reply_code}
use Rattle.rules.specs.Links.{flipped, reset_link, unset, unset_link}
use Rattle.rules.specs.Messages.{message_answer, within}
use Rattle.rules.specs.Queues.{Held, holding, holds_nothing, put_in}
use Rattle.rules.specs.declared.link.Link.{Link}
use Rattle.rules.specs.declared.message.Message.{Message}
use Rattle.rules.specs.declared.records.Class.{Class}
use Rattle.rules.specs.declared.records.Class.TheVariants.{First, Second}
use Rattle.rules.specs.declared.records.Function.{Function}
use Rattle.rules.specs.declared.records.Function.TheVariants as fn
use Rattle.rules.specs.declared.records.Mark.{Mark}
use Rattle.rules.specs.declared.records.Mark.TheVariants.{Settled, Doubtful}
use Rattle.rules.specs.declared.records.Reply.{Reply}
use Rattle.rules.specs.declared.records.Reply.TheVariants.{Ack, Busy, Data, NoData, Status, NotImplemented}
use Rattle.rules.specs.declared.telegram.Telegram.{Telegram}
use Rattle.rules.specs.declared.telegram.Telegram.TheVariants.{Single, Fixed, Variable}

-- A reader. Its link has the bit that it expects; stored is the answer that a repetition gets; out is the message that
-- was handed out last, until it is marked.
pub record Reader : Type 0 where
  pub address : ℕ
  pub link : Link
  pub stored : Option Telegram
  pub out : Option Message
  pub class1 : Held Message
  pub class2 : Held Message
  pub inbox : Held Message

-- The beginning: 14 unless the address is 1 to 32, then 24 unless each queue has 1 to 256 slots.
abbrev pub reader_check : ℕ → ℕ → ℕ → ℕ → Result (Unit {0}) Fault
reader_check address slots1 slots2 slots =
    must (within 1 32 address) (fault BadStation 0) (
    must (slots_fit slots1 && (slots_fit slots2 && slots_fit slots)) (fault BadSlots 0) (
    Ok tt))

-- a new reader: unset, nothing stored, nothing out, every queue empty
abbrev pub new_reader : ℕ → ℕ → ℕ → ℕ → Reader
new_reader address slots1 slots2 slots = record {
  address = address;
  link = unset_link;
  stored = None;
  out = None;
  class1 = holds_nothing (slots_capacity slots1);
  class2 = holds_nothing (slots_capacity slots2);
  inbox = holds_nothing (slots_capacity slots);
}

-- the queue of a class
abbrev pub class_queue : Class → Reader → Held Message
class_queue First r = r.class1
class_queue Second r = r.class2

-- a reader with another queue of a class
abbrev pub with_class : Class → Held Message → Reader → Reader
with_class First q r = record { address = r.address; link = r.link; stored = r.stored; out = r.out; class1 = q; class2 = r.class2; inbox = r.inbox }
with_class Second q r = record { address = r.address; link = r.link; stored = r.stored; out = r.out; class1 = r.class1; class2 = q; inbox = r.inbox }

-- a reader with another inbox
abbrev pub with_inbox : Held Message → Reader → Reader
with_inbox q r = record { address = r.address; link = r.link; stored = r.stored; out = r.out; class1 = r.class1; class2 = r.class2; inbox = q }

-- a reader with another link, stored answer and message out
abbrev pub with_link : Link → Option Telegram → Option Message → Reader → Reader
with_link l stored out r = record { address = r.address; link = l; stored = stored; out = out; class1 = r.class1; class2 = r.class2; inbox = r.inbox }

-- Offer: 15, 16, 21, or the class and message that are accepted and the reader with it as the newest of its class.
pub data Offered : Type 0 where
  declined : Fault → Offered
  accepted : Class → Message → Reader → Offered

abbrev pub offer_into : Result (Unit {0}) Fault → Class → Message → Reader → Offered
offer_into (Err f) c m r = declined f
offer_into (Ok u) c m r = accepted c m (with_class c (put_in m (class_queue c r)) r)

abbrev pub offer_as : Result Message Fault → Option Class → Reader → Offered
offer_as (Err f) c r = declined f
offer_as (Ok m) None r = declined (fault BadClass 0)
offer_as (Ok m) (Some c) r = offer_into (put_answer (class_queue c r).room (class_queue c r).records) c m r

abbrev pub offer : ℕ → List ℕ → Reader → Offered
offer class octets r = offer_as (message_answer octets) (class_of class) r

-- what offer answers
abbrev pub offer_answer : Offered → Result (Unit {0}) Fault
offer_answer (declined f) = Err f
offer_answer (accepted c m r) = Ok tt

-- the reader after it
abbrev pub offer_after : Offered → Reader → Reader
offer_after (declined f) r = r
offer_after (accepted c m r') r = r'

-- Collect takes the oldest of the inbox: what is left in it.
abbrev pub collect_after : List Message → Reader → Reader
collect_after [] r = r
collect_after (m ∷ ms) r = with_inbox (holding r.inbox ms) r

abbrev pub collected : Reader → Reader
collected r = collect_after r.inbox.records r

-- the mark of the message out, if one is
abbrev pub marked : Mark → Option Message → Option Mark
marked k None = None
marked k (Some m) = Some k

-- the caller's record after a call that marked the message out, or none
abbrev pub record_after : Option Mark → Option Message → Message → Message
record_after None out old = old
record_after (Some k) None old = old
record_after (Some k) (Some m) old = m

-- Restart: the link is unset with its bit unaltered, nothing is stored, nothing is out.
abbrev pub restarted : Reader → Reader
restarted r = with_link (unset r.link) None None r

-- ACD: class 1 has a message waiting
abbrev pub acd : Reader → Bool
acd r = not (empty r.class1.records)

-- DFC: the inbox is full
abbrev pub dfc : Reader → Bool
dfc r = full r.inbox.room r.inbox.records

-- an answer of this kind, with ACD and DFC as the reader has them
abbrev pub control_of : Reply → Reader → Control
control_of k r = record { octet = secondary_octet (acd r) (dfc r) (reply_code k) }

abbrev pub says : Reply → Reader → Telegram
says k r = Fixed (control_of k r) r.address

-- ACK and no data: single exactly if ACD and DFC are 0
abbrev pub says_briefly : Reply → Reader → Telegram
says_briefly k r = cond (acd r || dfc r) (says k r) Single

abbrev pub says_data : Message → Reader → Telegram
says_data m r = Variable (control_of Data r) r.address m

-- What a frame count bit is valid for: taking a message in, or handing one of a class out.
pub data Task : Type 0 where
  take : Message → Task
  give : Class → Task

-- what a request asks of a reader; what is unknown is answered, what is improper refused
pub data Ask : Type 0 where
  reset status unknown improper : Ask
  counted : Bool → Task → Ask

-- by the code, FCV, FCB, and the message of a variable frame
abbrev pub asked : Option Function → Bool → Bool → Option Message → Ask
asked None fcv fcb m = unknown
asked (Some fn.Reset) false fcb None = reset
asked (Some fn.Reset) false fcb (Some m) = improper
asked (Some fn.Reset) true fcb m = improper
asked (Some fn.Status) false fcb None = status
asked (Some fn.Status) false fcb (Some m) = improper
asked (Some fn.Status) true fcb m = improper
asked (Some fn.Send) true fcb (Some m) = counted fcb (take m)
asked (Some fn.Send) true fcb None = improper
asked (Some fn.Send) false fcb m = improper
asked (Some fn.PollFirst) true fcb None = counted fcb (give First)
asked (Some fn.PollFirst) true fcb (Some m) = improper
asked (Some fn.PollFirst) false fcb m = improper
asked (Some fn.PollSecond) true fcb None = counted fcb (give Second)
asked (Some fn.PollSecond) true fcb (Some m) = improper
asked (Some fn.PollSecond) false fcb m = improper

-- What an accepted request moved: nothing; a message into the inbox, or none as it is full; a message of a class out, or
-- none as there is none.
pub data Deed : Type 0 where
  still : Deed
  took : Message → Deed
  busy : Deed
  gave : Class → Message → Deed
  bare : Deed

-- a hearing that is answered: the reader after it, its answer, what it moved, and the mark of the message that was out
pub record Turn : Type 0 where
  pub reader : Reader
  pub answer : Telegram
  pub deed : Deed
  pub mark : Option Mark

-- an answer that moves nothing
abbrev pub still_says : Telegram → Reader → Result Turn Fault
still_says t r = Ok (record { reader = r; answer = t; deed = still; mark = None })

-- the expected bit has come: what was out is settled, the bit flips, and this may be out now
abbrev pub turned : Option Message → Reader → Reader
turned out r = with_link (flipped r.link) None out r

-- the answer is made after the moves, and stored
abbrev pub moved : Reader → Telegram → Deed → Option Message → Result Turn Fault
moved r t d out = Ok (record { reader = with_link r.link (Some t) r.out r; answer = t; deed = d; mark = marked Settled out })

-- a send: into the inbox, or busy if that is full
unfoldable pub take_in : Bool → Message → Reader → Result Turn Fault
take_in true m r = let r' = turned None r in moved r' (says Busy r') busy r.out
take_in false m r = let r' = turned None (with_inbox (put_in m r.inbox) r) in moved r' (says_briefly Ack r') (took m) r.out

-- a poll: the oldest of its class, which is now out, or no data
unfoldable pub give_out : List Message → Class → Reader → Result Turn Fault
give_out [] c r = let r' = turned None r in moved r' (says_briefly NoData r') bare r.out
give_out (m ∷ ms) c r =
    let r' = turned (Some m) (with_class c (holding (class_queue c r) ms) r) in
    moved r' (says_data m r') (gave c m) r.out

abbrev pub perform : Task → Reader → Result Turn Fault
perform (take m) r = take_in (dfc r) m r
perform (give c) r = give_out (class_queue c r).records c r

-- another bit than expected: the stored answer goes out again, symbol for symbol; 12 if there is none
unfoldable pub repeat : Option Telegram → Reader → Result Turn Fault
repeat None r = Err (fault NothingStored 0)
repeat (Some t) r = still_says t r

-- by whether the link is set, 11 if not, and whether the bit is the expected one
abbrev pub count : Bool → Bool → Task → Reader → Result Turn Fault
count false same t r = Err (fault ReaderUnset 0)
count true false t r = repeat r.stored r
count true true t r = perform t r

-- a reset sets the link, expects 1, drops the stored answer and marks what is out doubtful; its ACK is not stored
abbrev pub answer : Ask → Reader → Result Turn Fault
answer reset r =
    let r' = with_link reset_link None None r in
    Ok (record { reader = r'; answer = says_briefly Ack r'; deed = still; mark = marked Doubtful r.out })
answer status r = still_says (says Status r) r
answer unknown r = still_says (says NotImplemented r) r
answer improper r = Err (fault WrongControl 0)
answer (counted b t) r = count r.link.set (beq b r.link.next) t r

-- 8 unless PRM is 1, then 9 unless the address is the reader's, then 10 if bit 7 is 1
abbrev pub addressed : Control → ℕ → Option Message → Reader → Result Turn Fault
addressed c a m r =
    must (bit 64 c.octet) (fault WrongSender 0) (
    must (a == r.address) (fault OtherAddress 0) (
    must (not (bit 128 c.octet)) (fault WrongControl 0) (
    answer (asked (function_of (code_of c.octet)) (bit 16 c.octet) (bit 32 c.octet) m) r)))

-- Hear, of a telegram: single comes from a reader.
unfoldable pub hear_telegram : Telegram → Reader → Result Turn Fault
hear_telegram Single r = Err (fault WrongSender 0)
hear_telegram (Fixed c a) r = addressed c a None r
hear_telegram (Variable c a m) r = addressed c a (Some m) r

-- of what was read of a burst
abbrev pub hear_read : Result Telegram Fault → Reader → Result Turn Fault
hear_read (Err f) r = Err f
hear_read (Ok t) r = hear_telegram t r

-- 20 before all else, if the buffer for the answer is under the longest frame
abbrev pub hear : Bool → Result Telegram Fault → Reader → Result Turn Fault
hear short heard r = must (not short) (fault ShortBuffer 0) (hear_read heard r)

-- the reader after a hearing
abbrev pub hear_after : Result Turn Fault → Reader → Reader
hear_after (Err f) r = r
hear_after (Ok t) r = t.reader

-- the mark of a hearing
abbrev pub mark_heard : Result Turn Fault → Option Mark
mark_heard (Err f) = None
mark_heard (Ok t) = t.mark

-- whether a message was taken in
abbrev pub took_in : Deed → Bool
took_in still = false
took_in (took m) = true
took_in busy = false
took_in (gave c m) = false
took_in bare = false
