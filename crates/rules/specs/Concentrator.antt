-- The concentrator: what each of its calls answers and moves.
use Rattle.std.specs.Prelude.{ℕ, ◌+◌, Bool, true, false, not, ◌&&◌, List, [], ◌∷◌, replicate, Some, None, Ok, Err, Option, Result, ◌==◌, nat_le}
use Rattle.fault.specs.Causes.{fault}
use Rattle.fault.specs.declared.Cause.TheVariants.{WrongSender, OtherAddress, WrongControl, NoExchange, BadStation, BadClass, ExchangeOpen, LinkUnset, NoFreeSlot, ShortBuffer, BadRepetitions, BadSlots}
use Rattle.fault.specs.declared.Fault.{Fault}
use Rattle.frame.specs.Controls.{bit, code_of, primary_octet}
use Rattle.frame.specs.Verdicts.{must}
use Rattle.frame.specs.declared.control.Control.{Control}
use Rattle.queue.specs.Fifo.{full, slots_capacity, slots_fit}
use Rattle.rules.specs.Functions.{class_of, function_code, reply_of, service_of}
use Rattle.rules.specs.Links.{change_link, flipped, link_at, reset_link, unset, unset_link}
use Rattle.rules.specs.Messages.{message_answer, within}
use Rattle.rules.specs.Queues.{Held, holding, holds_nothing, put_in}
use Rattle.rules.specs.Records.{outcome_of}
use Rattle.rules.specs.declared.link.Link.{Link}
use Rattle.rules.specs.declared.message.Message.{Message}
use Rattle.rules.specs.declared.records.Arrival.{Arrival}
use Rattle.rules.specs.declared.records.Class.{Class}
use Rattle.rules.specs.declared.records.Class.TheVariants.{First, Second}
use Rattle.rules.specs.declared.records.Ending.{Ending}
use Rattle.rules.specs.declared.records.Ending.TheVariants as ending
use Rattle.rules.specs.declared.records.Exchange.{Exchange}
use Rattle.rules.specs.declared.records.Flags.{Flags}
use Rattle.rules.specs.declared.records.Function.TheVariants as fn
use Rattle.rules.specs.declared.records.Reply.{Reply}
use Rattle.rules.specs.declared.records.Reply.TheVariants as reply
use Rattle.rules.specs.declared.records.Report.{Report}
use Rattle.rules.specs.declared.records.Request.{Request}
use Rattle.rules.specs.declared.records.Request.TheVariants.{Reset, Status, Send, Poll}
use Rattle.rules.specs.declared.records.UserRequest.{UserRequest}
use Rattle.rules.specs.declared.records.UserRequest.TheVariants as user
use Rattle.rules.specs.declared.telegram.Telegram.{Telegram}
use Rattle.rules.specs.declared.telegram.Telegram.TheVariants.{Single, Fixed, Variable}

-- A concentrator: how often a frame is repeated, the links to stations 1 to 32, the exchange that is open, and the queues
-- of what has arrived and of what is reported.
pub record Concentrator : Type 0 where
  pub repetitions : ℕ
  pub links : List Link
  pub exchange : Option Exchange
  pub arrivals : Held Arrival
  pub reports : Held Report

-- The beginning: 23 if there are over 7 repetitions, then 24 unless each queue has 1 to 256 slots.
abbrev pub concentrator_check : ℕ → ℕ → ℕ → Result (Unit {0}) Fault
concentrator_check repetitions arrivals reports =
    must (nat_le repetitions 7) (fault BadRepetitions 0) (
    must (slots_fit arrivals && slots_fit reports) (fault BadSlots 0) (
    Ok tt))

-- a new concentrator: every link unset, no exchange, both queues empty
abbrev pub new_concentrator : ℕ → ℕ → ℕ → Concentrator
new_concentrator repetitions arrivals reports = record {
  repetitions = repetitions;
  links = replicate 32 unset_link;
  exchange = None;
  arrivals = holds_nothing (slots_capacity arrivals);
  reports = holds_nothing (slots_capacity reports);
}

-- with another exchange, or none
abbrev pub with_exchange : Option Exchange → Concentrator → Concentrator
with_exchange x k = record { repetitions = k.repetitions; links = k.links; exchange = x; arrivals = k.arrivals; reports = k.reports }

-- with another link to a station
abbrev pub with_station : ℕ → Link → Concentrator → Concentrator
with_station a l k = record { repetitions = k.repetitions; links = change_link k.links a l; exchange = k.exchange; arrivals = k.arrivals; reports = k.reports }

-- with these queues
abbrev pub with_queues : Held Arrival → Held Report → Concentrator → Concentrator
with_queues arrivals reports k = record { repetitions = k.repetitions; links = k.links; exchange = k.exchange; arrivals = arrivals; reports = reports }

-- the frame of a request to a station, with its frame count bit, each time that it is sent
abbrev pub request_telegram : Request → Bool → ℕ → Telegram
request_telegram Reset b a = Fixed (record { octet = primary_octet false false (function_code fn.Reset) }) a
request_telegram Status b a = Fixed (record { octet = primary_octet false false (function_code fn.Status) }) a
request_telegram (Send m) b a = Variable (record { octet = primary_octet b true (function_code fn.Send) }) a m
request_telegram (Poll First) b a = Fixed (record { octet = primary_octet b true (function_code fn.PollFirst) }) a
request_telegram (Poll Second) b a = Fixed (record { octet = primary_octet b true (function_code fn.PollSecond) }) a

abbrev pub transmission : Exchange → Telegram
transmission x = request_telegram x.request x.bit x.station

-- What a user may ask for, before its length or class is looked at.
pub data Asking : Type 0 where
  for_reset for_status : Asking
  for_send : List ℕ → Asking
  for_poll : ℕ → Asking

-- what a caller's request asks for
abbrev pub asking : UserRequest → Asking
asking user.Reset = for_reset
asking user.Status = for_status
asking (user.Send octets) = for_send octets.now
asking (user.Poll class) = for_poll class

-- 15 unless a send has 1 to 64 octets, 16 unless a poll is of class 1 or 2
abbrev pub send_of : Result Message Fault → Result Request Fault
send_of (Ok m) = Ok (Send m)
send_of (Err f) = Err f

abbrev pub poll_of : Option Class → Result Request Fault
poll_of (Some c) = Ok (Poll c)
poll_of None = Err (fault BadClass 0)

abbrev pub request_of : Asking → Result Request Fault
request_of for_reset = Ok Reset
request_of for_status = Ok Status
request_of (for_send octets) = send_of (message_answer octets)
request_of (for_poll class) = poll_of (class_of class)

-- a send and a poll need the link set
abbrev pub ready : Request → Link → Bool
ready Reset l = true
ready Status l = true
ready (Send m) l = l.set
ready (Poll c) l = l.set

-- a free slot for the report and, on a poll, one for the arrival
abbrev pub has_room : Request → Concentrator → Bool
has_room Reset k = not (full k.reports.room k.reports.records)
has_room Status k = not (full k.reports.room k.reports.records)
has_room (Send m) k = not (full k.reports.room k.reports.records)
has_room (Poll c) k = not (full k.reports.room k.reports.records) && not (full k.arrivals.room k.arrivals.records)

-- a reset makes the link unset there and then
abbrev pub link_asked : Request → Link → Link
link_asked Reset l = unset l
link_asked Status l = l
link_asked (Send m) l = l
link_asked (Poll c) l = l

-- A frame was sent: the exchange, and the concentrator after it.
pub record Sent : Type 0 where
  pub exchange : Exchange
  pub after : Concentrator

-- the exchange of a request: the bit that comes next, transmission 1
abbrev pub first_exchange : ℕ → Request → Concentrator → Exchange
first_exchange a v k = record { station = a; request = v; bit = (link_at k.links a).next; transmissions = 1 }

abbrev pub opening : Exchange → Concentrator → Sent
opening x k = record {
  exchange = x;
  after = with_exchange (Some x) (with_station x.station (link_asked x.request (link_at k.links x.station)) k);
}

-- 17 if an exchange is open, then 18 unless the link is ready, then 19 unless there is room
abbrev pub opened : Option Exchange → Bool → Bool → ℕ → Request → Concentrator → Result Sent Fault
opened (Some x) ready-to room a v k = Err (fault ExchangeOpen 0)
opened None false room a v k = Err (fault LinkUnset 0)
opened None true false a v k = Err (fault NoFreeSlot 0)
opened None true true a v k = Ok (opening (first_exchange a v k) k)

abbrev pub request_as : Result Request Fault → ℕ → Concentrator → Result Sent Fault
request_as (Err f) a k = Err f
request_as (Ok v) a k = opened k.exchange (ready v (link_at k.links a)) (has_room v k) a v k

-- Reset, status, send and poll: 20 if the buffer is under the longest frame, then 14, 15, 16, 17, 18, 19.
abbrev pub request : Bool → ℕ → Asking → Concentrator → Result Sent Fault
request short a q k =
    must (not short) (fault ShortBuffer 0) (
    must (within 1 32 a) (fault BadStation 0) (
    request_as (request_of q) a k))

-- Hear: what an answer means to the open exchange.
abbrev pub wrong : Result Ending Fault
wrong = Err (fault WrongControl 0)

abbrev pub ack_ends : Request → Result Ending Fault
ack_ends Reset = Ok ending.Done
ack_ends Status = wrong
ack_ends (Send m) = Ok ending.Confirmed
ack_ends (Poll c) = wrong

abbrev pub busy_ends : Request → Result Ending Fault
busy_ends Reset = Ok ending.Busy
busy_ends Status = wrong
busy_ends (Send m) = Ok ending.Busy
busy_ends (Poll c) = wrong

abbrev pub no_data_ends : Request → Result Ending Fault
no_data_ends Reset = wrong
no_data_ends Status = wrong
no_data_ends (Send m) = wrong
no_data_ends (Poll c) = Ok ending.Empty

abbrev pub status_ends : Request → Result Ending Fault
status_ends Reset = wrong
status_ends Status = Ok ending.Done
status_ends (Send m) = wrong
status_ends (Poll c) = wrong

abbrev pub data_ends : Request → Message → Result Ending Fault
data_ends Reset m = wrong
data_ends Status m = wrong
data_ends (Send n) m = wrong
data_ends (Poll c) m = Ok (ending.Brought m)

-- single stands for ACK and for no data
abbrev pub single_ends : Request → Result Ending Fault
single_ends Reset = Ok ending.Done
single_ends Status = wrong
single_ends (Send m) = Ok ending.Confirmed
single_ends (Poll c) = Ok ending.Empty

abbrev pub fixed_ends : Option Reply → Request → Result Ending Fault
fixed_ends None v = wrong
fixed_ends (Some reply.Ack) v = ack_ends v
fixed_ends (Some reply.Busy) v = busy_ends v
fixed_ends (Some reply.Data) v = wrong
fixed_ends (Some reply.NoData) v = no_data_ends v
fixed_ends (Some reply.Status) v = status_ends v
fixed_ends (Some reply.NotFunctioning) v = Ok ending.Unserved
fixed_ends (Some reply.NotImplemented) v = Ok ending.Unserved

abbrev pub variable_ends : Option Reply → Request → Message → Result Ending Fault
variable_ends None v m = wrong
variable_ends (Some reply.Ack) v m = wrong
variable_ends (Some reply.Busy) v m = wrong
variable_ends (Some reply.Data) v m = data_ends v m
variable_ends (Some reply.NoData) v m = wrong
variable_ends (Some reply.Status) v m = wrong
variable_ends (Some reply.NotFunctioning) v m = wrong
variable_ends (Some reply.NotImplemented) v m = wrong

-- 8 if PRM is 1, then 9 unless the address is the station's, then 10 if bit 7 is 1
abbrev pub from_station : Control → ℕ → ℕ → Result Ending Fault → Result Ending Fault
from_station c a station v =
    must (not (bit 64 c.octet)) (fault WrongSender 0) (
    must (a == station) (fault OtherAddress 0) (
    must (not (bit 128 c.octet)) (fault WrongControl 0) v))

unfoldable pub verdict : Exchange → Telegram → Result Ending Fault
verdict x Single = single_ends x.request
verdict x (Fixed c a) = from_station c a x.station (fixed_ends (reply_of (code_of c.octet)) x.request)
verdict x (Variable c a m) = from_station c a x.station (variable_ends (reply_of (code_of c.octet)) x.request m)

-- ACD and DFC as heard
abbrev pub no_flags : Flags
no_flags = record { acd = false; dfc = false }

abbrev pub flags_of : Telegram → Flags
flags_of Single = no_flags
flags_of (Fixed c a) = record { acd = bit 32 c.octet; dfc = bit 16 c.octet }
flags_of (Variable c a m) = record { acd = bit 32 c.octet; dfc = bit 16 c.octet }

-- the link after an exchange is done, and after busy
abbrev pub link_done : Request → Link → Link
link_done Reset l = reset_link
link_done Status l = l
link_done (Send m) l = l
link_done (Poll c) l = l

abbrev pub link_busy : Request → Link → Link
link_busy Reset l = unset l
link_busy Status l = l
link_busy (Send m) l = flipped l
link_busy (Poll c) l = l

-- the link after an exchange: every answer to a send or a poll flips its bit; doubt and not served unset it
unfoldable pub link_after : Request → Ending → Link → Link
link_after v ending.Done l = link_done v l
link_after v ending.Confirmed l = flipped l
link_after v ending.Busy l = link_busy v l
link_after v (ending.Brought m) l = flipped l
link_after v ending.Empty l = flipped l
link_after v ending.Unserved l = unset l
link_after v ending.Doubted l = unset l

-- what an ending adds to the arrivals
abbrev pub arriving : ℕ → Ending → Held Arrival → Held Arrival
arriving a ending.Done q = q
arriving a ending.Confirmed q = q
arriving a ending.Busy q = q
arriving a (ending.Brought m) q = put_in (record { station = a; message = m }) q
arriving a ending.Empty q = q
arriving a ending.Unserved q = q
arriving a ending.Doubted q = q

-- the one report of an ended exchange
abbrev pub report_of : Exchange → Ending → Flags → Report
report_of x e f = record {
  station = x.station;
  service = service_of x.request;
  outcome = outcome_of e;
  flags = f;
  transmissions = x.transmissions;
}

-- An exchange has ended: the exchange, how, and the concentrator after it.
pub record Ended : Type 0 where
  pub exchange : Exchange
  pub ending : Ending
  pub after : Concentrator

abbrev pub closing : Exchange → Ending → Flags → Concentrator → Ended
closing x e f k = record {
  exchange = x;
  ending = e;
  after = record {
    repetitions = k.repetitions;
    links = change_link k.links x.station (link_after x.request e (link_at k.links x.station));
    exchange = None;
    arrivals = arriving x.station e k.arrivals;
    reports = put_in (report_of x e f) k.reports;
  };
}

abbrev pub judge : Result Ending Fault → Exchange → Flags → Concentrator → Result Ended Fault
judge (Err f) x flags k = Err f
judge (Ok e) x flags k = Ok (closing x e flags k)

abbrev pub hear_open : Option Exchange → Telegram → Concentrator → Result Ended Fault
hear_open None t k = Err (fault NoExchange 0)
hear_open (Some x) t k = judge (verdict x t) x (flags_of t) k

-- read's faults, then 13 if no exchange is open, then those of the answer
abbrev pub hear : Result Telegram Fault → Concentrator → Result Ended Fault
hear (Err f) k = Err f
hear (Ok t) k = hear_open k.exchange t k

-- Time-out: the frame goes out again, or the exchange ends in doubt.
pub data Timed : Type 0 where
  again : Sent → Timed
  doubted : Ended → Timed

abbrev pub once_more : Exchange → Exchange
once_more x = record { station = x.station; request = x.request; bit = x.bit; transmissions = x.transmissions + 1 }

-- with at most as many transmissions as repetitions it goes out again
abbrev pub repeat_if : Bool → Exchange → Concentrator → Timed
repeat_if true x k = again (record { exchange = once_more x; after = with_exchange (Some (once_more x)) k })
repeat_if false x k = doubted (closing x ending.Doubted no_flags k)

abbrev pub time_open : Option Exchange → Concentrator → Result Timed Fault
time_open None k = Err (fault NoExchange 0)
time_open (Some x) k = Ok (repeat_if (nat_le x.transmissions k.repetitions) x k)

-- 20 if the buffer is under the longest frame, then 13
abbrev pub time_out : Bool → Concentrator → Result Timed Fault
time_out short k = must (not short) (fault ShortBuffer 0) (time_open k.exchange k)

-- Fetch: what is left after the oldest arrival, the oldest report, is taken.
abbrev pub arrivals_left : List Arrival → Concentrator → Concentrator
arrivals_left [] k = k
arrivals_left (x ∷ xs) k = with_queues (holding k.arrivals xs) k.reports k

abbrev pub reports_left : List Report → Concentrator → Concentrator
reports_left [] k = k
reports_left (x ∷ xs) k = with_queues k.arrivals (holding k.reports xs) k

abbrev pub arrival_fetched : Concentrator → Concentrator
arrival_fetched k = arrivals_left k.arrivals.records k

abbrev pub report_fetched : Concentrator → Concentrator
report_fetched k = reports_left k.reports.records k
