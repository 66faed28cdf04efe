-- An open exchange that has its slots drops nothing when it ends.
use Rattle.std.proofs.Common.{◌≡◌, ℕ, Bool, true, false, [], ◌∷◌, ◌++◌, Some, None, Ok, Err, Option, Result, refl, arith}
use Rattle.std.proofs.lemmas.List.{append-nil}
use Rattle.fault.specs.declared.Fault.{Fault}
use Rattle.frame.specs.Controls.{code_of}
use Rattle.frame.specs.declared.control.Control.{Control}
use Rattle.queue.specs.Fifo.{full}
use Rattle.rules.specs.Functions.{reply_of}
use Rattle.rules.specs.Concentrator.{Concentrator, closing, fixed_ends, flags_of, from_station, has_room, report_of, arriving, hear, hear_open, judge, single_ends, variable_ends, verdict}
use Rattle.rules.specs.Exchanges.{heard_after}
use Rattle.rules.specs.Queues.{Held, put_in}
use Rattle.rules.specs.Room.{Appended, brought, HearAppends, Roomy, flags_read, room_for}
use Rattle.rules.specs.declared.message.Message.{Message}
use Rattle.rules.specs.declared.records.Ending.{Ending}
use Rattle.rules.specs.declared.records.Ending.TheVariants as ending
use Rattle.rules.specs.declared.records.Exchange.{Exchange}
use Rattle.rules.specs.declared.records.Flags.{Flags}
use Rattle.rules.specs.declared.records.Reply.{Reply}
use Rattle.rules.specs.declared.records.Request.{Request}
use Rattle.rules.specs.declared.records.Request.TheVariants.{Reset, Status, Send, Poll}
use Rattle.rules.specs.declared.telegram.Telegram.{Telegram}
use Rattle.rules.specs.declared.telegram.Telegram.TheVariants.{Single, Fixed, Variable}
use Rattle.std.proofs.lemmas.Bool.Decides.{nat_tests}

-- a put into a queue with a free slot
put_appends : {A : Type 0} (x : A) (q : Held A) → full q.room q.records ≡ false → (put_in x q).records ≡ q.records ++ x ∷ []
put_appends x q e = grind (arith, nat_tests)

-- only a poll brings a message
abbrev may_bring : Request → Ending → Bool
may_bring Reset (ending.Brought m) = false
may_bring Status (ending.Brought m) = false
may_bring (Send n) (ending.Brought m) = false
may_bring (Poll c) (ending.Brought m) = true
may_bring v ending.Done = true
may_bring v ending.Confirmed = true
may_bring v ending.Busy = true
may_bring v ending.Empty = true
may_bring v ending.Unserved = true
may_bring v ending.Doubted = true

report_room : (v : Request) (k : Concentrator) → has_room v k ≡ true → full k.reports.room k.reports.records ≡ false
report_room v k h = grind (arith, nat_tests)

-- an answer that ends an exchange brings a message only to a poll
single_brings : (v : Request) (e : Ending) → single_ends v ≡ Ok e → may_bring v e ≡ true
single_brings v e h = grind (arith, nat_tests)

fixed_brings : (reply : Option Reply) (v : Request) (e : Ending) → fixed_ends reply v ≡ Ok e → may_bring v e ≡ true
fixed_brings reply v e h = grind (arith, nat_tests)

variable_brings : (reply : Option Reply) (v : Request) (m : Message) (e : Ending) → variable_ends reply v m ≡ Ok e → may_bring v e ≡ true
variable_brings reply v m e h = grind (arith, nat_tests)

from_station_ends : (c : Control) (a station : ℕ) (w : Result Ending Fault) (e : Ending) → from_station c a station w ≡ Ok e → w ≡ Ok e
from_station_ends c a station w e h = grind (arith, nat_tests)

verdict_brings : (x : Exchange) (t : Telegram) (e : Ending) → verdict x t ≡ Ok e → may_bring x.request e ≡ true
unfolding verdict
verdict_brings x Single e h = single_brings x.request e h
verdict_brings x (Fixed c a) e h =
    fixed_brings (reply_of (code_of c.octet)) x.request e (from_station_ends c a x.station _ e h)
verdict_brings x (Variable c a m) e h =
    variable_brings (reply_of (code_of c.octet)) x.request m e (from_station_ends c a x.station _ e h)

-- the end of an exchange whose slots are free
arrivals_grow : (v : Request) (a : ℕ) (e : Ending) (k : Concentrator) → has_room v k ≡ true → may_bring v e ≡ true → (arriving a e k.arrivals).records ≡ k.arrivals.records ++ brought a e
arrivals_grow v a e k h b = grind (arith, nat_tests, append-nil k.arrivals.records)

closing_appends : (x : Exchange) (e : Ending) (f : Flags) (k : Concentrator) → has_room x.request k ≡ true → may_bring x.request e ≡ true → Appended x e f k (closing x e f k).after
closing_appends x e f k h b = record {
  reports = put_appends (report_of x e f) k.reports (report_room x.request k h);
  arrivals = arrivals_grow x.request x.station e k h b;
}

-- a hearing, by the verdict, and by whether an exchange is open
judge_appends : (v : Result Ending Fault) (x : Exchange) (f : Flags) (k : Concentrator) → has_room x.request k ≡ true → ((e : Ending) → v ≡ Ok e → may_bring x.request e ≡ true) → HearAppends f (judge v x f k) k (heard_after (judge v x f k) k)
judge_appends (Err f) x flags k h b = tt
judge_appends (Ok e) x flags k h b = closing_appends x e flags k h (b e refl)

hear_open_appends : (open-one : Option Exchange) (t : Telegram) (k : Concentrator) → room_for open-one k ≡ true → HearAppends (flags_of t) (hear_open open-one t k) k (heard_after (hear_open open-one t k) k)
hear_open_appends None t k h = tt
hear_open_appends (Some x) t k h = judge_appends (verdict x t) x (flags_of t) k h (verdict_brings x t)

pub hear_appends : (heard : Result Telegram Fault) (k : Concentrator) → Roomy k → HearAppends (flags_read heard) (hear heard k) k (heard_after (hear heard k) k)
hear_appends (Err f) k h = tt
hear_appends (Ok t) k h = hear_open_appends k.exchange t k h
