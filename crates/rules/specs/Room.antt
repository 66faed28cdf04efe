-- The slots that an open exchange finds when it ends.
use Rattle.std.specs.Prelude.{◌≡◌, ℕ, Bool, true, List, [], ◌∷◌, ◌++◌, Some, None, Ok, Err, Option, Result}
use Rattle.fault.specs.declared.Fault.{Fault}
use Rattle.rules.specs.Concentrator.{Concentrator, Ended, Timed, again, doubted, flags_of, has_room, no_flags, report_of}
use Rattle.rules.specs.declared.records.Arrival.{Arrival}
use Rattle.rules.specs.declared.records.Ending.{Ending}
use Rattle.rules.specs.declared.records.Ending.TheVariants as ending
use Rattle.rules.specs.declared.records.Exchange.{Exchange}
use Rattle.rules.specs.declared.records.Flags.{Flags}
use Rattle.rules.specs.declared.telegram.Telegram.{Telegram}

-- whether the slots that an exchange needs are free
abbrev pub room_for : Option Exchange → Concentrator → Bool
room_for None k = true
room_for (Some x) k = has_room x.request k

-- the open exchange has a free slot for its report and, on a poll, one for the arrival
abbrev pub Roomy : Concentrator → Type 0
Roomy k = room_for k.exchange k ≡ true

-- the arrival of an ending that brought a message
abbrev pub brought : ℕ → Ending → List Arrival
brought a ending.Done = []
brought a ending.Confirmed = []
brought a ending.Busy = []
brought a (ending.Brought m) = record { station = a; message = m } ∷ []
brought a ending.Empty = []
brought a ending.Unserved = []
brought a ending.Doubted = []

-- An exchange has ended and nothing was dropped: its report is the newest, after all that were there, and so is the
-- arrival that it brought.
pub record Appended (x : Exchange) (e : Ending) (f : Flags) (before after : Concentrator) : Type 0 where
  pub reports : after.reports.records ≡ before.reports.records ++ report_of x e f ∷ []
  pub arrivals : after.arrivals.records ≡ before.arrivals.records ++ brought x.station e

-- ACD and DFC of what was read of a burst
abbrev pub flags_read : Result Telegram Fault → Flags
flags_read (Err f) = no_flags
flags_read (Ok t) = flags_of t

-- where a hearing ends an exchange, nothing is dropped
abbrev pub HearAppends : Flags → Result Ended Fault → Concentrator → Concentrator → Type 0
HearAppends flags (Err f) before after = Unit {0}
HearAppends flags (Ok e) before after = Appended e.exchange e.ending flags before after

-- where a time-out ends one
abbrev pub DoubtAppends : Result Timed Fault → Concentrator → Concentrator → Type 0
DoubtAppends (Err f) before after = Unit {0}
DoubtAppends (Ok (again s)) before after = Unit {0}
DoubtAppends (Ok (doubted e)) before after = Appended e.exchange e.ending no_flags before after
