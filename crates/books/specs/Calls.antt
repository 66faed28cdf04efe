-- What each call of either end changes in what the books show.
use Rattle.std.specs.Prelude.{ℕ, Bool, cond, Some, None, Ok, Err, Option, Result}
use Rattle.books.specs.Seen.{Seen, arrives, ended, enters, handed, marked, offered, sent}
use Rattle.fault.specs.declared.Fault.{Fault}
use Rattle.rules.specs.Reader as rd
use Rattle.rules.specs.Reader.{Deed, Turn, still, took, took_in, busy, gave, bare}
use Rattle.rules.specs.declared.records.Class.{Class}
use Rattle.rules.specs.declared.records.Mark.{Mark}
use Rattle.rules.specs.declared.records.Outcome.{Outcome}
use Rattle.rules.specs.declared.records.Outcome.TheVariants.{Done, Confirmed, Busy, Data, NoData, NotServed, Doubtful}
use Rattle.rules.specs.declared.records.Request.{Request}
use Rattle.rules.specs.declared.records.Request.TheVariants.{Reset, Status, Send, Poll}

-- ## the concentrator's calls

-- an accepted request: a send is one more
abbrev pub asked_seen : Request → Seen → Seen
asked_seen Reset v = v
asked_seen Status v = v
asked_seen (Send m) v = sent v
asked_seen (Poll c) v = v

-- a data answer brought the offer of this number
abbrev pub brought_seen : ℕ → Outcome → Seen → Seen
brought_seen n Done v = v
brought_seen n Confirmed v = v
brought_seen n Busy v = v
brought_seen n Data v = arrives n v
brought_seen n NoData v = v
brought_seen n NotServed v = v
brought_seen n Doubtful v = v

-- a send has its outcome
abbrev pub closed_seen : Request → Outcome → Seen → Seen
closed_seen Reset o v = v
closed_seen Status o v = v
closed_seen (Send m) o v = ended o v
closed_seen (Poll c) o v = v

-- the exchange of a request has ended, by a burst of this number
abbrev pub ended_seen : ℕ → Request → Outcome → Seen → Seen
ended_seen n r o v = closed_seen r o (brought_seen n o v)

-- ## a reader's calls

-- an offer of this class was accepted, if there is such a class
abbrev pub class_seen : Option Class → Seen → Seen
class_seen None v = v
class_seen (Some c) v = offered c v

abbrev pub offered_seen : rd.Offered → Seen → Seen
offered_seen (rd.declined f) v = v
offered_seen (rd.accepted c m r) v = offered c v

-- the mark of the message out, if one was out
abbrev pub marked_seen : Option Mark → Seen → Seen
marked_seen None v = v
marked_seen (Some k) v = marked k v

-- the class of what was handed out, if something was
abbrev pub handed_seen : Option Class → Seen → Seen
handed_seen None v = v
handed_seen (Some c) v = handed c v

-- what a hearing came to: whether a message was taken in, which has the number of its burst; the mark; what was handed out
abbrev pub noted_seen : ℕ → Bool → Option Mark → Option Class → Seen → Seen
noted_seen n taken k c v = handed_seen c (marked_seen k (cond taken (enters n v) v))

-- the class of what a hearing handed out
abbrev pub class_given : Deed → Option Class
class_given still = None
class_given (took m) = None
class_given busy = None
class_given (gave c m) = Some c
class_given bare = None

abbrev pub heard_seen : ℕ → Result Turn Fault → Seen → Seen
heard_seen n (Err f) v = v
heard_seen n (Ok t) v = noted_seen n (took_in t.deed) t.mark (class_given t.deed) v
