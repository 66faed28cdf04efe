-- A site of the code as plain data, and what its calls answer and come to.
use Rattle.std.specs.Prelude.{◌≡◌, ℕ, ◌+◌, Bool, true, false, cond, not, ◌&&◌, ◌⊎◌, List, [], length, take, Some, None, Ok, Err, vec_items, Option, Result, Vec}
use Rattle.account.specs.Books.{asked, change, ended, found, newest_send}
use Rattle.account.specs.Line.{Event, World, step}
use Rattle.concentrator.specs.View as concentrator
use Rattle.damage.specs.declared.DamageError.{DamageError}
use Rattle.fault.specs.declared.Fault.{Fault}
use Rattle.frame.specs.declared.Format.{Ghosts}
use Rattle.line.specs.Lines as line
use Rattle.line.specs.Ways.{Sent, View, arrived, as_sent, launched, open_to_join, sent_at}
use Rattle.reader.specs.declared.Heard.{Heard}
use Rattle.readers.specs.Pairs.{Changes, Tells}
use Rattle.readers.specs.Readers.{Kept, ReadyAt, ShowsReader, handed_by, place_of, readers}
use Rattle.readers.specs.declared.Readers.{Readers}
use Rattle.rules.specs.Concentrator as co
use Rattle.rules.specs.Reader.{Turn, reader_check, record_after, took_in}
use Rattle.rules.specs.Records.{outcome_of}
use Rattle.rules.specs.declared.message.Message.{Message}
use Rattle.rules.specs.declared.records.Ending.{Ending}
use Rattle.rules.specs.declared.records.Exchange.{Exchange}
use Rattle.rules.specs.declared.records.Outcome.{Outcome}
use Rattle.rules.specs.declared.records.Outcome.TheVariants.{Doubtful}
use Rattle.rules.specs.declared.records.ReaderPlan.{ReaderPlan}
use Rattle.site.specs.Shown.{Memory, Stands}
use Rattle.site.specs.Troubles.{told}
use Rattle.site.specs.declared.Site.{Site}
use Rattle.site.specs.declared.trouble.Answer.{Answer}
use Rattle.site.specs.declared.trouble.TimedOut.{TimedOut}
use Rattle.site.specs.declared.trouble.TimedOut.TheVariants.{Repeated, Doubted}
use Rattle.site.specs.declared.trouble.Trouble.{Trouble}
use Rattle.site.specs.declared.trouble.Trouble.TheVariants.{Closed, Damaged, Joined, NoReader, OutOfMemory, Refused}
use Rattle.station.specs.declared.Refusal.{Refusal}
use Rattle.station.specs.declared.Refusal.TheVariants as refusal
use Rattle.std.specs.declared.alloc.Global.{Global}

-- what a site has in memory
abbrev pub seen : {F : Type 0} → Site F → Memory
seen s = record {
  concentrator = concentrator.view vec_items vec_items s.concentrator;
  readers = readers s.readers;
  line = line.view s.line;
  started = s.started;
}

-- with another line, and with a call made
abbrev pub with_line : View → Memory → Memory
with_line v m = record { concentrator = m.concentrator; readers = m.readers; line = v; started = m.started }

abbrev pub begun : Memory → Memory
begun m = record { concentrator = m.concentrator; readers = m.readers; line = m.line; started = true }

-- after a call, which counts if it was made
abbrev pub settled : Bool → Memory → Memory
settled true m = begun m
settled false m = m

-- with other readers
abbrev pub with_readers : List Kept → Memory → Memory
with_readers l m = record { concentrator = m.concentrator; readers = l; line = m.line; started = m.started }

-- the k of the next burst
abbrev pub next_burst : Memory → ℕ
next_burst m = length m.line.bursts + 1

-- the symbols of a burst, if there is one
abbrev pub symbols_of : Option Sent → List ℕ
symbols_of None = []
symbols_of (Some s) = s.symbols

-- ## answers

-- whether a reader may join: before the first call, while there are under 32
abbrev pub is_open : Memory → Bool
is_open m = not m.started && open_to_join m.line

-- a reader that joins: none after the first call, none where there is one, then what the library says
abbrev pub joined_at : Option ℕ → Result (Unit {0}) Fault → Result (Unit {0}) Trouble
joined_at None check = told check
joined_at (Some place) check = Err Joined

abbrev pub join_answer : ReaderPlan → Memory → Result (Unit {0}) Trouble
join_answer f m = cond (is_open m) (joined_at (place_of f.address m.readers) (reader_check f.address f.class1 f.class2 f.inbox)) (Err Closed)

-- a request: the k of its burst
abbrev pub sent_as : Memory → Result co.Sent Fault → Result ℕ Trouble
sent_as m (Ok x) = Ok (next_burst m)
sent_as m (Err f) = Err (Refused f)

-- a time-out: the k of its burst, or doubt
abbrev pub timed_as : Memory → Result co.Timed Fault → Result TimedOut Trouble
timed_as m (Ok (co.again x)) = Ok (Repeated (next_burst m))
timed_as m (Ok (co.doubted x)) = Ok Doubted
timed_as m (Err f) = Err (Refused f)

-- a call of a reader: none without one, and none without memory
abbrev pub trouble_of : {A : Type 0} → Option (Result A Refusal) → Result A Trouble
trouble_of None = Err NoReader
trouble_of (Some (Ok x)) = Ok x
trouble_of (Some (Err (refusal.Fault f))) = Err (Refused f)
trouble_of (Some (Err refusal.Memory)) = Err OutOfMemory

-- a call of a reader that needs no memory
abbrev pub fault_of : {A : Type 0} → Option (Result A Fault) → Result A Trouble
fault_of None = Err NoReader
fault_of (Some (Ok x)) = Ok x
fault_of (Some (Err f)) = Err (Refused f)

-- a call of a reader that is never refused
abbrev pub always : {A : Type 0} → Option A → Result A Trouble
always None = Err NoReader
always (Some x) = Ok x

-- a reader that heard a burst: the k of its answer, whether a message was taken in, and the mark of the one that was out
abbrev pub answered_as : Memory → Option (Result Turn Fault) → Result Answer Trouble
answered_as m None = Err NoReader
answered_as m (Some (Ok t)) = Ok (record { burst = next_burst m; taken = took_in t.deed; mark = t.mark })
answered_as m (Some (Err f)) = Err (Refused f)

-- the caller's record after it
abbrev pub marked_by : Result Answer Trouble → Option Kept → Message → Message
marked_by (Err e) o old = old
marked_by (Ok a) None old = old
marked_by (Ok a) (Some x) old = record_after a.mark x.reader.out old

-- what comes of a burst at the end of a reader, if there is one
abbrev pub at_end : {A : Type 0} → Option ℕ → (ℕ → Result A Trouble) → Result A Trouble
at_end None f = Err NoReader
at_end (Some end) f = f end

-- what comes of what is heard, unless the line may not do that damage
abbrev pub undamaged : {A : Type 0} → Result (List ℕ) DamageError → (List ℕ → Result A Trouble) → Result A Trouble
undamaged (Ok heard) f = f heard
undamaged (Err e) f = Err (Damaged e)

-- ## what a call comes to

module _ {X : Type 0} (F : Ghosts X) where
  -- Wherever the site stood in a lawful run, a call that was made leads on by this event; one that was not made changes nothing.
  abbrev pub Leads : Bool → Memory → Memory → (World → Event) → Type 0
  Leads true m m' e = (w : World) → Stands F m w → Stands F m' (step F (e w) w)
  Leads false m m' e = m' ≡ m

-- ## steps on the way

-- room for the books of the station of an exchange
abbrev pub ReadyFor : {F : Type 0} → Option Exchange → Readers F → Type 0
ReadyFor None r = Unit {0}
ReadyFor (Some x) r = ReadyAt x.station r

-- the same, if a frame was sent
abbrev pub ReadyOnce : {F : Type 0} → Result ℕ Fault → Option Exchange → Readers F → Type 0
ReadyOnce (Err f) x r = Unit {0}
ReadyOnce (Ok n) x r = ReadyFor x r

-- the station of an exchange, 0 if there is none
abbrev pub station_of : Option Exchange → ℕ
station_of None = 0
station_of (Some x) = x.station

-- the request of an exchange is in the books, under this number
abbrev pub Noted : Option Exchange → ℕ → Memory → Memory → Type 0
Noted None n m m' = m' ≡ m
Noted (Some x) n m m' =
    (m'.concentrator ≡ m.concentrator) ×
    Changes ShowsReader m.readers m'.readers (change x.station (asked x.request)) ×
    Tells ShowsReader m'.readers (λ ys. n ≡ newest_send (found x.station ys)) ×
    (m'.line ≡ m.line) ×
    (m'.started ≡ m.started)

-- an ended exchange is in the books, by a burst of this number
abbrev pub Concluded : Option Exchange → ℕ → Outcome → Memory → Memory → Type 0
Concluded None n o m m' = m' ≡ m
Concluded (Some x) n o m m' =
    (m'.concentrator ≡ m.concentrator) ×
    ((e : Ending) → outcome_of e ≡ o → Changes ShowsReader m.readers m'.readers (change x.station (ended n x.request e))) ×
    (m'.line ≡ m.line) ×
    (m'.started ≡ m.started)

-- a frame of these symbols went out on the line
abbrev pub Transmitted : Result ℕ Fault → List ℕ → Memory → Memory → Result ℕ Trouble → Type 0
Transmitted (Err f) symbols m m' r = (r ≡ Err (Refused f)) × (m' ≡ begun m)
Transmitted (Ok count) symbols m m' r =
    (n : ℕ) × (m₁ : Memory) ×
    Noted m.concentrator.exchange n (begun m) m₁ ×
    (m' ≡ with_line (launched (as_sent (take count symbols) n) m₁.line) m₁) ×
    (r ≡ Ok (next_burst m₁))

-- the frame of an exchange went out again if it is still open, else it ended in doubt
abbrev pub Repeats : Option Exchange → Option Exchange → List ℕ → Memory → Memory → TimedOut → Type 0
Repeats None now symbols m m' r = Unit {0}
Repeats (Some x) None symbols m m' r = (r ≡ Doubted) × Concluded (Some x) 0 Doubtful m m'
Repeats (Some x) (Some y) symbols m m' r =
    (r ≡ Repeated (next_burst m)) ×
    ((n : ℕ) × Tells ShowsReader m.readers (λ ys. n ≡ newest_send (found x.station ys)) × (m' ≡ with_line (launched (as_sent symbols n) m.line) m))

-- burst k came to an end, and was heard there
abbrev pub taken_off : ℕ → ℕ → Memory → Memory
taken_off end k m = begun (with_line (arrived end k m.line) m)

-- the number of a burst, if there is one
abbrev pub number_of : Option Sent → ℕ
number_of None = 0
number_of (Some s) = s.number

-- what the concentrator heard of burst k is in the books
abbrev pub Hears : Option Exchange → ℕ → Result Outcome Fault → Memory → Memory → Result Outcome Trouble → Type 0
Hears x k (Err f) m m' r = (r ≡ Err (Refused f)) × (m' ≡ taken_off 0 k m)
Hears x k (Ok o) m m' r = (r ≡ Ok o) × Concluded x (number_of (sent_at k m.line)) o (taken_off 0 k m) m'

-- what is heard of a burst, or why nothing is
abbrev pub Listened : Result (Vec ℕ Global) Trouble → Result (List ℕ) DamageError → Type 0
Listened (Ok v) heard = heard ≡ Ok (vec_items v)
Listened (Err t) heard = (t ≡ OutOfMemory) ⊎ ((e : DamageError) × (heard ≡ Err e) × (t ≡ Damaged e))

-- what a reader answered to burst k went out
abbrev pub Answered : ℕ → ℕ → ℕ → Result Heard Refusal → List ℕ → Memory → Memory → Result Answer Trouble → Type 0
Answered a end k (Ok h) symbols m m' r =
    (n : ℕ) ×
    Tells ShowsReader m.readers (λ ys. n ≡ handed_by (found a ys)) ×
    (m' ≡ with_line (launched (as_sent (take h.count symbols) n) (arrived end k m.line)) (taken_off end k m)) ×
    (r ≡ Ok (record { burst = next_burst (taken_off end k m); taken = h.taken; mark = h.mark }))
Answered a end k (Err (refusal.Fault f)) symbols m m' r = (r ≡ Err (Refused f)) × (m' ≡ taken_off end k m)
Answered a end k (Err refusal.Memory) symbols m m' r = (r ≡ Err OutOfMemory) × (m' ≡ m)
