-- A line: a concentrator, its readers with their books, and every burst; what each call and each mishap does to them. What the two
-- ends do stands in the rules of the stations. The numbers that tell to which request or offer a burst belongs are here and in no end.
use Rattle.std.specs.Prelude.{◌≡◌, ℕ, ◌<◌, Bool, true, false, List, [], ◌∷◌, ◌++◌, map, length, replicate, Some, None, Ok, Err, Option, Result, slice_index_or, slice_set}
use Rattle.account.specs.Books.{Station, found, change, asked, ended, newest_send, fetched, offered, collected, restarted, turned, newest_hand_out}
use Rattle.fault.specs.declared.Fault.{Fault}
use Rattle.frame.specs.Damage.{Damaged}
use Rattle.frame.specs.declared.Format.{Ghosts}
use Rattle.rules.specs.Concentrator as co
use Rattle.rules.specs.Concentrator.{Concentrator, Asking, for_reset, for_status, for_send, for_poll, transmission}
use Rattle.rules.specs.Reader as rd
use Rattle.rules.specs.Reader.{Turn}
use Rattle.rules.specs.Telegrams.{carried, telegram_read}
use Rattle.rules.specs.declared.records.ReaderPlan.{ReaderPlan}
use Rattle.rules.specs.declared.telegram.Telegram.{Telegram}
use Rattle.std.specs.List.{AllByRecursion}

-- A burst: what it says, the number of its request or hand-out, and of each end (0 the concentrator, 1 to 32 the readers) whether
-- it is still on the way there.
pub record Burst : Type 0 where
  pub telegram : Telegram
  pub number : ℕ
  pub ways : List Bool

-- The line, with every burst so far, the first one first.
pub record World : Type 0 where
  pub concentrator : Concentrator
  pub stations : List Station
  pub bursts : List Burst

-- ## bursts

-- whether a burst is still on the way to an end
abbrev pub on_way : ℕ → Burst → Bool
on_way e b = slice_index_or b.ways e false

-- heard or lost at an end
abbrev pub gone : ℕ → Burst → Burst
gone e b = record { telegram = b.telegram; number = b.number; ways = slice_set b.ways e false }

-- lost at every end
abbrev pub lost_everywhere : Burst → Burst
lost_everywhere b = record { telegram = b.telegram; number = b.number; ways = replicate 33 false }

-- the line with these bursts
abbrev pub with_bursts : List Burst → World → World
with_bursts l w = record { concentrator = w.concentrator; stations = w.stations; bursts = l }

-- burst k, which is b, is heard or lost at an end
abbrev pub leaves : ℕ → ℕ → Burst → World → World
leaves e k b w = with_bursts (slice_set w.bursts k (gone e b)) w

-- what is written is on the way to every end, its writer too
abbrev pub writes : Telegram → ℕ → World → World
writes t n w = with_bursts (w.bursts ++ (record { telegram = t; number = n; ways = replicate 33 true } ∷ [])) w

-- ## the concentrator's calls

-- the frame of the exchange is written, first or again
abbrev pub transmits : co.Sent → World → World
transmits x w =
    writes (transmission x.exchange) (newest_send (found x.exchange.station w.stations))
    (record { concentrator = x.after; stations = w.stations; bursts = w.bursts })

-- the exchange has ended, by an answer of this number
abbrev pub ends : ℕ → co.Ended → World → World
ends n x w = record {
  concentrator = x.after;
  stations = change x.exchange.station (ended n x.exchange.request x.ending) w.stations;
  bursts = w.bursts;
}

-- a request, refused or accepted
abbrev pub requested : Result co.Sent Fault → World → World
requested (Err f) w = w
requested (Ok x) w =
    transmits x (record { concentrator = w.concentrator; stations = change x.exchange.station (asked x.exchange.request) w.stations; bursts = w.bursts })

-- a time-out: refused, the frame again, or doubt
abbrev pub timed : Result co.Timed Fault → World → World
timed (Err f) w = w
timed (Ok (co.again x)) w = transmits x w
timed (Ok (co.doubted x)) w = ends 0 x w

-- the concentrator heard a burst of this number: refused, or the exchange has ended
abbrev pub concluded : ℕ → Result co.Ended Fault → World → World
concluded n (Err f) w = w
concluded n (Ok x) w = ends n x w

-- the line with this concentrator and these readers
abbrev pub with_concentrator : Concentrator → List Station → World → World
with_concentrator k l w = record { concentrator = k; stations = l; bursts = w.bursts }

-- ## a reader's calls

-- a reader heard a burst of this number: refused, or it moved and its answer is written
abbrev pub answered : ℕ → Result Turn Fault → Station → World → World
answered n (Err f) s w = w
answered n (Ok t) s w =
    writes t.answer (newest_hand_out (turned n t s).up.handed)
    (record { concentrator = w.concentrator; stations = change s.reader.address (λ o. turned n t s) w.stations; bursts = w.bursts })

-- the line with a change of the reader of this address
abbrev pub changed : ℕ → (Station → Station) → World → World
changed a f w = record { concentrator = w.concentrator; stations = change a f w.stations; bursts = w.bursts }

-- ## runs

-- Every call, and what the line does. A hearing and a loss name the end, the burst by its place and itself, and what is heard of it.
-- A Bool says that the caller's buffer is under the longest frame.
pub data Event : Type 0 where
  requests : Bool → ℕ → Asking → Event
  times_out : Bool → Event
  concentrator_hears : ℕ → Burst → List ℕ → Event
  reader_hears : Bool → ℕ → ℕ → Burst → List ℕ → Event
  loses : ℕ → ℕ → Burst → Event
  loses_all : Event
  offers : ℕ → ℕ → List ℕ → Event
  collects restarts : ℕ → Event
  fetches_arrival fetches_report surveys : Event

-- no burst is on the way to an end
abbrev pub NoneTo : ℕ → List Burst → Type 0
NoneTo e l = AllByRecursion (λ b. on_way e b ≡ false) l

-- no burst is on the way to any end of the line
abbrev pub Silent : World → Type 0
Silent w = NoneTo 0 w.bursts × AllByRecursion (λ s. NoneTo s.reader.address w.bursts) w.stations

-- burst k, which is b, is on the way to an end
abbrev pub OnWay : ℕ → ℕ → Burst → World → Type 0
OnWay e k b w = (k < length w.bursts) × (slice_index_or w.bursts k b ≡ b) × (on_way e b ≡ true)

-- what a caller hands over is octets
abbrev pub Octets : List ℕ → Type 0
Octets l = AllByRecursion (λ o. o < 256) l

-- what is handed over with a request
abbrev pub OctetsAsked : Asking → Type 0
OctetsAsked for_reset = Unit {0}
OctetsAsked for_status = Unit {0}
OctetsAsked (for_send octets) = Octets octets
OctetsAsked (for_poll class) = Unit {0}

module _ {X : Type 0} (F : Ghosts X) where
  -- a reader hears what is read of the symbols, if it is on the line
  abbrev pub hears_at : Option Station → Bool → ℕ → List ℕ → World → World
  hears_at None short n heard w = w
  hears_at (Some s) short n heard w = answered n (rd.hear short (telegram_read (F.verdict heard)) s.reader) s w

  -- what an event does: the ends do what their rules say, and the books are kept
  abbrev pub step : Event → World → World
  step (requests short a q) w = requested (co.request short a q w.concentrator) w
  step (times_out short) w = timed (co.time_out short w.concentrator) w
  step (concentrator_hears k b heard) w = concluded b.number (co.hear (telegram_read (F.verdict heard)) w.concentrator) (leaves 0 k b w)
  step (reader_hears short a k b heard) w = hears_at (found a w.stations) short b.number heard (leaves a k b w)
  step (loses e k b) w = leaves e k b w
  step loses_all w = with_bursts (map lost_everywhere w.bursts) w
  step (offers a class octets) w = changed a (λ s. offered (rd.offer class octets s.reader) s) w
  step (collects a) w = changed a collected w
  step (restarts a) w = changed a restarted w
  step fetches_arrival w = with_concentrator (co.arrival_fetched w.concentrator) (fetched w.concentrator.arrivals.records w.stations) w
  step fetches_report w = with_concentrator (co.report_fetched w.concentrator) w.stations w
  step surveys w = w

  -- what is heard of a burst is its frame, cut short and damaged within the guard, or whole
  abbrev pub HeardAs : Burst → List ℕ → Type 0
  HeardAs b heard = Damaged F.width F.guard (F.frame (carried b.telegram)) heard

  -- the two limits of a run: a time-out needs a silent line, a hearing (or a loss) a burst on the way to that end
  abbrev pub Limit : Event → World → Type 0
  Limit (requests short a q) w = OctetsAsked q
  Limit (times_out short) w = Silent w
  Limit (concentrator_hears k b heard) w = OnWay 0 k b w × HeardAs b heard
  Limit (reader_hears short a k b heard) w = OnWay a k b w × HeardAs b heard
  Limit (loses e k b) w = OnWay e k b w
  Limit loses_all w = Unit {0}
  Limit (offers a class octets) w = Octets octets
  Limit (collects a) w = Unit {0}
  Limit (restarts a) w = Unit {0}
  Limit fetches_arrival w = Unit {0}
  Limit fetches_report w = Unit {0}
  Limit surveys w = Unit {0}

  -- from one world to another by any list of events within the limits
  pub data Run : World → World → Type 0 where
    begin : {w : World} → Run w w
    then : {v w : World} → Run v w → (e : Event) → Limit e w → Run v (step e w)

-- ## the beginning

-- a new reader, with empty books
abbrev pub new_station : ReaderPlan → Station
new_station f = record {
  reader = rd.new_reader f.address f.class1 f.class2 f.inbox;
  down = record { sends = []; entered = []; collected = []; resets = 0 };
  up = record { offered = []; waiting1 = []; waiting2 = []; handed = []; arrived = []; fetched = [] };
}

-- a new line: repetitions, slots for arrivals and for reports, and the readers; no burst yet
abbrev pub new_world : ℕ → ℕ → ℕ → List ReaderPlan → World
new_world r arrivals reports readers = record { concentrator = co.new_concentrator r arrivals reports; stations = map new_station readers; bursts = [] }
