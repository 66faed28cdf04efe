-- The account of the two ends: what holds of a line and of each reader on it, after every run.
use Rattle.std.specs.Prelude.{◌≡◌, ℕ, Bool, true, false, cond, ◌⊎◌, List, [], ◌∷◌, ◌++◌, map, reverse, Some, None, Option, ◌==◌}
use Rattle.account.specs.Books.{Station, found, offer_state, waiting}
use Rattle.account.specs.Ledger.{HandOutsCome, Handed, Numbered, Requested, SendsCome}
use Rattle.account.specs.Line.{Run, World, new_world}
use Rattle.account.specs.declared.books.HandOut.{HandOut}
use Rattle.account.specs.declared.books.Item.{Item}
use Rattle.account.specs.declared.books.Offer.{Offer}
use Rattle.account.specs.declared.books.OfferState.TheVariants.{Waiting}
use Rattle.frame.specs.declared.Format.{Ghosts}
use Rattle.rules.specs.Concentrator.{Concentrator}
use Rattle.rules.specs.Links.{link_at}
use Rattle.rules.specs.Messages.{within}
use Rattle.rules.specs.Reader.{class_queue}
use Rattle.rules.specs.Room.{Roomy}
use Rattle.rules.specs.declared.link.Link.{Link}
use Rattle.rules.specs.declared.message.Message.{Message}
use Rattle.rules.specs.declared.records.Arrival.{Arrival}
use Rattle.rules.specs.declared.records.Class.{Class}
use Rattle.rules.specs.declared.records.Class.TheVariants.{First, Second}
use Rattle.rules.specs.declared.records.Exchange.{Exchange}
use Rattle.rules.specs.declared.records.ReaderPlan.{ReaderPlan}
use Rattle.rules.specs.declared.records.Request.{Request}
use Rattle.rules.specs.declared.records.Request.TheVariants.{Reset, Status, Send, Poll}
use Rattle.std.specs.List.{AllByRecursion}

-- the messages of items
abbrev pub messages : List Item → List Message
messages l = map (λ i. i.message) l

-- the offers that were handed out
abbrev pub offers_handed : List HandOut → List Offer
offers_handed l = map (λ h. h.offer) l

-- whether two classes are one
abbrev pub same_class : Class → Class → Bool
same_class First First = true
same_class First Second = false
same_class Second First = false
same_class Second Second = true

-- the offers of a class
abbrev pub of_class : Class → List Offer → List Item
of_class c [] = []
of_class c (o ∷ l) = cond (same_class c o.class) (o.item ∷ of_class c l) (of_class c l)

-- what came from a station
abbrev pub from_station : ℕ → List Arrival → List Message
from_station a [] = []
from_station a (m ∷ l) = cond (m.station == a) (m.message ∷ from_station a l) (from_station a l)

-- the message of a request, if it is a send
abbrev pub sent_by : Request → Option Message
sent_by Reset = None
sent_by Status = None
sent_by (Send m) = Some m
sent_by (Poll c) = None

-- the message of the send that is open to a station, if one is
abbrev pub open_send : Option Exchange → ℕ → Option Message
open_send None a = None
open_send (Some x) a = cond (x.station == a) (sent_by x.request) None

-- The sends to a reader: they are numbered in request order; only they enter its inbox, in that order and as often as their states
-- say; what entered is in the inbox or was collected; the open one is the newest, and each other is confirmed, busy or doubtful.
pub record SendsAccounted (k : Concentrator) (s : Station) : Type 0 where
  pub numbered : Numbered (map (λ x. x.item) s.down.sends)
  pub accounted : SendsCome s.down.sends s.down.entered
  pub kept : messages s.down.entered ≡ reverse s.reader.inbox.records ++ s.down.collected
  pub requests : Requested (open_send k.exchange s.reader.address) s.down.sends

-- A reader's offers: they are numbered in the order of acceptance; each waits or was handed out, those of a class in their order, and
-- has that one state; what waits is what the class's queue holds; the message out is the newest hand-out, and each other is settled or
-- doubtful; only hand-outs arrive, in their order and as often as their states say; what arrived is among the arrivals or was fetched.
pub record OffersAccounted (k : Concentrator) (s : Station) : Type 0 where
  pub numbered : Numbered (map (λ o. o.item) s.up.offered)
  pub each : (c : Class) → of_class c s.up.offered ≡ reverse (waiting c s.up) ++ of_class c (offers_handed s.up.handed)
  pub waits : (c : Class) → messages (waiting c s.up) ≡ (class_queue c s.reader).records
  pub waiting_so : (c : Class) → AllByRecursion (λ i. offer_state i.number s.up.handed ≡ Waiting) (waiting c s.up)
  pub handed_so : AllByRecursion (λ h. offer_state h.offer.item.number s.up.handed ≡ h.state) s.up.handed
  pub out : Handed s.reader.out s.up.handed
  pub accounted : HandOutsCome s.up.handed s.up.arrived
  pub kept : messages s.up.arrived ≡ from_station s.reader.address (reverse k.arrivals.records) ++ s.up.fetched

-- the concentrator's link to a reader
abbrev pub link_to : Concentrator → Station → Link
link_to k s = link_at k.links s.reader.address

-- the link is unset at either end
abbrev pub Unset : Concentrator → Station → Type 0
Unset k s = ((link_to k s).set ≡ false) ⊎ (s.reader.link.set ≡ false)

-- an exchange is open to it
abbrev pub OpenTo : Concentrator → Station → Type 0
OpenTo k s = (x : Exchange) × (k.exchange ≡ Some x) × (x.station ≡ s.reader.address)

-- what holds of a reader: its sends, its offers, and the bits of its link
pub record Account (k : Concentrator) (s : Station) : Type 0 where
  pub sends : SendsAccounted k s
  pub offers : OffersAccounted k s
  pub bits : (OpenTo k s → ⊥) → Unset k s ⊎ ((link_to k s).next ≡ s.reader.link.next)

-- from one moment to another nothing entered its inbox, and it handed out nothing
pub record NothingMoved (s t : Station) : Type 0 where
  pub entered : t.down.entered ≡ s.down.entered
  pub handed : offers_handed t.up.handed ≡ offers_handed s.up.handed

-- no two readers share an address, and each is 1 to 32
abbrev pub Apart : List ReaderPlan → Type 0
Apart [] = Unit {0}
Apart (f ∷ l) = (within 1 32 f.address ≡ true) × AllByRecursion (λ g. (g.address == f.address) ≡ false) l × Apart l

-- The two ends over a format. After every run of a new line the open exchange has its free slots, so that no report and no arrival is
-- ever dropped, and the account of each reader holds. And on every run from there, as long as no more resets of it are done, a link
-- unset at either end lets nothing move.
abbrev pub TwoEndsOver : {X : Type 0} → Ghosts X → Type 0
TwoEndsOver F =
    (repetitions arrivals reports : ℕ) (readers : List ReaderPlan) → Apart readers →
    (w : World) → Run F (new_world repetitions arrivals reports readers) w →
    Roomy w.concentrator ×
    ((a : ℕ) (s : Station) → found a w.stations ≡ Some s →
    Account w.concentrator s ×
    ((later : World) (t : Station) → Run F w later → found a later.stations ≡ Some t →
    Unset w.concentrator s → t.down.resets ≡ s.down.resets → NothingMoved s t))
