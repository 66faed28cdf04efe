-- The books of each reader on a line, and what each call writes into them. Every book has the newest first.
use Rattle.std.specs.Prelude.{ℕ, ◌+◌, cond, List, [], ◌∷◌, ◌++◌, length, Some, None, Option, ◌==◌}
use Rattle.account.specs.declared.books.HandOut.{HandOut}
use Rattle.account.specs.declared.books.Item.{Item}
use Rattle.account.specs.declared.books.Offer.{Offer}
use Rattle.account.specs.declared.books.OfferState.{OfferState}
use Rattle.account.specs.declared.books.OfferState.TheVariants.{Waiting, Out, Marked}
use Rattle.account.specs.declared.books.SendState.TheVariants.{Open, Ended}
use Rattle.account.specs.declared.books.Sending.{Sending}
use Rattle.queue.specs.Fifo.{take_contents}
use Rattle.rules.specs.Reader as rd
use Rattle.rules.specs.Reader.{Reader, Deed, still, took, busy, gave, bare, Turn}
use Rattle.rules.specs.Records.{outcome_of}
use Rattle.rules.specs.declared.message.Message.{Message}
use Rattle.rules.specs.declared.records.Arrival.{Arrival}
use Rattle.rules.specs.declared.records.Class.{Class}
use Rattle.rules.specs.declared.records.Class.TheVariants.{First, Second}
use Rattle.rules.specs.declared.records.Ending.{Ending}
use Rattle.rules.specs.declared.records.Ending.TheVariants as ending
use Rattle.rules.specs.declared.records.Mark.{Mark}
use Rattle.rules.specs.declared.records.Mark.TheVariants.{Doubtful}
use Rattle.rules.specs.declared.records.Request.{Request}
use Rattle.rules.specs.declared.records.Request.TheVariants.{Reset, Status, Send, Poll}

-- The book of the sends to a reader, what entered its inbox, what was collected from that, and how many resets of it were done.
-- The newest stands first.
pub record Down : Type 0 where
  pub sends : List Sending
  pub entered : List Item
  pub collected : List Message
  pub resets : ℕ

-- The book of a reader's offers, those of each class that wait (the oldest first), those handed out, what arrived from it, and what
-- was fetched of that. The newest stands first.
pub record Up : Type 0 where
  pub offered : List Offer
  pub waiting1 : List Item
  pub waiting2 : List Item
  pub handed : List HandOut
  pub arrived : List Item
  pub fetched : List Message

-- A reader on the line, with its books.
pub record Station : Type 0 where
  pub reader : Reader
  pub down : Down
  pub up : Up

-- the reader of this address, if it is on the line
abbrev pub found : ℕ → List Station → Option Station
found a [] = None
found a (s ∷ l) = cond (s.reader.address == a) (Some s) (found a l)

-- the readers, with a change of the one of this address
abbrev pub change : ℕ → (Station → Station) → List Station → List Station
change a f [] = []
change a f (s ∷ l) = cond (s.reader.address == a) (f s) s ∷ change a f l

-- ## the books of the concentrator's calls

-- an accepted send is the newest, and open
abbrev pub asked_down : Request → Down → Down
asked_down Reset d = d
asked_down Status d = d
asked_down (Send m) d = record {
  sends = record { item = record { number = length d.sends + 1; message = m }; state = Open } ∷ d.sends;
  entered = d.entered;
  collected = d.collected;
  resets = d.resets;
}
asked_down (Poll c) d = d

-- the station of an accepted request
abbrev pub asked : Request → Station → Station
asked v s = record { reader = s.reader; down = asked_down v s.down; up = s.up }

-- the newest send has this outcome
abbrev pub ends_send : Ending → List Sending → List Sending
ends_send e [] = []
ends_send e (s ∷ l) = record { item = s.item; state = Ended (outcome_of e) } ∷ l

-- one reset more, if it ended done
abbrev pub more_resets : Ending → ℕ → ℕ
more_resets ending.Done n = n + 1
more_resets ending.Confirmed n = n
more_resets ending.Busy n = n
more_resets (ending.Brought m) n = n
more_resets ending.Empty n = n
more_resets ending.Unserved n = n
more_resets ending.Doubted n = n

-- an ended reset is counted if it was done; an ended send has its outcome
abbrev pub ended_down : Request → Ending → Down → Down
ended_down Reset e d = record { sends = d.sends; entered = d.entered; collected = d.collected; resets = more_resets e d.resets }
ended_down Status e d = d
ended_down (Send m) e d = record { sends = ends_send e d.sends; entered = d.entered; collected = d.collected; resets = d.resets }
ended_down (Poll c) e d = d

-- what an ending brought has arrived, under the number of the answer that brought it
abbrev pub arrives : ℕ → Ending → List Item → List Item
arrives n ending.Done l = l
arrives n ending.Confirmed l = l
arrives n ending.Busy l = l
arrives n (ending.Brought m) l = record { number = n; message = m } ∷ l
arrives n ending.Empty l = l
arrives n ending.Unserved l = l
arrives n ending.Doubted l = l

-- the station of an exchange that ended so, by an answer of this number
abbrev pub ended : ℕ → Request → Ending → Station → Station
ended n v e s = record {
  reader = s.reader;
  down = ended_down v e s.down;
  up = record { offered = s.up.offered; waiting1 = s.up.waiting1; waiting2 = s.up.waiting2; handed = s.up.handed; arrived = arrives n e s.up.arrived; fetched = s.up.fetched };
}

-- the number of the newest send to a reader: a transmission of a send belongs to that
abbrev pub newest_sent : List Sending → ℕ
newest_sent [] = 0
newest_sent (s ∷ l) = s.item.number

-- 0 where that reader is not on the line
abbrev pub newest_send : Option Station → ℕ
newest_send None = 0
newest_send (Some s) = newest_sent s.down.sends

-- the oldest arrival, if there is one, is fetched: the station that it came from has it written down
abbrev pub fetched : List Arrival → List Station → List Station
fetched [] l = l
fetched (m ∷ ms) l = change m.station (λ s. record {
  reader = s.reader;
  down = s.down;
  up = record { offered = s.up.offered; waiting1 = s.up.waiting1; waiting2 = s.up.waiting2; handed = s.up.handed; arrived = s.up.arrived; fetched = m.message ∷ s.up.fetched };
}) l

-- ## the books of a reader's calls

-- of two things, that of a class
abbrev pub by_class : {A : Type 0} → Class → A → A → A
by_class First x y = x
by_class Second x y = y

-- the waiting offers of a class
abbrev pub waiting : Class → Up → List Item
waiting c u = by_class c u.waiting1 u.waiting2

-- the books with these offers of a class waiting, these offers in all, and these hand-outs
abbrev pub with_waiting : Class → List Item → List Offer → List HandOut → Up → Up
with_waiting c l o h u = record {
  offered = o;
  waiting1 = by_class c l u.waiting1;
  waiting2 = by_class c u.waiting2 l;
  handed = h;
  arrived = u.arrived;
  fetched = u.fetched;
}

-- the books with these hand-outs
abbrev pub with_handed : List HandOut → Up → Up
with_handed h u = record { offered = u.offered; waiting1 = u.waiting1; waiting2 = u.waiting2; handed = h; arrived = u.arrived; fetched = u.fetched }

-- an accepted offer has the next number, and waits
abbrev pub offered_up : Class → Item → Up → Up
offered_up c i u = with_waiting c (waiting c u ++ (i ∷ [])) (record { item = i; class = c } ∷ u.offered) u.handed u

-- an offer that was declined leaves the books
abbrev pub offered : rd.Offered → Station → Station
offered (rd.declined f) s = s
offered (rd.accepted c m r) s = record { reader = r; down = s.down; up = offered_up c (record { number = length s.up.offered + 1; message = m }) s.up }

-- the collected messages, with the oldest of the inbox if there is one
abbrev pub collects_one : List Message → List Message → List Message
collects_one [] l = l
collects_one (m ∷ ms) l = m ∷ l

-- a collection, accepted or not
abbrev pub collected : Station → Station
collected s = record {
  reader = rd.collected s.reader;
  down = record { sends = s.down.sends; entered = s.down.entered; collected = collects_one s.reader.inbox.records s.down.collected; resets = s.down.resets };
  up = s.up;
}

-- the newest hand-out is marked, if one was out
abbrev pub marks : Option Mark → List HandOut → List HandOut
marks None l = l
marks (Some k) [] = []
marks (Some k) (h ∷ l) = record { offer = h.offer; state = Marked k } ∷ l

-- a restart marks what was out
abbrev pub restarted : Station → Station
restarted s = record {
  reader = rd.restarted s.reader;
  down = s.down;
  up = with_handed (marks (rd.marked Doubtful s.reader.out) s.up.handed) s.up;
}

-- a message that was taken in has entered, under the number of the burst that brought it
abbrev pub enters : ℕ → Deed → List Item → List Item
enters n still l = l
enters n (took m) l = record { number = n; message = m } ∷ l
enters n busy l = l
enters n (gave c m) l = l
enters n bare l = l

-- the number of the oldest that waits
abbrev pub oldest_number : List Item → ℕ
oldest_number [] = 0
oldest_number (i ∷ l) = i.number

-- a message that was given is the oldest that waited in its class; it is handed out now
abbrev pub hands : Deed → Up → Up
hands still u = u
hands (took m) u = u
hands busy u = u
hands (gave c m) u =
    with_waiting c (take_contents (waiting c u)) u.offered
    (record { offer = record { item = record { number = oldest_number (waiting c u); message = m }; class = c }; state = Out } ∷ u.handed) u
hands bare u = u

-- a hearing marks what was out, then hands out
abbrev pub turned : ℕ → Turn → Station → Station
turned n t s = record {
  reader = t.reader;
  down = record { sends = s.down.sends; entered = enters n t.deed s.down.entered; collected = s.down.collected; resets = s.down.resets };
  up = hands t.deed (with_handed (marks t.mark s.up.handed) s.up);
}

-- the number of the newest hand-out: a data answer belongs to that, a repeated one too, since each hand-out makes a new stored answer
abbrev pub newest_hand_out : List HandOut → ℕ
newest_hand_out [] = 0
newest_hand_out (h ∷ l) = h.offer.item.number

-- the state of an offer, by its number: that of its hand-out, or waiting if it was not handed out
abbrev pub offer_state : ℕ → List HandOut → OfferState
offer_state n [] = Waiting
offer_state n (h ∷ l) = cond (h.offer.item.number == n) h.state (offer_state n l)
