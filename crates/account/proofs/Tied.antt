-- The books are those of the queues: what entered is in the inbox or was collected, what arrived is among the arrivals or was
-- fetched, what was offered waits or was handed out. No invariant of the line is needed for this.
use Rattle.std.proofs.Common.{◌≡◌, ℕ, ◌+◌, Bool, true, false, cond, eqb, List, [], ◌∷◌, ◌++◌, map, reverse, length, Some, None, Ok, Err, Option, Result, sym, refl, ap, ◌∙◌, subst, append_assoc, append-nil, arith}
use mathlib.Core.List.{map-append, reverse-append, reverse-cons}
use lib.ListN.{length-map}
use Rattle.account.proofs.Calls.{Asked, Ends, Offers, Timing, Turns, accepts, asks, closes, doubts, gives, has_none, hears, is_busy, offers, opened, repeats, resets, says_again, says_so, takes, times, turns}
use Rattle.account.proofs.Hearing.{after}
use Rattle.account.proofs.Invariant.{collect_view}
use Rattle.account.proofs.Room.{room_run}
use Rattle.account.proofs.Stations.{address_of, all_changed, all_found, turned_round}
use Rattle.account.specs.Account.{from_station, messages, of_class, offers_handed}
use Rattle.account.specs.Books as books
use Rattle.account.specs.Books.{Station, arrives, change, ended, ends_send, fetched, found, marks, oldest_number, turned, waiting}
use Rattle.account.specs.Ledger.{Numbered}
use Rattle.account.specs.Line as line
use Rattle.account.specs.Line.{Event, Limit, Run, World, answered, begin, concluded, leaves, new_station, new_world, requested, step, then, timed}
use Rattle.account.specs.declared.books.HandOut.{HandOut}
use Rattle.account.specs.declared.books.Item.{Item}
use Rattle.account.specs.declared.books.Sending.{Sending}
use Rattle.fault.specs.declared.Fault.{Fault}
use Rattle.frame.specs.declared.Format.{Ghosts}
use Rattle.queue.specs.Fifo.{full, put_contents, take_contents}
use Rattle.rules.specs.Concentrator as co
use Rattle.rules.proofs.Room.{hear_appends}
use Rattle.rules.specs.Exchanges.{heard_after}
use Rattle.rules.specs.Reader as rd
use Rattle.rules.specs.Reader.{Reader, Turn, class_queue}
use Rattle.rules.specs.Room.{HearAppends, Roomy, brought, flags_read}
use Rattle.rules.specs.Telegrams.{telegram_read}
use Rattle.rules.specs.declared.message.Message.{Message}
use Rattle.rules.specs.declared.records.Arrival.{Arrival}
use Rattle.rules.specs.declared.records.Class.{Class}
use Rattle.rules.specs.declared.records.Class.TheVariants.{First, Second}
use Rattle.rules.specs.declared.records.Ending.{Ending}
use Rattle.rules.specs.declared.records.Ending.TheVariants.{Done, Confirmed, Busy, Brought, Empty, Unserved, Doubted}
use Rattle.rules.specs.declared.records.Exchange.{Exchange}
use Rattle.rules.specs.declared.records.Flags.{Flags}
use Rattle.rules.specs.declared.records.Mark.{Mark}
use Rattle.rules.specs.declared.records.Mark.TheVariants.{Doubtful}
use Rattle.rules.specs.declared.records.ReaderPlan.{ReaderPlan}
use Rattle.rules.specs.declared.records.Request.{Request}
use Rattle.rules.specs.declared.records.Request.TheVariants.{Reset, Status, Send, Poll}
use Rattle.rules.specs.declared.telegram.Telegram.{Telegram}
use Rattle.std.specs.List.{AllByRecursion}

pub record Tied (s : Station) : Type 0 where
  pub sent : Numbered (map (λ x. x.item) s.down.sends)
  pub inbox : messages s.down.entered ≡ reverse s.reader.inbox.records ++ s.down.collected
  pub offered : Numbered (map (λ o. o.item) s.up.offered)
  pub each : (c : Class) → of_class c s.up.offered ≡ reverse (waiting c s.up) ++ of_class c (offers_handed s.up.handed)
  pub waits : (c : Class) → messages (waiting c s.up) ≡ (class_queue c s.reader).records

-- ## lists

-- one more at the end, the newest first
snoc_first : {A : Type 0} (l : List A) (m : A) (k : List A) → reverse (l ++ (m ∷ [])) ++ k ≡ m ∷ (reverse l ++ k)
snoc_first l m k = ap (λ z. z ++ k) (reverse-append l (m ∷ []))

-- the oldest goes over
cons_over : {A : Type 0} (m : A) (l k : List A) → reverse (m ∷ l) ++ k ≡ reverse l ++ (m ∷ k)
cons_over m l k = ap (λ z. z ++ k) (reverse-cons m l) ∙ append_assoc (reverse l) (m ∷ []) k

-- a put with room
put_free : {A : Type 0} (n : ℕ) (l : List A) (x : A) → full n l ≡ false → put_contents n l x ≡ l ++ (x ∷ [])
put_free n l x e = ap (λ z. cond z l (l ++ (x ∷ []))) e

-- a mark changes no offer
pub marks_offers : (k : Option Mark) (h : List HandOut) → offers_handed (marks k h) ≡ offers_handed h
marks_offers None h = refl
marks_offers (Some k) [] = refl
marks_offers (Some k) (x ∷ h) = refl

-- an outcome changes no item
ends_items : (e : Ending) (l : List Sending) → map (λ x. x.item) (ends_send e l) ≡ map (λ x. x.item) l
ends_items e [] = refl
ends_items e (x ∷ l) = refl

-- the oldest that waits, and the rest
oldest_is : (l : List Item) (m : Message) (ms : List Message) → messages l ≡ m ∷ ms
    → (l ≡ record { number = oldest_number l; message = m } ∷ take_contents l) × (messages (take_contents l) ≡ ms)
oldest_is [] m ms e = (cc, cc)
oldest_is (i ∷ l) m ms e =
    let q : i.message ≡ m = cc in
    (ap (λ z. record { number = i.number; message = z } ∷ l) q, cc)

-- ## one reader

module _ (s : Station) (b : Tied s) where
  -- hand-outs of the same offers
  each_as : (c : Class) (h : List HandOut) → offers_handed h ≡ offers_handed s.up.handed → of_class c s.up.offered ≡ reverse (waiting c s.up) ++ of_class c (offers_handed h)
  each_as c h e = b.each c ∙ ap (λ z. reverse (waiting c s.up) ++ of_class c z) (sym e)

  -- the queues as they were, and perhaps a mark
  tied_marked : (r : Reader) (k : Option Mark) → r.inbox ≡ s.reader.inbox → r.class1 ≡ s.reader.class1 → r.class2 ≡ s.reader.class2
      → Tied (record { reader = r; down = s.down; up = books.with_handed (marks k s.up.handed) s.up })
  tied_marked r k e e₁ e₂ = record {
    sent = b.sent;
    inbox = b.inbox ∙ ap (λ q. reverse q.records ++ s.down.collected) (sym e);
    offered = b.offered;
    each = λ c. each_as c (marks k s.up.handed) (marks_offers k s.up.handed);
    waits = elim [ First ↦ b.waits First ∙ ap (λ q. q.records) (sym e₁) | Second ↦ b.waits Second ∙ ap (λ q. q.records) (sym e₂) ];
  }

  -- the message of a class is handed out
  given_each : (c : Class) (h : List HandOut) (m : Message) (ms : List Message) → offers_handed h ≡ offers_handed s.up.handed → messages (waiting c s.up) ≡ m ∷ ms
      → of_class c s.up.offered ≡ reverse (take_contents (waiting c s.up)) ++ (record { number = oldest_number (waiting c s.up); message = m } ∷ of_class c (offers_handed h))
  given_each c h m ms e q =
      each_as c h e ∙ ap (λ z. reverse z ++ of_class c (offers_handed h)) (oldest_is (waiting c s.up) m ms q).0 ∙ cons_over _ (take_contents (waiting c s.up)) (of_class c (offers_handed h))

  given_waits : (c : Class) (m : Message) (ms : List Message) → (class_queue c s.reader).records ≡ m ∷ ms → messages (take_contents (waiting c s.up)) ≡ ms
  given_waits c m ms e = (oldest_is (waiting c s.up) m ms (b.waits c ∙ e)).1

  tied_after : (n : ℕ) (r : Result Turn Fault) → Turns s.reader r → Tied (after n r s)
  tied_after n (Err f) h = b
  tied_after n (Ok t) (says_so k) = record { sent = b.sent; inbox = b.inbox; offered = b.offered; each = b.each; waits = b.waits }
  tied_after n (Ok t) (says_again x e) = record { sent = b.sent; inbox = b.inbox; offered = b.offered; each = b.each; waits = b.waits }
  tied_after n (Ok t) resets = let q = tied_marked t.reader t.mark refl refl refl in record { sent = q.sent; inbox = q.inbox; offered = q.offered; each = q.each; waits = q.waits }
  tied_after n (Ok t) is_busy = let q = tied_marked t.reader t.mark refl refl refl in record { sent = q.sent; inbox = q.inbox; offered = q.offered; each = q.each; waits = q.waits }
  tied_after n (Ok t) has_none = let q = tied_marked t.reader t.mark refl refl refl in record { sent = q.sent; inbox = q.inbox; offered = q.offered; each = q.each; waits = q.waits }
  tied_after n (Ok t) (takes m e) =
      let q = tied_marked s.reader t.mark refl refl refl in
      record {
        sent = b.sent;
        inbox = ap (λ z. m ∷ z) b.inbox ∙ sym (snoc_first s.reader.inbox.records m s.down.collected)
            ∙ ap (λ z. reverse z ++ s.down.collected) (sym (put_free s.reader.inbox.room s.reader.inbox.records m e));
        offered = b.offered;
        each = q.each;
        waits = elim [ First ↦ b.waits First | Second ↦ b.waits Second ];
      }
  tied_after n (Ok t) (gives First m ms e) = record {
    sent = b.sent;
    inbox = b.inbox;
    offered = b.offered;
    each = elim [
      | First ↦ given_each First (marks t.mark s.up.handed) m ms (marks_offers t.mark s.up.handed) (b.waits First ∙ e)
      | Second ↦ each_as Second (marks t.mark s.up.handed) (marks_offers t.mark s.up.handed)
    ];
    waits = elim [ First ↦ given_waits First m ms e | Second ↦ b.waits Second ];
  }
  tied_after n (Ok t) (gives Second m ms e) = record {
    sent = b.sent;
    inbox = b.inbox;
    offered = b.offered;
    each = elim [
      | First ↦ each_as First (marks t.mark s.up.handed) (marks_offers t.mark s.up.handed)
      | Second ↦ given_each Second (marks t.mark s.up.handed) m ms (marks_offers t.mark s.up.handed) (b.waits Second ∙ e)
    ];
    waits = elim [ First ↦ b.waits First | Second ↦ given_waits Second m ms e ];
  }

  tied_restart : Tied (books.restarted s)
  tied_restart = let q = tied_marked (rd.restarted s.reader) (rd.marked Doubtful s.reader.out) refl refl refl in record { sent = q.sent; inbox = q.inbox; offered = q.offered; each = q.each; waits = q.waits }

  -- an accepted offer
  abbrev new_item : Message → Item
  new_item m = record { number = length s.up.offered + 1; message = m }

  offer_numbered : (m : Message) → Numbered (new_item m ∷ map (λ o. o.item) s.up.offered)
  offer_numbered m = (ap (λ n. n + 1) (sym (length-map s.up.offered (λ o. o.item))), b.offered)

  offer_each : (c : Class) (m : Message) → new_item m ∷ of_class c s.up.offered ≡ reverse (waiting c s.up ++ (new_item m ∷ [])) ++ of_class c (offers_handed s.up.handed)
  offer_each c m = ap (λ z. new_item m ∷ z) (b.each c) ∙ sym (snoc_first (waiting c s.up) (new_item m) (of_class c (offers_handed s.up.handed)))

  offer_waits : (c : Class) (m : Message) → full (class_queue c s.reader).room (class_queue c s.reader).records ≡ false
      → messages (waiting c s.up ++ (new_item m ∷ [])) ≡ put_contents (class_queue c s.reader).room (class_queue c s.reader).records m
  offer_waits c m e =
      map-append (λ i. i.message) (waiting c s.up) (new_item m ∷ []) ∙ ap (λ z. z ++ (m ∷ [])) (b.waits c)
      ∙ sym (put_free (class_queue c s.reader).room (class_queue c s.reader).records m e)

  tied_offer : (o : rd.Offered) → Offers s.reader o → Tied (books.offered o s)
  tied_offer (rd.declined f) h = b
  tied_offer (rd.accepted c m r) (accepts First m' p e) = record {
    sent = b.sent;
    inbox = b.inbox;
    offered = offer_numbered m';
    each = elim [ First ↦ offer_each First m' | Second ↦ b.each Second ];
    waits = elim [ First ↦ offer_waits First m' e | Second ↦ b.waits Second ];
  }
  tied_offer (rd.accepted c m r) (accepts Second m' p e) = record {
    sent = b.sent;
    inbox = b.inbox;
    offered = offer_numbered m';
    each = elim [ First ↦ b.each First | Second ↦ offer_each Second m' ];
    waits = elim [ First ↦ b.waits First | Second ↦ offer_waits Second m' e ];
  }

  collect_as : (l : List Message) → s.reader.inbox.records ≡ l
      → (messages s.down.entered ≡ reverse (rd.collect_after l s.reader).inbox.records ++ books.collects_one l s.down.collected)
      × ((c : Class) → messages (waiting c s.up) ≡ (class_queue c (rd.collect_after l s.reader)).records)
  collect_as [] e = (b.inbox, b.waits)
  collect_as (m ∷ l) e =
      (b.inbox ∙ ap (λ z. reverse z ++ s.down.collected) e ∙ cons_over m l s.down.collected, elim [ First ↦ b.waits First | Second ↦ b.waits Second ])

  tied_collect : Tied (books.collected s)
  tied_collect = let q = collect_as s.reader.inbox.records refl in record { sent = b.sent; inbox = q.0; offered = b.offered; each = b.each; waits = q.1 }

  tied_asked : (q : Request) → Tied (books.asked q s)
  tied_asked Reset = b
  tied_asked Status = b
  tied_asked (Send m) = record { sent = (ap (λ n. n + 1) (sym (length-map s.down.sends (λ x. x.item))), b.sent); inbox = b.inbox; offered = b.offered; each = b.each; waits = b.waits }
  tied_asked (Poll c) = b

  tied_ended : (n : ℕ) (q : Request) (e : Ending) → Tied (ended n q e s)
  tied_ended n Reset e = record { sent = b.sent; inbox = b.inbox; offered = b.offered; each = b.each; waits = b.waits }
  tied_ended n Status e = record { sent = b.sent; inbox = b.inbox; offered = b.offered; each = b.each; waits = b.waits }
  tied_ended n (Send m) e = record { sent = subst Numbered (sym (ends_items e s.down.sends)) b.sent; inbox = b.inbox; offered = b.offered; each = b.each; waits = b.waits }
  tied_ended n (Poll c) e = record { sent = b.sent; inbox = b.inbox; offered = b.offered; each = b.each; waits = b.waits }

-- ## arrivals

abbrev pub Landed : List Arrival → Station → Type 0
Landed l s = messages s.up.arrived ≡ from_station (address_of s) (reverse l) ++ s.up.fetched

from_append : (a : ℕ) (l k : List Arrival) → from_station a (l ++ k) ≡ from_station a l ++ from_station a k
from_append a [] k = refl
from_append a (m ∷ l) k = let ih = from_append a l k in grind arith

-- a message arrives from a station
from_more : (a : ℕ) (l : List Arrival) (x : Arrival) (k : List Message) (z : Bool) → eqb x.station a ≡ z
    → from_station a (reverse (l ++ (x ∷ []))) ++ k ≡ cond z (x.message ∷ (from_station a (reverse l) ++ k)) (from_station a (reverse l) ++ k)
from_more a l x k z e = ap (λ y. from_station a y ++ k) (reverse-append l (x ∷ [])) ∙ go z e
  where
    go : (z : Bool) → eqb x.station a ≡ z → from_station a (x ∷ reverse l) ++ k ≡ cond z (x.message ∷ (from_station a (reverse l) ++ k)) (from_station a (reverse l) ++ k)
    go true e = ap (λ y. cond y (x.message ∷ from_station a (reverse l)) (from_station a (reverse l)) ++ k) e
    go false e = ap (λ y. cond y (x.message ∷ from_station a (reverse l)) (from_station a (reverse l)) ++ k) e

-- the oldest arrival is fetched
from_fetched : (a : ℕ) (l : List Arrival) (x : Arrival) (k : List Message) (z : Bool) → eqb x.station a ≡ z
    → from_station a (reverse (x ∷ l)) ++ k ≡ from_station a (reverse l) ++ cond z (x.message ∷ k) k
from_fetched a l x k z e =
    ap (λ y. from_station a y ++ k) (reverse-cons x l) ∙ ap (λ y. y ++ k) (from_append a (reverse l) (x ∷ [])) ∙ append_assoc (from_station a (reverse l)) (from_station a (x ∷ [])) k
    ∙ ap (λ y. from_station a (reverse l) ++ y) (go z e)
  where
    go : (z : Bool) → eqb x.station a ≡ z → from_station a (x ∷ []) ++ k ≡ cond z (x.message ∷ k) k
    go true e = ap (λ y. cond y (x.message ∷ []) [] ++ k) e
    go false e = ap (λ y. cond y (x.message ∷ []) [] ++ k) e

-- ## the whole line

abbrev Fine : List Arrival → Station → Type 0
Fine l s = Tied s × Landed l s

pub record Books (w : World) : Type 0 where
  pub all : AllByRecursion (Fine w.concentrator.arrivals.records) w.stations

-- a change of a reader that has to do with no arrival
fine_changed : (a : ℕ) (f : Station → Station) (l : List Arrival) (stations : List Station)
    → ((s : Station) → Tied s → Tied (f s)) → ((s : Station) → Landed l s → Landed l (f s)) → AllByRecursion (Fine l) stations → AllByRecursion (Fine l) (change a f stations)
fine_changed a f l stations g h p = all_changed (Fine l) (Fine l) a f stations (λ s e q. (g s q.0, h s q.1)) (λ s e q. q) p

landed_offer : (s : Station) (l : List Arrival) (o : rd.Offered) → Offers s.reader o → Landed l s → Landed l (books.offered o s)
landed_offer s l (rd.declined f) h p = p
landed_offer s l (rd.accepted c m r) (accepts First m' q e) p = p
landed_offer s l (rd.accepted c m r) (accepts Second m' q e) p = p

landed_collect : (s : Station) (l : List Arrival) → Landed l s → Landed l (books.collected s)
landed_collect s l p = p ∙ ap (λ a. from_station a (reverse l) ++ s.up.fetched) (sym (collect_view s.reader.inbox.records s).0)

landed_turn : (n : ℕ) (s : Station) (l : List Arrival) (r : Result Turn Fault) → Turns s.reader r → Landed l s → Landed l (after n r s)
landed_turn n s l (Err f) h p = p
landed_turn n s l (Ok t) (says_so k) p = p
landed_turn n s l (Ok t) (says_again x e) p = p
landed_turn n s l (Ok t) resets p = p
landed_turn n s l (Ok t) is_busy p = p
landed_turn n s l (Ok t) (takes m e) p = p
landed_turn n s l (Ok t) has_none p = p
landed_turn n s l (Ok t) (gives First m ms e) p = p
landed_turn n s l (Ok t) (gives Second m ms e) p = p

landed_same : (l : List Arrival) (s : Station) → Landed l s → Landed (l ++ []) s
landed_same l s h = h ∙ ap (λ y. from_station (address_of s) (reverse y) ++ s.up.fetched) (sym (append-nil l))

-- what an ending brought arrives from the station of the exchange, and from no other
landed_own : (n a : ℕ) (l k : List Arrival) (s : Station) (v : Request) (e : Ending) → k ≡ l ++ brought a e → eqb a (address_of s) ≡ true → Landed l s → Landed k (ended n v e s)
landed_own n a l k s v e q z h = arrived e ∙ ap (λ y. from_station (address_of s) (reverse y) ++ s.up.fetched) (sym q)
  where
    arrived : (e : Ending) → messages (arrives n e s.up.arrived) ≡ from_station (address_of s) (reverse (l ++ brought a e)) ++ s.up.fetched
    arrived Done = landed_same l s h
    arrived Confirmed = landed_same l s h
    arrived Busy = landed_same l s h
    arrived (Brought m) = ap (λ y. m ∷ y) h ∙ sym (from_more (address_of s) l (record { station = a; message = m }) s.up.fetched true z)
    arrived Empty = landed_same l s h
    arrived Unserved = landed_same l s h
    arrived Doubted = landed_same l s h

landed_other : (a : ℕ) (l k : List Arrival) (s : Station) (e : Ending) → k ≡ l ++ brought a e → eqb a (address_of s) ≡ false → Landed l s → Landed k s
landed_other a l k s e q z h = arrived e ∙ ap (λ y. from_station (address_of s) (reverse y) ++ s.up.fetched) (sym q)
  where
    arrived : (e : Ending) → messages s.up.arrived ≡ from_station (address_of s) (reverse (l ++ brought a e)) ++ s.up.fetched
    arrived Done = landed_same l s h
    arrived Confirmed = landed_same l s h
    arrived Busy = landed_same l s h
    arrived (Brought m) = h ∙ sym (from_more (address_of s) l (record { station = a; message = m }) s.up.fetched false z)
    arrived Empty = landed_same l s h
    arrived Unserved = landed_same l s h
    arrived Doubted = landed_same l s h

module _ (w : World) (b : Books w) where
  books_ends : (n : ℕ) (x : Exchange) (e : Ending) (f : Flags) → (co.closing x e f w.concentrator).after.arrivals.records ≡ w.concentrator.arrivals.records ++ brought x.station e
      → Books (line.ends n (co.closing x e f w.concentrator) w)
  books_ends n x e f q =
      let l = w.concentrator.arrivals.records in
      let k = (co.closing x e f w.concentrator).after.arrivals.records in
      record {
        all = all_changed (Fine l) (Fine k) x.station (ended n x.request e) w.stations
            (λ s z p. (tied_ended s p.0 n x.request e, landed_own n x.station l k s x.request e q (turned_round (address_of s) x.station true z) p.1))
            (λ s z p. (p.0, landed_other x.station l k s e q (turned_round (address_of s) x.station false z) p.1)) b.all;
      }

  books_concluded : (n : ℕ) (t : Result Telegram Fault) (r : Result co.Ended Fault) → Ends w.concentrator t r → HearAppends (flags_read t) r w.concentrator (heard_after r w.concentrator) → Books (concluded n r w)
  books_concluded n t (Err f) i h = b
  books_concluded n t (Ok y) (closes {t = t'} x e q v) h = books_ends n x e (co.flags_of t') h.arrivals

  books_timed : (r : Result co.Timed Fault) → Timing w.concentrator r → Books (timed r w)
  books_timed (Err f) h = b
  books_timed (Ok y) (repeats x e) = record { all = b.all }
  books_timed (Ok y) (doubts x e) = books_ends 0 x Doubted co.no_flags (sym (append-nil w.concentrator.arrivals.records))

  books_requested : (r : Result co.Sent Fault) → Asked w.concentrator r → Books (requested r w)
  books_requested (Err f) h = b
  books_requested (Ok y) (opened a q k e u f p) = record {
    all = fine_changed a (books.asked q) w.concentrator.arrivals.records w.stations (λ s p. tied_asked s p q) (λ s h. h) b.all;
  }

  books_answered : (n a : ℕ) (s : Station) → found a w.stations ≡ Some s → (r : Result Turn Fault) → Turns s.reader r → Books (answered n r s w)
  books_answered n a s e (Err f) h = b
  books_answered n a s e (Ok t) h =
      let p = (all_found (Fine w.concentrator.arrivals.records) a w.stations s e b.all).0 in
      record {
        all = all_changed (Fine w.concentrator.arrivals.records) (Fine w.concentrator.arrivals.records) s.reader.address (λ o. turned n t s) w.stations
            (λ o z q. (tied_after s p.0 n (Ok t) h, landed_turn n s w.concentrator.arrivals.records (Ok t) h p.1)) (λ o z q. q) b.all;
      }

  books_arrival : (l : List Arrival) → w.concentrator.arrivals.records ≡ l → Books (line.with_concentrator (co.arrivals_left l w.concentrator) (fetched l w.stations) w)
  books_arrival [] e = b
  books_arrival (m ∷ l) e = record {
    all = all_changed (Fine (m ∷ l)) (Fine l) m.station _ w.stations
        (λ s z p. (
          record { sent = p.0.sent; inbox = p.0.inbox; offered = p.0.offered; each = p.0.each; waits = p.0.waits },
          p.1 ∙ from_fetched (address_of s) l m s.up.fetched true (turned_round (address_of s) m.station true z),
        ))
        (λ s z p. (p.0, p.1 ∙ from_fetched (address_of s) l m s.up.fetched false (turned_round (address_of s) m.station false z)))
        (subst (λ k. AllByRecursion (Fine k) w.stations) e b.all);
  }

  books_report : (l : List _) → Books (line.with_concentrator (co.reports_left l w.concentrator) w.stations w)
  books_report [] = b
  books_report (m ∷ l) = record { all = b.all }

module _ {X : Type 0} (F : Ghosts X) where
  books_hears : (w w' : World) → w'.stations ≡ w.stations → Books w' → (short : Bool) (n a : ℕ) (heard : List ℕ) (o : Option Station) → found a w.stations ≡ o
      → Books (line.hears_at F o short n heard w')
  books_hears w w' q b short n a heard None e = b
  books_hears w w' q b short n a heard (Some s) e = books_answered w' b n a s (ap (found a) q ∙ e) _ (turns s.reader short (telegram_read (F.verdict heard)))

  books_step : (e : Event) (w : World) → Roomy w.concentrator → Limit F e w → Books w → Books (step F e w)
  books_step (line.requests short a q) w h lim b = books_requested w b _ (asks w.concentrator a short q lim)
  books_step (line.times_out short) w h lim b = books_timed w b _ (times w.concentrator short)
  books_step (line.concentrator_hears k x heard) w h lim b =
      books_concluded (leaves 0 k x w) (record { all = b.all }) x.number _ _ (hears w.concentrator (telegram_read (F.verdict heard)))
      (hear_appends (telegram_read (F.verdict heard)) w.concentrator h)
  books_step (line.reader_hears short a k x heard) w h lim b =
      books_hears w (leaves a k x w) refl (record { all = b.all }) short x.number a heard (found a w.stations) refl
  books_step (line.loses e k x) w h lim b = record { all = b.all }
  books_step line.loses_all w h lim b = record { all = b.all }
  books_step (line.offers a class os) w h lim b = record {
    all = fine_changed a _ w.concentrator.arrivals.records w.stations (λ s p. tied_offer s p _ (offers s.reader class os lim))
        (λ s p. landed_offer s w.concentrator.arrivals.records _ (offers s.reader class os lim) p) b.all;
  }
  books_step (line.collects a) w h lim b = record {
    all = fine_changed a books.collected w.concentrator.arrivals.records w.stations (λ s p. tied_collect s p) (λ s p. landed_collect s w.concentrator.arrivals.records p) b.all;
  }
  books_step (line.restarts a) w h lim b = record {
    all = fine_changed a books.restarted w.concentrator.arrivals.records w.stations (λ s p. tied_restart s p) (λ s p. p) b.all;
  }
  books_step line.fetches_arrival w h lim b = books_arrival w b w.concentrator.arrivals.records refl
  books_step line.fetches_report w h lim b = books_report w b w.concentrator.reports.records
  books_step line.surveys w h lim b = b

  pub books_run : {v w : World} → Run F v w → Roomy v.concentrator → Books v → Books w
  books_run begin h b = b
  books_run (then r e lim) h b = books_step e _ (room_run F r h) lim (books_run r h b)

new_fine : (l : List ReaderPlan) → AllByRecursion (Fine []) (map new_station l)
new_fine [] = tt
new_fine (f ∷ l) =
    ((record { sent = tt; inbox = refl; offered = tt; each = elim [ First ↦ refl | Second ↦ refl ]; waits = elim [ First ↦ refl | Second ↦ refl ] }, refl), new_fine l)

pub books_new : (r i j : ℕ) (l : List ReaderPlan) → Books (new_world r i j l)
books_new r i j l = record { all = new_fine l }
