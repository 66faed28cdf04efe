-- The open exchange has a free slot for its report and, on a poll, for its arrival: so none is dropped.
use Rattle.std.proofs.Common.{◌≡◌, ℕ, Bool, true, false, not, ◌&&◌, List, [], ◌∷◌, Some, None, Ok, Err, Option, Result, sym, refl, ap, ◌∙◌, subst, arith}
use Rattle.account.proofs.Calls.{Asked, Ends, Timing, asks, closes, doubts, hears, opened, repeats, times}
use Rattle.account.specs.Books.{Station, found}
use Rattle.account.specs.Line as line
use Rattle.account.specs.Line.{Event, Limit, Run, World, begin, concluded, requested, step, then, timed}
use Rattle.fault.specs.declared.Fault.{Fault}
use Rattle.frame.specs.declared.Format.{Ghosts}
use Rattle.queue.specs.Fifo.{full}
use Rattle.rules.specs.Concentrator as co
use Rattle.rules.specs.Concentrator.{Concentrator, has_room}
use Rattle.rules.specs.Reader as rd
use Rattle.rules.specs.Reader.{Turn}
use Rattle.rules.specs.Room.{Roomy, room_for}
use Rattle.rules.specs.Telegrams.{telegram_read}
use Rattle.rules.specs.declared.records.Arrival.{Arrival}
use Rattle.rules.specs.declared.records.Exchange.{Exchange}
use Rattle.rules.specs.declared.records.Report.{Report}
use Rattle.rules.specs.declared.records.Request.{Request}
use Rattle.rules.specs.declared.records.Request.TheVariants.{Reset, Status, Send, Poll}
use Rattle.rules.specs.declared.telegram.Telegram.{Telegram}
use Rattle.std.proofs.lemmas.Bool.Decides.{nat_tests}

-- the queues as they were
room_same : (q : Request) (j k : Concentrator) → k.arrivals ≡ j.arrivals → k.reports ≡ j.reports → has_room q k ≡ has_room q j
room_same Reset j k e f = ap (λ z. not (full z.room z.records)) f
room_same Status j k e f = ap (λ z. not (full z.room z.records)) f
room_same (Send m) j k e f = ap (λ z. not (full z.room z.records)) f
room_same (Poll c) j k e f =
    ap (λ z. not (full z.room z.records) && not (full k.arrivals.room k.arrivals.records)) f
    ∙ ap (λ z. not (full j.reports.room j.reports.records) && not (full z.room z.records)) e

-- one record fewer
fewer : {A : Type 0} (n : ℕ) (x : A) (l : List A) → not (full n (x ∷ l)) ≡ true → not (full n l) ≡ true
fewer n x l h = grind (arith, nat_tests)

both : (y z : Bool) → y && z ≡ true → (y ≡ true) × (z ≡ true)
both true z e = (refl, e)
both false z e = (e, grind arith)

-- the two parts of the room of a poll
polls : (k : Concentrator) → not (full k.reports.room k.reports.records) && not (full k.arrivals.room k.arrivals.records) ≡ true
    → (not (full k.reports.room k.reports.records) ≡ true) × (not (full k.arrivals.room k.arrivals.records) ≡ true)
polls k h = both (not (full k.reports.room k.reports.records)) (not (full k.arrivals.room k.arrivals.records)) h

free_arrival : (x : Option Exchange) (k : Concentrator) (m : Arrival) (l : List Arrival) → k.arrivals.records ≡ m ∷ l → room_for x k ≡ true → room_for x (co.arrivals_left (m ∷ l) k) ≡ true
free_arrival None k m l e h = refl
free_arrival (Some x) k m l e h = go x.request h
  where
    go : (q : Request) → has_room q k ≡ true → has_room q (co.arrivals_left (m ∷ l) k) ≡ true
    go Reset h = h
    go Status h = h
    go (Send m) h = h
    go (Poll c) h =
        let b = polls k h in
        let f = fewer k.arrivals.room m l (ap (λ z. not (full k.arrivals.room z)) (sym e) ∙ b.1) in
        ap (λ z. z && not (full k.arrivals.room l)) b.0 ∙ f

free_report : (x : Option Exchange) (k : Concentrator) (m : Report) (l : List Report) → k.reports.records ≡ m ∷ l → room_for x k ≡ true → room_for x (co.reports_left (m ∷ l) k) ≡ true
free_report None k m l e h = refl
free_report (Some x) k m l e h = go x.request h
  where
    less : not (full k.reports.room k.reports.records) ≡ true → not (full k.reports.room l) ≡ true
    less h = fewer k.reports.room m l (ap (λ z. not (full k.reports.room z)) (sym e) ∙ h)

    go : (q : Request) → has_room q k ≡ true → has_room q (co.reports_left (m ∷ l) k) ≡ true
    go Reset h = less h
    go Status h = less h
    go (Send m) h = less h
    go (Poll c) h = let b = polls k h in ap (λ z. z && not (full k.arrivals.room k.arrivals.records)) (less b.0) ∙ b.1

module _ (w : World) (h : Roomy w.concentrator) where
  room_requested : (r : Result co.Sent Fault) → Asked w.concentrator r → Roomy (requested r w).concentrator
  room_requested (Err f) t = h
  room_requested (Ok x) (opened a q k e y f p) = room_same q w.concentrator _ refl refl ∙ f

  room_timed : (r : Result co.Timed Fault) → Timing w.concentrator r → Roomy (timed r w).concentrator
  room_timed (Err f) t = h
  room_timed (Ok x) (repeats y e) = room_same y.request w.concentrator _ refl refl ∙ subst (λ z. room_for z w.concentrator ≡ true) e h
  room_timed (Ok x) (doubts y e) = refl

  room_concluded : (n : ℕ) (t : Result Telegram Fault) (r : Result co.Ended Fault) → Ends w.concentrator t r → Roomy (concluded n r w).concentrator
  room_concluded n t (Err f) i = h
  room_concluded n t (Ok x) (closes y o e v) = refl

  room_arrival : (l : List Arrival) → w.concentrator.arrivals.records ≡ l → Roomy (co.arrivals_left l w.concentrator)
  room_arrival [] e = h
  room_arrival (m ∷ l) e = free_arrival w.concentrator.exchange w.concentrator m l e h

  room_report : (l : List Report) → w.concentrator.reports.records ≡ l → Roomy (co.reports_left l w.concentrator)
  room_report [] e = h
  room_report (m ∷ l) e = free_report w.concentrator.exchange w.concentrator m l e h

room_answered : (n : ℕ) (r : Result Turn Fault) (s : Station) (w : World) → Roomy w.concentrator → Roomy (line.answered n r s w).concentrator
room_answered n (Err f) s w h = h
room_answered n (Ok t) s w h = h

module _ {X : Type 0} (F : Ghosts X) where
  room_hears : (o : Option Station) (short : Bool) (n : ℕ) (heard : List ℕ) (w : World) → Roomy w.concentrator → Roomy (line.hears_at F o short n heard w).concentrator
  room_hears None short n heard w h = h
  room_hears (Some s) short n heard w h = room_answered n (rd.hear short (telegram_read (F.verdict heard)) s.reader) s w h

  room_step : (e : Event) (w : World) → Limit F e w → Roomy w.concentrator → Roomy (step F e w).concentrator
  room_step (line.requests short a q) w lim h = room_requested w h _ (asks w.concentrator a short q lim)
  room_step (line.times_out short) w lim h = room_timed w h _ (times w.concentrator short)
  room_step (line.concentrator_hears k b heard) w lim h = room_concluded (line.leaves 0 k b w) h b.number _ _ (hears w.concentrator (telegram_read (F.verdict heard)))
  room_step (line.reader_hears short a k b heard) w lim h = room_hears (found a w.stations) short b.number heard (line.leaves a k b w) h
  room_step (line.loses e k b) w lim h = h
  room_step line.loses_all w lim h = h
  room_step (line.offers a class os) w lim h = h
  room_step (line.collects a) w lim h = h
  room_step (line.restarts a) w lim h = h
  room_step line.fetches_arrival w lim h = room_arrival w h w.concentrator.arrivals.records refl
  room_step line.fetches_report w lim h = room_report w h w.concentrator.reports.records refl
  room_step line.surveys w lim h = h

  pub room_run : {v w : World} → Run F v w → Roomy v.concentrator → Roomy w.concentrator
  room_run begin h = h
  room_run (then r e lim) h = room_step e _ lim (room_run r h)
