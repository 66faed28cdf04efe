-- Every burst says what a frame can carry; the guard law speaks of such only.
use Rattle.std.proofs.Common.{◌≡◌, ℕ, zero, suc, ◌-◌, ◌<◌, ◌≤◌, Bool, true, false, cond, ◌||◌, leb, List, [], ◌∷◌, ◌++◌, map, length, get_or, take, set, replicate, Some, None, Ok, Err, Option, Result, sym, refl, ap, ◌∙◌, subst, arith, take_all}
use lib.Seq.{take-append_seam}
use Rattle.account.proofs.Calls.{Asked, Ends, Offers, Proper, ProperRequest, Timing, Turns, accepts, asks, closes, doubts, gives, has_none, hears, is_busy, offers, opened, repeats, resets, says_again, says_so, takes, times, turns}
use Rattle.account.proofs.Stations.{all_append, all_changed, all_found}
use Rattle.account.specs.Account.{Apart}
use Rattle.account.specs.Books.{Station, fetched, found, turned}
use Rattle.account.specs.Books as books
use Rattle.account.specs.Line as line
use Rattle.account.specs.Line.{Burst, Event, Limit, Run, World, answered, begin, concluded, gone, leaves, new_station, new_world, requested, step, then, timed}
use Rattle.fault.specs.declared.Fault.{Fault}
use Rattle.frame.specs.Contents.{Valid, padded}
use Rattle.frame.specs.Controls.{primary_octet, secondary_octet}
use Rattle.frame.specs.declared.Format.{Ghosts}
use Rattle.rules.specs.Concentrator as co
use Rattle.rules.specs.Concentrator.{Concentrator, request_telegram, transmission}
use Rattle.rules.specs.Functions.{reply_code}
use Rattle.rules.specs.Links.{link_at}
use Rattle.rules.specs.Messages.{message_of, text, within}
use Rattle.rules.specs.Queues.{Held, holding}
use Rattle.rules.specs.Reader as rd
use Rattle.rules.specs.Reader.{Reader, Turn}
use Rattle.rules.specs.Telegrams.{carried, telegram_of, telegram_read}
use Rattle.rules.specs.declared.message.Message.{Message}
use Rattle.rules.specs.declared.records.Arrival.{Arrival}
use Rattle.rules.specs.declared.records.Class.{Class}
use Rattle.rules.specs.declared.records.Class.TheVariants.{First, Second}
use Rattle.rules.specs.declared.records.Ending.TheVariants.{Doubted}
use Rattle.rules.specs.declared.records.Exchange.{Exchange}
use Rattle.rules.specs.declared.records.ReaderPlan.{ReaderPlan}
use Rattle.rules.specs.declared.records.Reply.{Reply}
use Rattle.rules.specs.declared.records.Reply.TheVariants as reply
use Rattle.rules.specs.declared.records.Request.{Request}
use Rattle.rules.specs.declared.records.Request.TheVariants.{Reset, Status, Send, Poll}
use Rattle.rules.specs.declared.telegram.Telegram.{Telegram}
use Rattle.rules.specs.declared.telegram.Telegram.TheVariants.{Single, Fixed, Variable}
use Rattle.std.proofs.lemmas.Bool.Decides.{nat_tests}
use Rattle.std.specs.List.{AllByRecursion}

-- ## telegrams that a frame can carry

pub record Sayable (t : Telegram) : Type 0 where
  pub valid : Valid (carried t)
  pub back : telegram_of (carried t) ≡ t

text_of : (os : List ℕ) → 1 ≤ length os → length os ≤ 64 → text (message_of os) ≡ os
text_of os low high =
    let w : within 1 64 (length os) ≡ true = grind (arith, nat_tests) in
    ap (λ z. take (cond z (length os) 64) (padded os)) w ∙ ap (λ l. take (length os) (l ++ replicate (64 - length os) 0)) (take_all 64 os high) ∙ take-append_seam os (replicate (64 - length os) 0)

secondary_few : (p d : Bool) (k : ℕ) → secondary_octet p d k < 256
secondary_few true true k = omega arith
secondary_few true false k = omega arith
secondary_few false true k = omega arith
secondary_few false false k = omega arith

primary_few : (p d : Bool) (k : ℕ) → primary_octet p d k < 256
primary_few true true k = omega arith
primary_few true false k = omega arith
primary_few false true k = omega arith
primary_few false false k = omega arith

abbrev Known : ℕ → Type 0
Known a = within 1 32 a ≡ true

known_few : (a : ℕ) → Known a → a < 256
known_few a k = grind (arith, nat_tests)

fixed_sayable : (c a : ℕ) → c < 256 → a < 256 → Sayable (Fixed (record { octet = c }) a)
fixed_sayable c a p q = record { valid = (p, q); back = refl }

variable_sayable : (c a : ℕ) (m : Message) → c < 256 → a < 256 → Proper m → Sayable (Variable (record { octet = c }) a m)
variable_sayable c a m p q h =
    let e = text_of h.octets h.least h.most in
    subst (λ x. Sayable (Variable (record { octet = c }) a x)) (sym h.is)
    (record {
      valid = (p, q, subst (λ l. 1 ≤ length l) (sym e) h.least, subst (λ l. length l ≤ 64) (sym e) h.most, subst (AllByRecursion (λ o. o < 256)) (sym e) h.small);
      back = ap (λ l. Variable (record { octet = c }) a (message_of l)) e;
    })

request_sayable : (q : Request) (b : Bool) (a : ℕ) → Known a → ProperRequest q → Sayable (request_telegram q b a)
request_sayable Reset b a k p = fixed_sayable _ a (primary_few false false 0) (known_few a k)
request_sayable Status b a k p = fixed_sayable _ a (primary_few false false 9) (known_few a k)
request_sayable (Send m) b a k p = variable_sayable _ a m (primary_few b true 3) (known_few a k) p
request_sayable (Poll First) b a k p = fixed_sayable _ a (primary_few b true 10) (known_few a k)
request_sayable (Poll Second) b a k p = fixed_sayable _ a (primary_few b true 11) (known_few a k)

-- ## readers

abbrev StoredSayable : Option Telegram → Type 0
StoredSayable None = Unit {0}
StoredSayable (Some t) = Sayable t

pub record Whole (r : Reader) : Type 0 where
  pub known : Known r.address
  pub class1 : AllByRecursion Proper r.class1.records
  pub class2 : AllByRecursion Proper r.class2.records
  pub stored : StoredSayable r.stored

says_sayable : (k : Reply) (r : Reader) → Known r.address → Sayable (rd.says k r)
says_sayable k r h = fixed_sayable _ r.address (secondary_few (rd.acd r) (rd.dfc r) (reply_code k)) (known_few r.address h)

briefly_sayable : (k : Reply) (r : Reader) → Known r.address → Sayable (rd.says_briefly k r)
briefly_sayable k r h = go (rd.acd r || rd.dfc r)
  where
    go : (z : Bool) → Sayable (cond z (rd.says k r) Single)
    go true = says_sayable k r h
    go false = record { valid = tt; back = refl }

data_sayable : (m : Message) (r : Reader) → Known r.address → Proper m → Sayable (rd.says_data m r)
data_sayable m r h p = variable_sayable _ r.address m (secondary_few (rd.acd r) (rd.dfc r) 8) (known_few r.address h) p

abbrev pub HeardWhole : Result Turn Fault → Type 0
HeardWhole (Err f) = Unit {0}
HeardWhole (Ok t) = Whole t.reader × Sayable t.answer

queue_proper : (r : Reader) → Whole r → (c : Class) → AllByRecursion Proper (rd.class_queue c r).records
queue_proper r h First = h.class1
queue_proper r h Second = h.class2

-- a change of the queue of a class
queue_whole : (c : Class) (q : Held Message) (r : Reader) → Whole r → AllByRecursion Proper q.records → Whole (rd.with_class c q r)
queue_whole First q r h p = record { known = h.known; class1 = p; class2 = h.class2; stored = h.stored }
queue_whole Second q r h p = record { known = h.known; class1 = h.class1; class2 = p; stored = h.stored }

turn_whole : (r : Reader) → Whole r → (h : Result Turn Fault) → Turns r h → HeardWhole h
turn_whole r h (Err f) t = tt
turn_whole r h (Ok t) (says_so k) = (h, says_sayable k r h.known)
turn_whole r h (Ok t) (says_again x e) = (h, subst StoredSayable e h.stored)
turn_whole r h (Ok t) resets =
    (record { known = h.known; class1 = h.class1; class2 = h.class2; stored = tt }, briefly_sayable reply.Ack t.reader h.known)
turn_whole r h (Ok t) is_busy =
    let a = says_sayable reply.Busy (rd.turned None r) h.known in
    (record { known = h.known; class1 = h.class1; class2 = h.class2; stored = a }, a)
turn_whole r h (Ok t) (takes m e) =
    let a = briefly_sayable reply.Ack (rd.turned None (rd.with_inbox t.reader.inbox r)) h.known in
    (record { known = h.known; class1 = h.class1; class2 = h.class2; stored = a }, a)
turn_whole r h (Ok t) has_none =
    let a = briefly_sayable reply.NoData (rd.turned None r) h.known in
    (record { known = h.known; class1 = h.class1; class2 = h.class2; stored = a }, a)
turn_whole r h (Ok t) (gives c m ms e) =
    let p : AllByRecursion Proper (m ∷ ms) = subst (AllByRecursion Proper) e (queue_proper r h c) in
    let w = queue_whole c (holding (rd.class_queue c r) ms) r h p.1 in
    let a = data_sayable m (rd.turned (Some m) (rd.with_class c (holding (rd.class_queue c r) ms) r)) w.known p.0 in
    (record { known = w.known; class1 = w.class1; class2 = w.class2; stored = a }, a)

put_proper : (m : Message) (q : Held Message) → Proper m → AllByRecursion Proper q.records → AllByRecursion Proper (Rattle.rules.specs.Queues.put_in m q).records
put_proper m q p h = go (leb q.room (length q.records))
  where
    go : (z : Bool) → AllByRecursion Proper (cond z q.records (q.records ++ (m ∷ [])))
    go true = h
    go false = all_append Proper q.records m h p

offer_whole : (s : Station) → Whole s.reader → (o : rd.Offered) → Offers s.reader o → Whole (books.offered o s).reader
offer_whole s h (rd.declined f) t = h
offer_whole s h (rd.accepted c m r) (accepts c' m' p e) =
    queue_whole c' _ s.reader h (put_proper m' (rd.class_queue c' s.reader) p (queue_proper s.reader h c'))

collect_whole : (l : List Message) (r : Reader) → Whole r → Whole (rd.collect_after l r)
collect_whole [] r h = h
collect_whole (m ∷ l) r h = record { known = h.known; class1 = h.class1; class2 = h.class2; stored = h.stored }

-- ## the line

abbrev ExchangeWhole : Option Exchange → Type 0
ExchangeWhole None = Unit {0}
ExchangeWhole (Some x) = Sayable (transmission x)

abbrev pub StationWhole : Station → Type 0
StationWhole s = Whole s.reader

abbrev pub SaysWell : Burst → Type 0
SaysWell b = Sayable b.telegram

pub record ValidWorld (w : World) : Type 0 where
  pub stations : AllByRecursion StationWhole w.stations
  pub exchange : ExchangeWhole w.concentrator.exchange
  pub bursts : AllByRecursion SaysWell w.bursts

pub burst_valid : (l : List Burst) (k : ℕ) (b : Burst) → k < length l → get_or l k b ≡ b → AllByRecursion SaysWell l → SaysWell b
burst_valid [] k b n e h = let w : ⊥ = omega arith in absurd w
burst_valid (c ∷ l) zero b n e h = subst SaysWell e h.0
burst_valid (c ∷ l) (suc k) b n e h = burst_valid l k b (omega arith) e h.1

set_valid : (l : List Burst) (k : ℕ) (b : Burst) → SaysWell b → AllByRecursion SaysWell l → AllByRecursion SaysWell (set l k b)
set_valid [] k b p h = tt
set_valid (c ∷ l) zero b p h = (p, h.1)
set_valid (c ∷ l) (suc k) b p h = (h.0, set_valid l k b p h.1)

lost_valid : (l : List Burst) → AllByRecursion SaysWell l → AllByRecursion SaysWell (map line.lost_everywhere l)
lost_valid [] h = tt
lost_valid (b ∷ l) h = (h.0, lost_valid l h.1)

module _ (w : World) (ok : ValidWorld w) where
  change_whole : (a : ℕ) (f : Station → Station) → ((s : Station) → StationWhole s → StationWhole (f s)) → AllByRecursion StationWhole (books.change a f w.stations)
  change_whole a f h = all_changed StationWhole StationWhole a f w.stations (λ s e p. h s p) (λ s e p. p) ok.stations

  leaves_valid : (e k : ℕ) (b : Burst) → line.OnWay e k b w → ValidWorld (leaves e k b w)
  leaves_valid e k b h = record {
    stations = ok.stations;
    exchange = ok.exchange;
    bursts = set_valid w.bursts k (gone e b) (burst_valid w.bursts k b h.0 h.1 ok.bursts) ok.bursts;
  }

  answered_valid : (n a : ℕ) (s : Station) → found a w.stations ≡ Some s → (h : Result Turn Fault) → Turns s.reader h → ValidWorld (answered n h s w)
  answered_valid n a s e (Err f) t = ok
  answered_valid n a s e (Ok x) t =
      let p = turn_whole s.reader (all_found StationWhole a w.stations s e ok.stations).0 (Ok x) t in
      record {
        stations = change_whole s.reader.address (λ o. turned n x s) (λ o q. p.0);
        exchange = ok.exchange;
        bursts = all_append SaysWell w.bursts _ ok.bursts p.1;
      }

  requested_valid : (r : Result co.Sent Fault) → Asked w.concentrator r → ValidWorld (requested r w)
  requested_valid (Err f) t = ok
  requested_valid (Ok x) (opened a q k e r h p) =
      let y = request_sayable q (link_at w.concentrator.links a).next a k p in
      record { stations = change_whole a (books.asked q) (λ s h. h); exchange = y; bursts = all_append SaysWell w.bursts _ ok.bursts y }

  ends_valid : (n : ℕ) (x : co.Ended) → x.after.exchange ≡ None → ValidWorld (line.ends n x w)
  ends_valid n x e = record {
    stations = change_whole x.exchange.station (books.ended n x.exchange.request x.ending) (λ s h. h);
    exchange = subst ExchangeWhole (sym e) tt;
    bursts = ok.bursts;
  }

  timed_valid : (r : Result co.Timed Fault) → Timing w.concentrator r → ValidWorld (timed r w)
  timed_valid (Err f) t = ok
  timed_valid (Ok x) (repeats y e) =
      let p : Sayable (transmission y) = subst ExchangeWhole e ok.exchange in
      record { stations = ok.stations; exchange = p; bursts = all_append SaysWell w.bursts _ ok.bursts p }
  timed_valid (Ok x) (doubts y e) = ends_valid 0 (co.closing y Doubted co.no_flags w.concentrator) refl

  concluded_valid : (n : ℕ) (t : Result Telegram Fault) (r : Result co.Ended Fault) → Ends w.concentrator t r → ValidWorld (concluded n r w)
  concluded_valid n t (Err f) h = ok
  concluded_valid n t (Ok x) (closes {t = t'} y o e v) = ends_valid n (co.closing y o (co.flags_of t') w.concentrator) refl

  fetched_valid : (l : List Arrival) → AllByRecursion StationWhole (fetched l w.stations)
  fetched_valid [] = ok.stations
  fetched_valid (m ∷ l) = change_whole m.station _ (λ s h. h)

fetch_exchange : (l : List Arrival) (k : Concentrator) → (co.arrivals_left l k).exchange ≡ k.exchange
fetch_exchange [] k = refl
fetch_exchange (m ∷ l) k = refl

report_exchange : (l : List _) (k : Concentrator) → (co.reports_left l k).exchange ≡ k.exchange
report_exchange [] k = refl
report_exchange (m ∷ l) k = refl

module _ {X : Type 0} (F : Ghosts X) where
  hears_valid : (w w' : World) → w'.stations ≡ w.stations → ValidWorld w' → (short : Bool) (n a : ℕ) (heard : List ℕ) (o : Option Station) → found a w.stations ≡ o
      → ValidWorld (line.hears_at F o short n heard w')
  hears_valid w w' q ok short n a heard None e = ok
  hears_valid w w' q ok short n a heard (Some s) e =
      answered_valid w' ok n a s (ap (found a) q ∙ e) _ (turns s.reader short (telegram_read (F.verdict heard)))

  valid_step : (e : Event) (w : World) → Limit F e w → ValidWorld w → ValidWorld (step F e w)
  valid_step (line.requests short a q) w lim ok = requested_valid w ok _ (asks w.concentrator a short q lim)
  valid_step (line.times_out short) w lim ok = timed_valid w ok _ (times w.concentrator short)
  valid_step (line.concentrator_hears k b heard) w lim ok =
      concluded_valid (leaves 0 k b w) (leaves_valid w ok 0 k b lim.0) b.number _ _ (hears w.concentrator (telegram_read (F.verdict heard)))
  valid_step (line.reader_hears short a k b heard) w lim ok =
      hears_valid w (leaves a k b w) refl (leaves_valid w ok a k b lim.0) short b.number a heard (found a w.stations) refl
  valid_step (line.loses e k b) w lim ok = leaves_valid w ok e k b lim
  valid_step line.loses_all w lim ok = record { stations = ok.stations; exchange = ok.exchange; bursts = lost_valid w.bursts ok.bursts }
  valid_step (line.offers a class os) w lim ok = record {
    stations = change_whole w ok a _ (λ s h. offer_whole s h _ (offers s.reader class os lim));
    exchange = ok.exchange;
    bursts = ok.bursts;
  }
  valid_step (line.collects a) w lim ok = record {
    stations = change_whole w ok a _ (λ s h. collect_whole s.reader.inbox.records s.reader h);
    exchange = ok.exchange;
    bursts = ok.bursts;
  }
  valid_step (line.restarts a) w lim ok = record {
    stations = change_whole w ok a _ (λ s h. record { known = h.known; class1 = h.class1; class2 = h.class2; stored = tt });
    exchange = ok.exchange;
    bursts = ok.bursts;
  }
  valid_step line.fetches_arrival w lim ok = record {
    stations = fetched_valid w ok w.concentrator.arrivals.records;
    exchange = subst ExchangeWhole (sym (fetch_exchange w.concentrator.arrivals.records w.concentrator)) ok.exchange;
    bursts = ok.bursts;
  }
  valid_step line.fetches_report w lim ok = record {
    stations = ok.stations;
    exchange = subst ExchangeWhole (sym (report_exchange w.concentrator.reports.records w.concentrator)) ok.exchange;
    bursts = ok.bursts;
  }
  valid_step line.surveys w lim ok = ok

  pub valid_run : {v w : World} → Run F v w → ValidWorld v → ValidWorld w
  valid_run begin ok = ok
  valid_run (then r e lim) ok = valid_step e _ lim (valid_run r ok)

new_whole : (l : List ReaderPlan) → Apart l → AllByRecursion StationWhole (map new_station l)
new_whole [] h = tt
new_whole (f ∷ l) h = (record { known = h.0; class1 = tt; class2 = tt; stored = tt }, new_whole l h.2)

pub new_valid : (r i j : ℕ) (l : List ReaderPlan) → Apart l → ValidWorld (new_world r i j l)
new_valid r i j l h = record { stations = new_whole l h; exchange = tt; bursts = tt }
