-- No call changes an address, so the ends of a lawful line stay apart.
use Rattle.std.proofs.Common.{◌≡◌, ℕ, zero, suc, ◌<◌, Bool, true, false, cond, eqb, List, [], ◌∷◌, map, length, get_or, Some, None, Ok, Err, Option, Result, sym, refl, ap, ◌∙◌, subst, ap₂, arith}
use Rattle.account.proofs.Calls.{Offers, Turns, accepts, gives, has_none, is_busy, offers, resets, says_again, says_so, takes, turns}
use Rattle.account.specs.Account.{Apart}
use Rattle.account.specs.Books.{Station, change, fetched, found, offered, turned}
use Rattle.account.specs.Line as line
use Rattle.account.specs.Line.{Event, Limit, Run, World, answered, begin, concluded, hears_at, new_station, new_world, requested, step, then, timed}
use Rattle.fault.specs.declared.Fault.{Fault}
use Rattle.frame.specs.declared.Format.{Ghosts}
use Rattle.readers.proofs.Addresses.{spaced_few, spaced_other}
use Rattle.readers.specs.Pairs.{Spaced, addresses}
use Rattle.rules.specs.Concentrator as co
use Rattle.rules.specs.Reader as rd
use Rattle.rules.specs.Reader.{Reader, Turn}
use Rattle.rules.specs.Telegrams.{telegram_read}
use Rattle.rules.specs.declared.message.Message.{Message}
use Rattle.rules.specs.declared.records.Arrival.{Arrival}
use Rattle.rules.specs.declared.records.Class.{Class}
use Rattle.rules.specs.declared.records.Class.TheVariants.{First, Second}
use Rattle.rules.specs.declared.records.ReaderPlan.{ReaderPlan}
use Rattle.site.proofs.Ways.{EndsApart}
use Rattle.site.specs.Shown.{Lawful, Since}
use Rattle.std.proofs.lemmas.Bool.{eqb-true}
use Rattle.std.specs.List.{AllByRecursion}

abbrev address_of : Station → ℕ
address_of s = s.reader.address

pub ends_apart : (l : List ℕ) → Spaced l → EndsApart (0 ∷ l)
ends_apart l s = record { few = few; other = other }
  where
    few : (i : ℕ) → i < length (0 ∷ l) → get_or (0 ∷ l) i 0 < 33
    few zero h = omega arith
    few (suc i) h = (spaced_few l i s (omega arith)).1

    other : (i j : ℕ) → i < length (0 ∷ l) → j < length (0 ∷ l) → (j ≡ i → ⊥) → get_or (0 ∷ l) j 0 ≡ get_or (0 ∷ l) i 0 → ⊥
    other zero zero h g n e = n refl
    other zero (suc j) h g n e = omega (arith, (spaced_few l j s (omega arith)).0, e)
    other (suc i) zero h g n e = omega (arith, (spaced_few l i s (omega arith)).0, e)
    other (suc i) (suc j) h g n e = spaced_other l i j s (omega arith) (omega arith) (λ q. n (ap suc q)) e

-- ## no call changes an address

pub addresses_changed : (a : ℕ) (f : Station → Station) (l : List Station)
    → ((s : Station) → eqb (address_of s) a ≡ true → address_of (f s) ≡ address_of s) → addresses (change a f l) ≡ addresses l
addresses_changed a f [] k = refl
addresses_changed a f (s ∷ l) k = ap₂ (λ b r. b ∷ r) (go (eqb (address_of s) a) refl) (addresses_changed a f l k)
  where
    go : (z : Bool) → eqb (address_of s) a ≡ z → address_of (cond z (f s) s) ≡ address_of s
    go true e = k s e
    go false e = refl

queue_address : (c : Class) (q : _) (r : Reader) → (rd.with_class c q r).address ≡ r.address
queue_address First q r = refl
queue_address Second q r = refl

pub turn_address : (r : Reader) (t : Turn) → Turns r (Ok t) → t.reader.address ≡ r.address
turn_address r t (says_so k) = refl
turn_address r t (says_again u e) = refl
turn_address r t resets = refl
turn_address r t is_busy = refl
turn_address r t (takes m e) = refl
turn_address r t has_none = refl
turn_address r t (gives c m ms e) = queue_address c _ r

collect_address : (l : List Message) (r : Reader) → (rd.collect_after l r).address ≡ r.address
collect_address [] r = refl
collect_address (m ∷ l) r = refl

offer_address : (s : Station) (o : rd.Offered) → Offers s.reader o → address_of (offered o s) ≡ address_of s
offer_address s (rd.declined f) h = refl
offer_address s (rd.accepted c m r) (accepts c' m' p e) = queue_address c' _ s.reader

requested_same : (x : Result co.Sent Fault) (w : World) → addresses (requested x w).stations ≡ addresses w.stations
requested_same (Err f) w = refl
requested_same (Ok x) w = addresses_changed _ _ w.stations (λ s e. refl)

timed_same : (x : Result co.Timed Fault) (w : World) → addresses (timed x w).stations ≡ addresses w.stations
timed_same (Err f) w = refl
timed_same (Ok (co.again x)) w = refl
timed_same (Ok (co.doubted x)) w = addresses_changed _ _ w.stations (λ s e. refl)

concluded_same : (n : ℕ) (x : Result co.Ended Fault) (w : World) → addresses (concluded n x w).stations ≡ addresses w.stations
concluded_same n (Err f) w = refl
concluded_same n (Ok x) w = addresses_changed _ _ w.stations (λ s e. refl)

answered_same : (n : ℕ) (t : Result Turn Fault) (s : Station) (w : World) → Turns s.reader t → addresses (answered n t s w).stations ≡ addresses w.stations
answered_same n (Err f) s w h = refl
answered_same n (Ok t) s w h =
    addresses_changed (address_of s) (λ o. turned n t s) w.stations (λ o e. turn_address s.reader t h ∙ sym (eqb-true (address_of o) (address_of s) e))

fetched_same : (l : List Arrival) (ss : List Station) → addresses (fetched l ss) ≡ addresses ss
fetched_same [] ss = refl
fetched_same (m ∷ l) ss = addresses_changed m.station _ ss (λ s e. refl)

module _ {X : Type 0} (F : Ghosts X) where
  heard_same : (o : Option Station) (short : Bool) (n : ℕ) (heard : List ℕ) (w : World) → addresses (hears_at F o short n heard w).stations ≡ addresses w.stations
  heard_same None short n heard w = refl
  heard_same (Some s) short n heard w = answered_same n _ s w (turns s.reader short (telegram_read (F.verdict heard)))

  pub step_same : (e : Event) (w : World) → Limit F e w → addresses (step F e w).stations ≡ addresses w.stations
  step_same (line.requests short a q) w lim = requested_same (co.request short a q w.concentrator) w
  step_same (line.times_out short) w lim = timed_same (co.time_out short w.concentrator) w
  step_same (line.concentrator_hears k b heard) w lim = concluded_same b.number (co.hear (telegram_read (F.verdict heard)) w.concentrator) (line.leaves 0 k b w)
  step_same (line.reader_hears short a k b heard) w lim = heard_same (found a w.stations) short b.number heard (line.leaves a k b w)
  step_same (line.loses e k b) w lim = refl
  step_same line.loses_all w lim = refl
  step_same (line.offers a class os) w lim = addresses_changed a _ w.stations (λ s e. offer_address s (rd.offer class os s.reader) (offers s.reader class os lim))
  step_same (line.collects a) w lim = addresses_changed a _ w.stations (λ s e. collect_address s.reader.inbox.records s.reader)
  step_same (line.restarts a) w lim = addresses_changed a _ w.stations (λ s e. refl)
  step_same line.fetches_arrival w lim = fetched_same w.concentrator.arrivals.records w.stations
  step_same line.fetches_report w lim = refl
  step_same line.surveys w lim = refl

  run_same : {v w : World} → Run F v w → addresses w.stations ≡ addresses v.stations
  run_same begin = refl
  run_same (then {w = w} r e lim) = step_same e w lim ∙ run_same r

  -- the readers of a lawful line are at distinct addresses
  new_spaced : (l : List ReaderPlan) → Apart l → Spaced (addresses (map new_station l))
  new_spaced [] a = tt
  new_spaced (f ∷ l) a = (a.0, others l a.1, new_spaced l a.2)
    where
      others : (g : List ReaderPlan) → AllByRecursion (λ x. eqb x.address f.address ≡ false) g → AllByRecursion (λ b. eqb b f.address ≡ false) (addresses (map new_station g))
      others [] h = tt
      others (x ∷ g) h = (h.0, others g h.1)

  since_same : (started : Bool) (v w : World) → Since F started v w → addresses w.stations ≡ addresses v.stations
  since_same true v w r = run_same r
  since_same false v w e = ap (λ u. addresses u.stations) (sym e)

  pub lawful_spaced : (started : Bool) (w : World) → Lawful F started w → Spaced (addresses w.stations)
  lawful_spaced started w l =
      subst Spaced (sym (since_same started (new_world l.0 l.1 l.2 l.3) w l.5)) (new_spaced l.3 l.4)
