-- One reader and the concentrator's link to it: what holds between them, and that each move keeps it.
use Rattle.std.proofs.Common.{◌≡◌, ℕ, ◌+◌, Bool, true, false, not, List, ◌∷◌, length, Some, None, Ok, Option, Result, sym, refl, ap, ◌∙◌}
use mathlib.Core.Bool.{false≢true}
use Rattle.account.specs.Account.{sent_by}
use Rattle.account.specs.Books.{Station, asked, ended, ends_send, marks, newest_sent, newest_hand_out}
use Rattle.account.specs.Ledger.{AllEnded, AllMarked, HandOutsCome, Handed, HasEnded, MayCome, MayLack, Requested, SendsCome, came, lacks, none_open, none_out, nothing, offer_fate, one_open, one_out}
use Rattle.account.specs.declared.books.HandOut.{HandOut}
use Rattle.account.specs.declared.books.Item.{Item}
use Rattle.account.specs.declared.books.OfferState.TheVariants.{Marked}
use Rattle.account.specs.declared.books.SendState.TheVariants.{Ended, Open as IsOpen}
use Rattle.account.specs.declared.books.Sending.{Sending}
use Rattle.fault.specs.declared.Fault.{Fault}
use Rattle.frame.specs.Controls.{bit}
use Rattle.rules.specs.Concentrator.{link_after, link_asked, ready, request_telegram, verdict}
use Rattle.rules.specs.Reader.{marked}
use Rattle.rules.specs.Records.{outcome_of}
use Rattle.rules.specs.declared.link.Link.{Link}
use Rattle.rules.specs.declared.message.Message.{Message}
use Rattle.rules.specs.declared.records.Class.{Class}
use Rattle.rules.specs.declared.records.Ending.{Ending}
use Rattle.rules.specs.declared.records.Ending.TheVariants.{Done, Confirmed, Busy, Brought, Empty, Doubted}
use Rattle.rules.specs.declared.records.Exchange.{Exchange}
use Rattle.rules.specs.declared.records.Mark.{Mark}
use Rattle.rules.specs.declared.records.Mark.TheVariants.{Settled, Doubtful}
use Rattle.rules.specs.declared.records.Request.{Request}
use Rattle.rules.specs.declared.records.Request.TheVariants.{Reset, Status, Send, Poll}
use Rattle.rules.specs.declared.telegram.Telegram.{Telegram}
use Rattle.rules.specs.declared.telegram.Telegram.TheVariants.{Single, Fixed, Variable}

-- What the relation between the two sees of a station.
pub record View : Type 0 where
  pub link : Link
  pub stored : Option Telegram
  pub out : Option Message
  pub sends : List Sending
  pub entered : List Item
  pub handed : List HandOut
  pub arrived : List Item

abbrev pub view : Station → View
view s = record {
  link = s.reader.link;
  stored = s.reader.stored;
  out = s.reader.out;
  sends = s.down.sends;
  entered = s.down.entered;
  handed = s.up.handed;
  arrived = s.up.arrived;
}

-- what a burst says, with its number
pub record Word : Type 0 where
  pub telegram : Telegram
  pub number : ℕ

-- the exchange that is open to this reader: its request and its frame count bit
pub data Open : Type 0 where
  shut : Open
  open_for : Request → Bool → Open

-- the one burst that may still move something
pub data Live : Type 0 where
  nowhere : Live
  going : Word → Live
  coming : Word → Live

-- nothing is out, or what is out has arrived
pub data Home : Option Message → List HandOut → List Item → Type 0 where
  nothing_out : {h : List HandOut} {e : List Item} → Home None h e
  there : {m : Message} {h : HandOut} {l : List HandOut} {e : List Item} → HandOutsCome l e → Home (Some m) (h ∷ l) (h.offer.item ∷ e)

-- both links set: the same next bit, and what is out has arrived
abbrev pub Sync : Link → View → Type 0
Sync l v = l.set ≡ true → v.link.set ≡ true → (l.next ≡ v.link.next) × Home v.out v.handed v.arrived

abbrev pub Counted : Request → Type 0
Counted Reset = ⊥
Counted Status = ⊥
Counted (Send m) = Unit {0}
Counted (Poll c) = Unit {0}

abbrev pub item : ℕ → Message → Item
item n m = record { number = n; message = m }

abbrev pub open_sending : ℕ → Message → Sending
open_sending n m = record { item = item n m; state = IsOpen }

-- the open send is the newest, and has not entered
pub data Untaken (v : View) : Request → Type 0 where
  for_send : {m : Message} (n : ℕ) (l : List Sending) → v.sends ≡ open_sending n m ∷ l → SendsCome l v.entered → Untaken v (Send m)
  for_poll : {c : Class} → Untaken v (Poll c)

-- how an exchange may end by an answer of this number, with what has come of it so far
pub data Meant (v : View) : Request → Ending → ℕ → Type 0 where
  of_reset : {k : ℕ} → (v.link.set ≡ true → (v.link.next ≡ true) × (v.out ≡ None)) → Meant v Reset Done k
  of_status : {k : ℕ} → Meant v Status Done k
  of_confirmed : {k : ℕ} {m : Message} (n : ℕ) (l : List Sending) (e : List Item) → v.sends ≡ open_sending n m ∷ l
      → v.entered ≡ item n m ∷ e → SendsCome l e → (v.link.set ≡ true → v.out ≡ None) → Meant v (Send m) Confirmed k
  of_busy : {k : ℕ} {m : Message} (n : ℕ) (l : List Sending) → v.sends ≡ open_sending n m ∷ l → SendsCome l v.entered
      → (v.link.set ≡ true → v.out ≡ None) → Meant v (Send m) Busy k
  of_data : {k : ℕ} {m : Message} {c : Class} (h : HandOut) (l : List HandOut) → v.handed ≡ h ∷ l → h.offer.item ≡ item k m
      → MayCome (offer_fate h.state) → MayLack (offer_fate h.state) → HandOutsCome l v.arrived
      → (v.link.set ≡ true → v.out ≡ Some m) → Meant v (Poll c) (Brought m) k
  of_empty : {k : ℕ} {c : Class} → (v.link.set ≡ true → v.out ≡ None) → Meant v (Poll c) Empty k

-- is it for the concentrator
abbrev pub alive_back : Telegram → Bool
alive_back Single = true
alive_back (Fixed c a) = not (bit 64 c.octet)
alive_back (Variable c a m) = not (bit 64 c.octet)

-- the concentrator's verdict, which goes by the station and the request alone
abbrev pub verdict_of : ℕ → Request → Telegram → Result Ending Fault
verdict_of a q t = verdict (record { station = a; request = q; bit = false; transmissions = 0 }) t

pub verdict_same : (x : Exchange) (t : Telegram) → verdict x t ≡ verdict_of x.station x.request t
unfolding verdict
verdict_same x Single = refl
verdict_same x (Fixed c a) = refl
verdict_same x (Variable c a m) = refl

-- an answer, as the concentrator will understand it
pub record Carries (a : ℕ) (v : View) (q : Request) (t : Telegram) (k : ℕ) : Type 0 where
  pub ending : Ending
  pub understood : verdict_of a q t ≡ Ok ending
  pub back : alive_back t ≡ true
  pub meant : Meant v q ending k

-- the phases of a link
pub data Mode (a : ℕ) (l : Link) (v : View) : Open → Type 0 where
  rest : Sync l v → Mode a l v shut
  resetting : {b : Bool} → l.set ≡ false → Mode a l v (open_for Reset b)
  asking : {b : Bool} → Sync l v → Mode a l v (open_for Status b)
  fresh : {q : Request} {b : Bool} → Counted q → l.set ≡ true → l.next ≡ b → v.link.set ≡ true → v.link.next ≡ b
      → Home v.out v.handed v.arrived → Untaken v q → Mode a l v (open_for q b)
  taken : {q : Request} {b : Bool} → Counted q → l.set ≡ true → l.next ≡ b → v.link.set ≡ true → v.link.next ≡ not b
      → (t : Telegram) → v.stored ≡ Some t → Carries a v q t (newest_hand_out v.handed) → Mode a l v (open_for q b)
  gone : {q : Request} {b : Bool} → Counted q → l.set ≡ true → l.next ≡ b → v.link.set ≡ false → Mode a l v (open_for q b)

-- what is on the line
pub data Flying (a : ℕ) (v : View) : Open → Live → Type 0 where
  none_flies : {o : Open} → Flying a v o nowhere
  request_flies : {q : Request} {b : Bool} {x : Word} → x.telegram ≡ request_telegram q b a → x.number ≡ newest_sent v.sends → Flying a v (open_for q b) (going x)
  answer_flies : {q : Request} {b : Bool} {x : Word} → Carries a v q x.telegram x.number
      → (Counted q → v.link.set ≡ true → v.link.next ≡ not b) → Flying a v (open_for q b) (coming x)

-- the message of the open send
abbrev pub send_in : Open → Option Message
send_in shut = None
send_in (open_for q b) = sent_by q

pub record Pair (a : ℕ) (l : Link) (o : Open) (f : Live) (v : View) : Type 0 where
  pub mode : Mode a l v o
  pub flying : Flying a v o f
  pub requests : Requested (send_in o) v.sends
  pub downs : SendsCome v.sends v.entered
  pub ups : HandOutsCome v.handed v.arrived
  pub outs : Handed v.out v.handed

-- ## the books

pub marked_all : {o : Option Message} {h : List HandOut} → Handed o h → (k : Mark) → AllMarked (marks (marked k o) h)
marked_all (none_out p) k = p
marked_all (one_out p) k = (tt, p)

pub settled_come : {o : Option Message} {h : List HandOut} {e : List Item} → Home o h e → HandOutsCome h e → HandOutsCome (marks (marked Settled o) h) e
settled_come nothing_out p = p
settled_come (there q) p = came tt q

doubted_come : {h : List HandOut} {e : List Item} → HandOutsCome h e → HandOutsCome (marks (Some Doubtful) h) e
doubted_come nothing = nothing
doubted_come (came p q) = came tt q
doubted_come (lacks p q) = lacks tt q

pub marked_come : (o : Option Message) (h : List HandOut) (e : List Item) → HandOutsCome h e → HandOutsCome (marks (marked Doubtful o) h) e
marked_come None h e p = p
marked_come (Some m) h e p = doubted_come p

doubtful_come : {l : List Sending} {e : List Item} → SendsCome l e → SendsCome (ends_send Doubted l) e
doubtful_come nothing = nothing
doubtful_come (came p q) = came tt q
doubtful_come (lacks p q) = lacks tt q

-- ## a restart

abbrev pub restart_view : View → View
restart_view v = record {
  link = record { set = false; next = v.link.next };
  stored = None;
  out = None;
  sends = v.sends;
  entered = v.entered;
  handed = marks (marked Doubtful v.out) v.handed;
  arrived = v.arrived;
}

pub never_set : {A : Type 0} → false ≡ true → A
never_set p = absurd (false≢true p)

-- the newest hand-out may get the mark of doubt, or none
record Doubtfully (h : List HandOut) (l : List HandOut) (i : Item) : Type 0 where
  newest : HandOut
  is : h ≡ newest ∷ l
  same : newest.offer.item ≡ i
  comes : MayCome (offer_fate newest.state)
  fails : MayLack (offer_fate newest.state)

doubtfully : (o : Option Message) (h : List HandOut) (x : HandOut) (l : List HandOut) (i : Item) → h ≡ x ∷ l → x.offer.item ≡ i
    → MayCome (offer_fate x.state) → MayLack (offer_fate x.state) → Doubtfully (marks (marked Doubtful o) h) l i
doubtfully None h x l i p q c f = record { newest = x; is = p; same = q; comes = c; fails = f }
doubtfully (Some m) h x l i p q c f =
    record { newest = record { offer = x.offer; state = Marked Doubtful }; is = ap (marks (Some Doubtful)) p; same = q; comes = tt; fails = tt }

meant_restart : (v : View) {q : Request} {e : Ending} {k : ℕ} → Meant v q e k → Meant (restart_view v) q e k
meant_restart v (of_reset p) = of_reset (λ q. never_set q)
meant_restart v of_status = of_status
meant_restart v (of_confirmed n l e p q r t) = of_confirmed n l e p q r (λ x. never_set x)
meant_restart v (of_busy n l p q r) = of_busy n l p q (λ x. never_set x)
meant_restart v (of_data h l p q c f r x) =
    let d = doubtfully v.out v.handed h l _ p q c f in
    of_data d.newest l d.is d.same d.comes d.fails r (λ x. never_set x)
meant_restart v (of_empty p) = of_empty (λ q. never_set q)

carries_restart : (a : ℕ) (v : View) (q : Request) (t : Telegram) (k : ℕ) → Carries a v q t k → Carries a (restart_view v) q t k
carries_restart a v q t k p = record { ending = p.ending; understood = p.understood; back = p.back; meant = meant_restart v p.meant }

mode_restart : (a : ℕ) (l : Link) (v : View) {o : Open} → Mode a l v o → Mode a l (restart_view v) o
mode_restart a l v (rest p) = rest (λ x y. never_set y)
mode_restart a l v (resetting p) = resetting p
mode_restart a l v (asking p) = asking (λ x y. never_set y)
mode_restart a l v (fresh c p q r t h u) = gone c p q refl
mode_restart a l v (taken c p q r t x y u) = gone c p q refl
mode_restart a l v (gone c p q r) = gone c p q refl

flying_restart : (a : ℕ) (v : View) {o : Open} {f : Live} → Flying a v o f → Flying a (restart_view v) o f
flying_restart a v none_flies = none_flies
flying_restart a v (request_flies p q) = request_flies p q
flying_restart a v (answer_flies c p) = answer_flies (carries_restart a v _ _ _ c) (λ x y. never_set y)

pub pair_restart : (a : ℕ) (l : Link) (o : Open) (f : Live) (v : View) → Pair a l o f v → Pair a l o f (restart_view v)
pair_restart a l o f v p = record {
  mode = mode_restart a l v p.mode;
  flying = flying_restart a v p.flying;
  requests = p.requests;
  downs = p.downs;
  ups = marked_come v.out v.handed v.arrived p.ups;
  outs = none_out (marked_all p.outs Doubtful);
}

-- ## the exchange ends

pub next_is : {a : ℕ} {l : Link} {v : View} {q : Request} {b : Bool} → Mode a l v (open_for q b) → Counted q → l.next ≡ b
next_is (resetting p) c = absurd c
next_is (asking p) c = absurd c
next_is (fresh c p q r t h u) d = q
next_is (taken c p q r t x y u) d = q
next_is (gone c p q r) d = q

status_sync : {a : ℕ} {l : Link} {v : View} {b : Bool} → Mode a l v (open_for Status b) → Sync l v
status_sync (asking p) = p
status_sync (fresh c p q r t h u) = absurd c
status_sync (taken c p q r t x y u) = absurd c
status_sync (gone c p q r) = absurd c

-- the open send ends, confirmed, busy or doubtful
open_ends : (e : Ending) → HasEnded (Ended (outcome_of e)) → {m : Message} {l : List Sending} → Requested (Some m) l → Requested None (ends_send e l)
open_ends e h (one_open p) = none_open (h, p)

-- what the end of an exchange by an answer leaves
module _ (a : ℕ) (l : Link) (b : Bool) (s : Station) where
  pub pair_ended : {q : Request} {e : Ending} {k : ℕ} → Meant (view s) q e k → (Counted q → s.reader.link.set ≡ true → s.reader.link.next ≡ not b)
      → (Counted q → l.next ≡ b) → (f : Live) → Pair a l (open_for q b) f (view s) → Pair a (link_after q e l) shut nowhere (view (ended k q e s))
  unfolding link_after
  pair_ended (of_reset p) t n f h =
      record { mode = rest (λ y z. (sym (p z).0, rw (p z).1 nothing_out)); flying = none_flies; requests = h.requests; downs = h.downs; ups = h.ups; outs = h.outs }
  pair_ended of_status t n f h =
      record { mode = rest (status_sync h.mode); flying = none_flies; requests = h.requests; downs = h.downs; ups = h.ups; outs = h.outs }
  pair_ended (of_confirmed i k e p q r o) t n f h = record {
    mode = rest (λ y z. (ap not (n tt) ∙ sym (t tt z), rw (o z) nothing_out));
    flying = none_flies;
    requests = open_ends Confirmed tt h.requests;
    downs = rw (p, q) (came tt r);
    ups = h.ups;
    outs = h.outs;
  }
  pair_ended (of_busy i k p r o) t n f h = record {
    mode = rest (λ y z. (ap not (n tt) ∙ sym (t tt z), rw (o z) nothing_out));
    flying = none_flies;
    requests = open_ends Busy tt h.requests;
    downs = rw p (lacks tt r);
    ups = h.ups;
    outs = h.outs;
  }
  pair_ended (of_data x k p q c g r o) t n f h = record {
    mode = rest (λ y z. (ap not (n tt) ∙ sym (t tt z), rw (o z, p, ← q) (there r)));
    flying = none_flies;
    requests = h.requests;
    downs = h.downs;
    ups = rw (p, ← q) (came c r);
    outs = h.outs;
  }
  pair_ended (of_empty o) t n f h = record {
    mode = rest (λ y z. (ap not (n tt) ∙ sym (t tt z), rw (o z) nothing_out));
    flying = none_flies;
    requests = h.requests;
    downs = h.downs;
    ups = h.ups;
    outs = h.outs;
  }

-- the end in doubt
pub pair_doubt : (a : ℕ) (l : Link) (b : Bool) (f : Live) (s : Station) (q : Request) → Pair a l (open_for q b) f (view s)
    → Pair a (link_after q Doubted l) shut nowhere (view (ended 0 q Doubted s))
unfolding link_after
pair_doubt a l b f s Reset p = record { mode = rest (λ x y. never_set x); flying = none_flies; requests = p.requests; downs = p.downs; ups = p.ups; outs = p.outs }
pair_doubt a l b f s Status p = record { mode = rest (λ x y. never_set x); flying = none_flies; requests = p.requests; downs = p.downs; ups = p.ups; outs = p.outs }
pair_doubt a l b f s (Send m) p =
    record { mode = rest (λ x y. never_set x); flying = none_flies; requests = open_ends Doubted tt p.requests; downs = doubtful_come p.downs; ups = p.ups; outs = p.outs }
pair_doubt a l b f s (Poll c) p = record { mode = rest (λ x y. never_set x); flying = none_flies; requests = p.requests; downs = p.downs; ups = p.ups; outs = p.outs }

-- ## a request opens an exchange

pub sync_of : {a : ℕ} {l : Link} {v : View} → Mode a l v shut → Sync l v
sync_of (rest p) = p

-- a send or a poll: fresh where the reader's link is set, else gone
opens_counted : (a : ℕ) (l : Link) (v w : View) (q : Request) → Counted q → l.set ≡ true → Sync l v
    → w.link ≡ v.link → w.out ≡ v.out → w.handed ≡ v.handed → w.arrived ≡ v.arrived
    → Untaken w q → (z : Bool) → v.link.set ≡ z → Mode a l w (open_for q l.next)
opens_counted a l v w q c p y e₁ e₃ e₄ e₅ u true r =
    fresh c p refl (ap (λ k. k.set) e₁ ∙ r) (ap (λ k. k.next) e₁ ∙ sym (y p r).0) (rw (e₃, e₄, e₅) (y p r).1) u
opens_counted a l v w q c p y e₁ e₃ e₄ e₅ u false r = gone c p refl (ap (λ k. k.set) e₁ ∙ r)

ended_all : {l : List Sending} → Requested None l → AllEnded l
ended_all (none_open p) = p

pub pair_opens : (a : ℕ) (l : Link) (s : Station) (q : Request) (x : Word) → Pair a l shut nowhere (view s)
    → ready q l ≡ true → x.telegram ≡ request_telegram q l.next a → x.number ≡ newest_sent (asked q s).down.sends
    → Pair a (link_asked q l) (open_for q l.next) (going x) (view (asked q s))
pair_opens a l s Reset x p r c n =
    record { mode = resetting refl; flying = request_flies c n; requests = p.requests; downs = p.downs; ups = p.ups; outs = p.outs }
pair_opens a l s Status x p r c n =
    record { mode = asking (sync_of p.mode); flying = request_flies c n; requests = p.requests; downs = p.downs; ups = p.ups; outs = p.outs }
pair_opens a l s (Send m) x p r c n = record {
  mode = opens_counted a l (view s) (view (asked (Send m) s)) (Send m) tt r (sync_of p.mode) refl refl refl refl
      (for_send (length s.down.sends + 1) s.down.sends refl p.downs) s.reader.link.set refl;
  flying = request_flies c n;
  requests = one_open (ended_all p.requests);
  downs = lacks tt p.downs;
  ups = p.ups;
  outs = p.outs;
}
pair_opens a l s (Poll k) x p r c n = record {
  mode = opens_counted a l (view s) (view s) (Poll k) tt r (sync_of p.mode) refl refl refl refl for_poll s.reader.link.set refl;
  flying = request_flies c n;
  requests = p.requests;
  downs = p.downs;
  ups = p.ups;
  outs = p.outs;
}
