-- A reader hears the request of the exchange that is open to it.
use Rattle.std.proofs.Common.{◌≡◌, ℕ, Bool, true, false, not, List, [], ◌∷◌, Some, None, Ok, Err, Option, Result, sym, refl, ap, ◌∙◌, subst}
use mathlib.Core.Bool.{beq}
use Rattle.account.proofs.Answers.{acks_reset, acks_send, brings, goes_ack, goes_busy, goes_data, goes_none, goes_status, has_none, hears_poll, hears_reset, hears_send, hears_status, is_busy, tells_status}
use Rattle.account.proofs.Pair.{Carries, Counted, Home, Live, Mode, Pair, Untaken, View, answer_flies, coming, for_send, fresh, gone, item, marked_all, marked_come, none_flies, nowhere, of_busy, of_confirmed, of_data, of_empty, of_reset, of_status, open_for, resetting, settled_come, taken, view}
use Rattle.account.specs.Books.{Station, by_class, newest_hand_out, newest_sent, turned}
use Rattle.account.specs.Ledger.{HandOutsCome, Handed, SendsCome, came, lacks, none_out, one_out}
use Rattle.fault.specs.declared.Fault.{Fault}
use Rattle.rules.specs.Concentrator.{request_telegram}
use Rattle.rules.specs.Reader as rd
use Rattle.rules.specs.Reader.{Deed, Reader, Task, Turn, give, hear_telegram, take}
use Rattle.rules.specs.Queues.{Held, holding, put_in}
use Rattle.rules.specs.declared.link.Link.{Link}
use Rattle.rules.specs.declared.message.Message.{Message}
use Rattle.rules.specs.declared.records.Class.{Class}
use Rattle.rules.specs.declared.records.Class.TheVariants.{First, Second}
use Rattle.rules.specs.declared.records.Ending.TheVariants.{Done, Confirmed, Busy, Brought, Empty}
use Rattle.rules.specs.declared.records.Mark.TheVariants.{Settled, Doubtful}
use Rattle.rules.specs.declared.records.Reply.TheVariants as reply
use Rattle.rules.specs.declared.records.Request.{Request}
use Rattle.rules.specs.declared.records.Request.TheVariants.{Reset, Status, Send, Poll}
use Rattle.rules.specs.declared.telegram.Telegram.{Telegram}

-- the station after it heard a burst of this number, and its answer
abbrev pub after : ℕ → Result Turn Fault → Station → Station
after n (Err f) s = s
after n (Ok t) s = turned n t s

abbrev pub live_after : ℕ → Result Turn Fault → Station → Live
live_after n (Err f) s = nowhere
live_after n (Ok t) s = coming (record { telegram = t.answer; number = newest_hand_out (turned n t s).up.handed })

abbrev pub Good : Link → Station → Request → Bool → ℕ → Result Turn Fault → Type 0
Good l s q b k h = Pair s.reader.address l (open_for q b) (live_after k h s) (view (after k h s))

beq_same : (b : Bool) → beq b b ≡ true
beq_same true = refl
beq_same false = refl

beq_not : (b : Bool) → beq b (not b) ≡ false
beq_not true = refl
beq_not false = refl

module _ (r : Reader) (b : Bool) (t : Task) where
  abbrev counts : Result Turn Fault
  counts = rd.count r.link.set (beq b r.link.next) t r

  count_fresh : r.link.set ≡ true → r.link.next ≡ b → counts ≡ rd.perform t r
  count_fresh p q =
      ap (λ z. rd.count z (beq b r.link.next) t r) p ∙ ap (λ z. rd.count true (beq b z) t r) q
      ∙ ap (λ z. rd.count true z t r) (beq_same b)

  count_again : (x : Telegram) → r.link.set ≡ true → r.link.next ≡ not b → r.stored ≡ Some x → counts ≡ rd.still_says x r
  unfolding rd.repeat
  count_again x p q s =
      ap (λ z. rd.count z (beq b r.link.next) t r) p ∙ ap (λ z. rd.count true (beq b z) t r) q
      ∙ ap (λ z. rd.count true z t r) (beq_not b) ∙ ap (λ z. rd.repeat z r) s

  pub count_gone : r.link.set ≡ false → (f : Fault) × (counts ≡ Err f)
  count_gone p = (_, ap (λ z. rd.count z (beq b r.link.next) t r) p)

-- a turn with a new answer, which is stored
abbrev pub turn_of : Reader → Telegram → Deed → Option Message → Turn
turn_of r t d out = record { reader = rd.with_link r.link (Some t) r.out r; answer = t; deed = d; mark = rd.marked Settled out }

-- a reader with another queue of a class, field by field
abbrev pub with_queue : Class → Held Message → Reader → Reader
with_queue c q r = record {
  address = r.address;
  link = r.link;
  stored = r.stored;
  out = r.out;
  class1 = by_class c q r.class1;
  class2 = by_class c r.class2 q;
  inbox = r.inbox;
}

pub queue_same : (c : Class) (q : Held Message) (r : Reader) → with_queue c q r ≡ rd.with_class c q r
queue_same First q r = refl
queue_same Second q r = refl

module _ (l : Link) (s : Station) (b : Bool) (k : ℕ) where
  hears_anew : (f : Live) → Pair s.reader.address l (open_for Reset b) f (view s) → l.set ≡ false → Good l s Reset b k (rd.answer rd.reset s.reader)
  hears_anew f p q =
      let r = rd.with_link (record { set = true; next = true }) None None s.reader in
      record {
        mode = resetting q;
        flying = answer_flies (record { ending = Done; understood = acks_reset r; back = goes_ack r; meant = of_reset (λ x. (refl, refl)) }) (λ c. absurd c);
        requests = p.requests;
        downs = p.downs;
        ups = marked_come s.reader.out s.up.handed s.up.arrived p.ups;
        outs = none_out (marked_all p.outs Doubtful);
      }

  hears_status_of : (f : Live) → Pair s.reader.address l (open_for Status b) f (view s) → Good l s Status b k (rd.answer rd.status s.reader)
  hears_status_of f p = record {
    mode = p.mode;
    flying = answer_flies (record { ending = Done; understood = tells_status s.reader; back = goes_status s.reader; meant = of_status }) (λ c. absurd c);
    requests = p.requests;
    downs = p.downs;
    ups = p.ups;
    outs = p.outs;
  }

  -- a repetition brings the stored answer
  again : (q : Request) (f : Live) (t : Telegram) → Pair s.reader.address l (open_for q b) f (view s) → s.reader.link.next ≡ not b
      → Carries s.reader.address (view s) q t (newest_hand_out s.up.handed) → Good l s q b k (rd.still_says t s.reader)
  again q f t p e u = record { mode = p.mode; flying = answer_flies u (λ x y. e); requests = p.requests; downs = p.downs; ups = p.ups; outs = p.outs }

  refusal : (q : Request) (f : Live) (x : Fault) → Pair s.reader.address l (open_for q b) f (view s) → Good l s q b k (Err x)
  refusal q f x p = record { mode = p.mode; flying = none_flies; requests = p.requests; downs = p.downs; ups = p.ups; outs = p.outs }

  -- a request with the expected bit: what every new answer leaves
  done_so : (q : Request) → Counted q → l.set ≡ true → l.next ≡ b → (f : Live) → Pair s.reader.address l (open_for q b) f (view s) → (t : Turn)
      → let v = view (turned k t s) in
      v.link.set ≡ true → v.link.next ≡ not b → v.stored ≡ Some t.answer
      → Carries s.reader.address v q t.answer (newest_hand_out v.handed) → SendsCome v.sends v.entered → HandOutsCome v.handed v.arrived → Handed v.out v.handed
      → Good l s q b k (Ok t)
  done_so q c lp lq f p t x y z u g h i =
      record { mode = taken c lp lq x y t.answer z u; flying = answer_flies u (λ w e. y); requests = p.requests; downs = g; ups = h; outs = i }

  took_in : (m : Message) (f : Live) (p : Pair s.reader.address l (open_for (Send m) b) f (view s)) → l.set ≡ true → l.next ≡ b
      → s.reader.link.set ≡ true → s.reader.link.next ≡ b → Home s.reader.out s.up.handed s.up.arrived → k ≡ newest_sent s.down.sends → Untaken (view s) (Send m)
      → (z : Bool) → Good l s (Send m) b k (rd.take_in z m s.reader)
  unfolding rd.take_in
  took_in m f p lp lq vp vq home kn (for_send n i e acc) true =
      let r = rd.turned None s.reader in
      done_so (Send m) tt lp lq f p (turn_of r (rd.says reply.Busy r) rd.busy s.reader.out) vp (ap not vq) refl
      (record { ending = Busy; understood = is_busy r m; back = goes_busy r; meant = of_busy n i e acc (λ y. refl) })
      p.downs (settled_come home p.ups) (none_out (marked_all p.outs Settled))
  took_in m f p lp lq vp vq home kn (for_send n i e acc) false =
      let r = rd.turned None (rd.with_inbox (put_in m s.reader.inbox) s.reader) in
      let kn' : k ≡ n = kn ∙ ap newest_sent e in
      done_so (Send m) tt lp lq f p (turn_of r (rd.says_briefly reply.Ack r) (rd.took m) s.reader.out) vp (ap not vq) refl
      (record { ending = Confirmed; understood = acks_send r m; back = goes_ack r; meant = of_confirmed n i s.down.entered e (ap (λ z. item z m ∷ s.down.entered) kn') acc (λ y. refl) })
      (rw (e, kn') (came tt acc)) (settled_come home p.ups) (none_out (marked_all p.outs Settled))

  gave_out : (c : Class) (f : Live) (p : Pair s.reader.address l (open_for (Poll c) b) f (view s)) → l.set ≡ true → l.next ≡ b
      → s.reader.link.set ≡ true → s.reader.link.next ≡ b → Home s.reader.out s.up.handed s.up.arrived
      → (z : List Message) → Good l s (Poll c) b k (rd.give_out z c s.reader)
  unfolding rd.give_out
  gave_out c f p lp lq vp vq home [] =
      let r = rd.turned None s.reader in
      done_so (Poll c) tt lp lq f p (turn_of r (rd.says_briefly reply.NoData r) rd.bare s.reader.out) vp (ap not vq) refl
      (record { ending = Empty; understood = has_none r c; back = goes_none r; meant = of_empty (λ y. refl) })
      p.downs (settled_come home p.ups) (none_out (marked_all p.outs Settled))
  gave_out c f p lp lq vp vq home (m ∷ ms) =
      let q = holding (rd.class_queue c s.reader) ms in
      let r = rd.turned (Some m) (with_queue c q s.reader) in
      subst (λ y. let r' = rd.turned (Some m) y in Good l s (Poll c) b k (Ok (turn_of r' (rd.says_data m r') (rd.gave c m) s.reader.out))) (queue_same c q s.reader)
      (done_so (Poll c) tt lp lq f p (turn_of r (rd.says_data m r) (rd.gave c m) s.reader.out) vp (ap not vq) refl
      (record { ending = Brought m; understood = brings r c m; back = goes_data r m; meant = of_data _ _ refl refl tt tt (settled_come home p.ups) (λ y. refl) })
      p.downs (lacks tt (settled_come home p.ups)) (one_out (marked_all p.outs Settled)))

  -- the request of the open exchange, heard in each mode
  pub unset_of : {v : View} → Mode s.reader.address l v (open_for Reset b) → l.set ≡ false
  unset_of (resetting p) = p
  unset_of (fresh c p q r t h u) = absurd c
  unset_of (taken c p q r t x y u) = absurd c
  unset_of (gone c p q r) = absurd c

  hears_taking : (m : Message) (f : Live) (p : Pair s.reader.address l (open_for (Send m) b) f (view s)) → k ≡ newest_sent s.down.sends
      → Mode s.reader.address l (view s) (open_for (Send m) b)
      → Good l s (Send m) b k (rd.count s.reader.link.set (beq b s.reader.link.next) (take m) s.reader)
  hears_taking m f p kn (fresh c lp lq vp vq h u) =
      subst (Good l s (Send m) b k) (sym (count_fresh s.reader b (take m) vp vq)) (took_in m f p lp lq vp vq h kn u (rd.dfc s.reader))
  hears_taking m f p kn (taken c lp lq vp vq t st u) =
      subst (Good l s (Send m) b k) (sym (count_again s.reader b (take m) t vp vq st)) (again (Send m) f t p vq u)
  hears_taking m f p kn (gone c lp lq vp) =
      let g = count_gone s.reader b (take m) vp in
      subst (Good l s (Send m) b k) (sym g.1) (refusal (Send m) f g.0 p)

  hears_giving : (d : Class) (f : Live) (p : Pair s.reader.address l (open_for (Poll d) b) f (view s))
      → Mode s.reader.address l (view s) (open_for (Poll d) b)
      → Good l s (Poll d) b k (rd.count s.reader.link.set (beq b s.reader.link.next) (give d) s.reader)
  hears_giving d f p (fresh c lp lq vp vq h u) =
      subst (Good l s (Poll d) b k) (sym (count_fresh s.reader b (give d) vp vq)) (gave_out d f p lp lq vp vq h (rd.class_queue d s.reader).records)
  hears_giving d f p (taken c lp lq vp vq t st u) =
      subst (Good l s (Poll d) b k) (sym (count_again s.reader b (give d) t vp vq st)) (again (Poll d) f t p vq u)
  hears_giving d f p (gone c lp lq vp) =
      let g = count_gone s.reader b (give d) vp in
      subst (Good l s (Poll d) b k) (sym g.1) (refusal (Poll d) f g.0 p)

  pub hearing : (q : Request) (f : Live) → Pair s.reader.address l (open_for q b) f (view s) → k ≡ newest_sent s.down.sends → (t : Telegram) → t ≡ request_telegram q b s.reader.address
      → Good l s q b k (hear_telegram t s.reader)
  hearing Reset f p kn t e =
      subst (Good l s Reset b k) (sym (ap (λ x. hear_telegram x s.reader) e ∙ hears_reset s.reader b)) (hears_anew f p (unset_of p.mode))
  hearing Status f p kn t e =
      subst (Good l s Status b k) (sym (ap (λ x. hear_telegram x s.reader) e ∙ hears_status s.reader b)) (hears_status_of f p)
  hearing (Send m) f p kn t e =
      subst (Good l s (Send m) b k) (sym (ap (λ x. hear_telegram x s.reader) e ∙ hears_send s.reader b m)) (hears_taking m f p kn p.mode)
  hearing (Poll d) f p kn t e =
      subst (Good l s (Poll d) b k) (sym (ap (λ x. hear_telegram x s.reader) e ∙ hears_poll s.reader b d)) (hears_giving d f p p.mode)
