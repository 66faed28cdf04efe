-- From what the parts of a call do to what the call answers and comes to.
use Rattle.std.proofs.Common.{◌≡◌, ℕ, suc, ◌+◌, ◌-◌, ◌<◌, Bool, true, false, cond, not, ltb, leb, List, [], ◌∷◌, ◌++◌, map, length, get_or, take, drop, Some, None, Ok, Err, Option, Result, sym, refl, ap, ◌∙◌, subst, ap₂, arith}
use lib.Seq.{take-append_seam}
use Rattle.account.proofs.Calls.{Asked, Ends, Timing, asks, closes, doubts, hears, opened, repeats, times}
use Rattle.account.specs.Books.{Station, asked, change, ended, found, newest_send, offered}
use Rattle.account.specs.Line as line
use Rattle.account.specs.Line.{Event, HeardAs, Octets, OctetsAsked, World, step}
use Rattle.damage.specs.Damages.{all_within, heard, hearing, only_if, rest, shortens, twice}
use Rattle.damage.specs.declared.DamageError.{DamageError}
use Rattle.damage.specs.declared.DamageError.TheVariants.{BeyondGuard, FlipOutside, FlipTwice, NothingCut}
use Rattle.damage.specs.declared.Flip.{Flip}
use Rattle.fault.specs.Causes.{fault}
use Rattle.fault.specs.declared.Cause.TheVariants.{BadStation, ShortBuffer}
use Rattle.fault.specs.declared.Fault.{Fault}
use Rattle.frame.specs.Contents.{Meaning}
use Rattle.frame.specs.Damage.{Damaged, Fits}
use Rattle.frame.specs.Laws.{SizeLaw}
use Rattle.frame.specs.Verdicts.{must}
use Rattle.frame.specs.declared.Format.{Ghosts}
use Rattle.line.proofs.Ways.{on_way_parts}
use Rattle.line.specs.Ways.{Silent, View, arrived, as_sent, joined, launched, on_way, open_to_join, sent_at}
use Rattle.readers.proofs.Found.{no_partner, place_some}
use Rattle.readers.specs.Pairs.{Changes, Paired, Tells, addresses}
use Rattle.readers.specs.Readers.{Added, Kept, ReadyAt, ShowsReader, at, place_of}
use Rattle.readers.specs.declared.Readers.{Readers}
use Rattle.rules.specs.Concentrator as co
use Rattle.rules.specs.Concentrator.{Asking, transmission}
use Rattle.rules.specs.Exchanges.{heard_after, heard_answer, sent_after, sent_answer, sent_buffer, timed_after, timed_answer, timed_buffer}
use Rattle.rules.specs.Messages.{within}
use Rattle.rules.specs.Reader as rd
use Rattle.rules.specs.Reader.{reader_check}
use Rattle.rules.specs.Records.{outcome_of}
use Rattle.rules.specs.Telegrams.{carried, telegram_read}
use Rattle.rules.specs.declared.records.Ending.TheVariants as ending
use Rattle.rules.specs.declared.records.Exchange.{Exchange}
use Rattle.rules.specs.declared.records.Outcome.{Outcome}
use Rattle.rules.specs.declared.records.ReaderPlan.{ReaderPlan}
use Rattle.rules.specs.declared.records.Request.{Request}
use Rattle.rules.specs.declared.telegram.Telegram.{Telegram}
use Rattle.site.proofs.Events.{doubted, hearing_ends, hearing_refused, is_heard, request_refused, request_sent, sent_again, sent_is, stands_joined, stands_lost, stands_offered, time_out_refused}
use Rattle.site.specs.Shown.{Memory, Stands, burst_of, ends_of, with_reader}
use Rattle.site.specs.Sites.{Concluded, Hears, Leads, Noted, ReadyFor, ReadyOnce, Repeats, Transmitted, begun, is_open, join_answer, joined_at, next_burst, number_of, sent_as, settled, symbols_of, taken_off, timed_as, trouble_of, undamaged, with_line, with_readers}
use Rattle.site.specs.Troubles.{is_made, no_memory, told}
use Rattle.site.specs.declared.trouble.TimedOut.{TimedOut}
use Rattle.site.specs.declared.trouble.TimedOut.TheVariants.{Repeated, Doubted}
use Rattle.site.specs.declared.trouble.Trouble.{Trouble}
use Rattle.site.specs.declared.trouble.Trouble.TheVariants.{Closed, NotOnWay, OutOfMemory, Refused}
use Rattle.station.specs.Refusals as refusals
use Rattle.station.specs.declared.Refusal.{Refusal}
use Rattle.station.specs.declared.Refusal.TheVariants as refusal
use Rattle.std.proofs.lemmas.Bool.{and_parts}
use Rattle.std.specs.Option.{option_map}

-- whatever is shown stays so where nothing changed
pub unaltered : (xs xs' : List Kept) → xs' ≡ xs → Changes ShowsReader xs xs' (λ ys. ys)
unaltered xs xs' e ys apart p = subst (λ z. Paired ShowsReader z ys) (sym e) p

-- a buffer that was lent, and filled to its length
pub filled : {A : Type 0} (n : ℕ) (b rest : List A) → length b ≡ n → take n (b ++ rest) ≡ b
filled n b rest h = ap (λ k. take k (b ++ rest)) (sym h) ∙ take-append_seam b rest

-- ## the station of a request

pub err_ok : {A X Y : Type 0} {f : Y} {x : X} → Err f ≡ Ok x → A
err_ok e = let z : ◌≡◌ {A = ℕ} 0 1 = cc in let w : ⊥ = omega arith in absurd w

pub ok_same : {X Y : Type 0} {x y : X} → ◌≡◌ {A = Result X Y} (Ok x) (Ok y) → x ≡ y
ok_same e = cc

opened_at : (o : Option Exchange) (y z : Bool) (a : ℕ) (v : Request) (k : co.Concentrator) (x : co.Sent) → co.opened o y z a v k ≡ Ok x → (x.exchange.station ≡ a) × (x.after.exchange ≡ Some x.exchange)
opened_at (Some p) y z a v k x e = err_ok e
opened_at None false z a v k x e = err_ok e
opened_at None true false a v k x e = err_ok e
opened_at None true true a v k x e = subst (λ s. (s.exchange.station ≡ a) × (s.after.exchange ≡ Some s.exchange)) (ok_same e) (refl, refl)

requested_as : (p : Result Request Fault) (a : ℕ) (k : co.Concentrator) (x : co.Sent) → co.request_as p a k ≡ Ok x → (x.exchange.station ≡ a) × (x.after.exchange ≡ Some x.exchange)
requested_as (Err f) a k x e = err_ok e
requested_as (Ok v) a k x e = opened_at k.exchange _ _ a v k x e

must_true : {A : Type 0} (z : Bool) (f : Fault) (r : Result A Fault) (x : A) → must z f r ≡ Ok x → z ≡ true
must_true true f r x e = refl
must_true false f r x e = err_ok e

must_pass : {A : Type 0} (z : Bool) (f : Fault) (r : Result A Fault) (x : A) → must z f r ≡ Ok x → r ≡ Ok x
must_pass true f r x e = e
must_pass false f r x e = err_ok e

pub asked_at : (short : Bool) (a : ℕ) (q : Asking) (k : co.Concentrator) (x : co.Sent) → co.request short a q k ≡ Ok x → (x.exchange.station ≡ a) × (x.after.exchange ≡ Some x.exchange)
asked_at short a q k x e = requested_as (co.request_of q) a k x (must_pass (within 1 32 a) (fault BadStation 0) _ x (must_pass (not short) (fault ShortBuffer 0) _ x e))

-- what was made ready for a request is ready for its exchange
pub ready_sent : {F : Type 0} (frame : Meaning → List ℕ) (short : Bool) (a : ℕ) (q : Asking) (k k₂ : co.Concentrator) (sent : Result ℕ Fault) (l : Readers F)
    → sent ≡ sent_answer frame (co.request short a q k) → k₂ ≡ sent_after (co.request short a q k) k → ReadyAt a l → ReadyOnce sent k₂.exchange l
ready_sent frame short a q k k₂ sent l s e r = go (co.request short a q k) (λ x is. asked_at short a q k x is) s e
  where
    go : (r₀ : Result co.Sent Fault) → ((x : co.Sent) → r₀ ≡ Ok x → (x.exchange.station ≡ a) × (x.after.exchange ≡ Some x.exchange))
        → sent ≡ sent_answer frame r₀ → k₂ ≡ sent_after r₀ k → ReadyOnce sent k₂.exchange l
    go (Err f) h s e = subst (λ z. ReadyOnce z k₂.exchange l) (sym s) tt
    go (Ok x) h s e =
        let p = h x refl in
        subst (λ z. ReadyOnce z k₂.exchange l) (sym s)
        (subst (λ z. ReadyFor z l) (sym (ap (λ z. z.exchange) e ∙ p.1)) (subst (λ z. ReadyAt z l) (sym p.0) r))

-- ## what is heard

-- what is heard with damage within the limits
pub heard_is : (width guard : ℕ) (cut : Option ℕ) (fs : List Flip) (ss l : List ℕ) → hearing width guard cut fs ss ≡ Ok l → l ≡ heard cut fs ss
heard_is width guard cut fs ss l h = go (shortens cut ss) (all_within (length (rest cut ss)) width fs) (not (twice fs)) (leb (length fs) guard) h
  where
    go : (p q r s : Bool)
        → only_if p NothingCut (only_if q FlipOutside (only_if r FlipTwice (only_if s BeyondGuard (Ok (heard cut fs ss))))) ≡ Ok l → l ≡ heard cut fs ss
    go false q r s e = err_ok e
    go true false r s e = err_ok e
    go true true false s e = err_ok e
    go true true true false e = err_ok e
    go true true true true e = sym (ok_same e)

told_memory : {A : Type 0} (x : Result A Fault) → no_memory (told x) ≡ false
told_memory (Ok x) = refl
told_memory (Err f) = refl

-- the answer of a call that was made on what was heard
pub told_so : {A : Type 0} (r : Result A Trouble) (x : Result A Fault) (on : Bool) (d : Result (List ℕ) DamageError) (l : List ℕ) (f : List ℕ → Result A Trouble)
    → r ≡ told x → told x ≡ f l → on ≡ true → d ≡ Ok l → r ≡ cond (no_memory r) (Err OutOfMemory) (cond on (undamaged d f) (Err NotOnWay))
told_so r x on d l f is t o e =
    let had : no_memory r ≡ false = ap no_memory is ∙ told_memory x in
    is ∙ t ∙ ap (λ z. undamaged z f) (sym e) ∙ ap (λ z. cond z (undamaged d f) (Err NotOnWay)) (sym o) ∙
    ap (λ z. cond z (Err OutOfMemory) (cond on (undamaged d f) (Err NotOnWay))) (sym had)

-- ## the end of a reader

same_addresses : (xs : List Kept) (ys : List Station) → Paired ShowsReader xs ys → map (λ x. x.reader.address) xs ≡ addresses ys
same_addresses [] [] p = refl
same_addresses [] (y ∷ ys) p = absurd p
same_addresses (x ∷ xs) [] p = absurd p
same_addresses (x ∷ xs) (y ∷ ys) p = ap₂ (λ r l. r.address ∷ l) p.0.0 (same_addresses xs ys p.1)

module _ {X : Type 0} (F : Ghosts X) where
  -- the end of the reader at a place
  pub reader_end : (m : Memory) (w : World) → Stands F m w → (a p : ℕ) → Some p ≡ place_of a m.readers
      → (get_or (ends_of w.stations) (suc p) 0 ≡ a) × (suc p < length (ends_of w.stations))
  reader_end m w st a p e =
      let same = same_addresses m.readers w.stations st.shown.readers in
      let q = subst (λ l. (p < length l) × (get_or l p 0 ≡ a)) same (place_some a (map (λ x. x.reader.address) m.readers) p (sym e)) in
      (q.1, omega (arith, q.0))

  -- a burst is lost at an end
  pub losses_come : (m m' : Memory) (i a k : ℕ) → on_way i k m.line ≡ true → m' ≡ with_line (arrived i k m.line) m
      → ((w : World) → Stands F m w → (get_or (ends_of w.stations) i 0 ≡ a) × (i < length (ends_of w.stations)))
      → (w : World) → Stands F m w → Stands F m' (step F (line.loses a (k - 1) (burst_of k w)) w)
  losses_come m m' i a k on e at_i w st =
      let late = (on_way_parts i k m.line on).0 in
      let back : suc (k - 1) ≡ k = omega (arith, late) in
      let p = at_i w st in
      let go : on_way i (suc (k - 1)) m.line ≡ true → m' ≡ with_line (arrived i (suc (k - 1)) m.line) m → Stands F m' (step F (line.loses a (k - 1) (burst_of (suc (k - 1)) w)) w) =
      λ on₁ e₁. stands_lost F m m' w st i a p.0 p.1 (k - 1) on₁ (ap (λ z. z.started) e₁) (ap (λ z. z.concentrator) e₁)
      (unaltered m.readers m'.readers (ap (λ z. z.readers) e₁)) (ap (λ z. z.line) e₁) in
      subst (λ z. on_way i z m.line ≡ true → m' ≡ with_line (arrived i z m.line) m → Stands F m' (step F (line.loses a (k - 1) (burst_of z w)) w)) back go on e

  -- a burst that is lost at an end, if it was on the way there
  pub losses_lead : (m m' : Memory) (i a k : ℕ) (r : Result (Unit {0}) Trouble) → r ≡ cond (on_way i k m.line) (Ok tt) (Err NotOnWay)
      → m' ≡ cond (on_way i k m.line) (with_line (arrived i k m.line) m) m
      → ((w : World) → Stands F m w → (get_or (ends_of w.stations) i 0 ≡ a) × (i < length (ends_of w.stations)))
      → Leads F (is_made r) m m' (λ w. line.loses a (k - 1) (burst_of k w))
  losses_lead m m' i a k r e q at_i = go (on_way i k m.line) refl e q
    where
      go : (z : Bool) → on_way i k m.line ≡ z → r ≡ cond z (Ok tt) (Err NotOnWay) → m' ≡ cond z (with_line (arrived i k m.line) m) m
          → Leads F (is_made r) m m' (λ w. line.loses a (k - 1) (burst_of k w))
      go true on e q = subst (λ z. Leads F (is_made z) m m' (λ w. line.loses a (k - 1) (burst_of k w))) (sym e) (losses_come m m' i a k on q at_i)
      go false on e q = subst (λ z. Leads F (is_made z) m m' (λ w. line.loses a (k - 1) (burst_of k w))) (sym e) q

  -- a reader joins
  pub joins_come : (m m' : Memory) (f : ReaderPlan) (xs : List Kept) → is_open m ≡ true → None ≡ place_of f.address m.readers
      → Ok tt ≡ reader_check f.address f.class1 f.class2 f.inbox → Added f m.readers xs → m' ≡ with_line (joined m.line) (with_readers xs m)
      → (Ok tt ≡ join_answer f m) × ((w : World) → Stands F m w → Stands F m' (with_reader f w))
  joins_come m m' f xs ok none checked new e =
      let parts = and_parts (not m.started) (open_to_join m.line) ok in
      let off : m.started ≡ false = unset m.started parts.0 in
      let known : within 1 32 f.address ≡ true = must_true (within 1 32 f.address) (fault BadStation 0) _ tt (sym checked) in (
        ap told checked ∙ ap (λ o. joined_at o (reader_check f.address f.class1 f.class2 f.inbox)) none
            ∙ ap (λ z. cond z (joined_at (place_of f.address m.readers) (reader_check f.address f.class1 f.class2 f.inbox)) (Err Closed)) (sym ok),
        λ w st. stands_joined F m m' w st f off (ap (λ z. z.started) e ∙ off) known (no_partner f.address m.readers none w.stations st.shown.readers)
            (ap (λ z. z.concentrator) e) new.0 (ap (λ z. z.readers) e ∙ new.1) new.2 (ap (λ z. z.line) e) parts.1,
      )
    where
      unset : (z : Bool) → not z ≡ true → z ≡ false
      unset true h = sym h
      unset false h = refl

  -- what a call answers and comes to, unless there is no memory
  abbrev pub Comes : {A : Type 0} → Result A Trouble → Result A Trouble → Memory → Memory → (World → Event) → Type 0
  Comes r answer m m' e = (r ≡ cond (no_memory r) (Err OutOfMemory) answer) × Leads F (is_made r) m m' e

  -- a call that gave its answer, and led on
  answers : {A : Type 0} (r answer : Result A Trouble) (m m' : Memory) (e : World → Event) → r ≡ answer → no_memory answer ≡ false → is_made answer ≡ true
      → ((w : World) → Stands F m w → Stands F m' (step F (e w) w)) → Comes r answer m m' e
  answers r answer m m' e is n y k =
      subst (λ z. Comes z answer m m' e) (sym is)
      (sym (ap (λ z. cond z (Err OutOfMemory) answer) n), subst (λ z. Leads F z m m' e) (sym y) k)

  module _ (m m₂ m' : Memory) (short : Bool) (a : ℕ) (q : Asking) (lim : OctetsAsked q) (b₀ b₁ : List ℕ) (sent : Result ℕ Fault) (r : Result ℕ Trouble)
      (readers : m₂.readers ≡ m.readers) (same : m₂.line ≡ m.line) where
    abbrev event : World → Event
    event w = line.requests short a q

    request_goes : (r₀ : Result co.Sent Fault) → co.request short a q m.concentrator ≡ r₀ → Asked m.concentrator r₀ → sent ≡ sent_answer F.frame r₀
        → m₂.concentrator ≡ sent_after r₀ m.concentrator → b₁ ≡ sent_buffer F.frame r₀ b₀ → Transmitted sent b₁ m₂ m' r → Comes r (sent_as m r₀) m m' event
    request_goes (Err f) is h s k b t =
        let t' : Transmitted (Err f) b₁ m₂ m' r = subst (λ z. Transmitted z b₁ m₂ m' r) s t in
        let e = t'.1 in
        answers r (Err (Refused f)) m m' event t'.0 refl refl (λ w st. request_refused F m m' w st (ap (λ z. z.started) e) short a q lim f is
        (record { concentrator = ap (λ z. z.concentrator) e ∙ k; readers = unaltered m.readers m'.readers (ap (λ z. z.readers) e ∙ readers); line = ap (λ z. z.line) e ∙ same }))
    request_goes (Ok x) is (opened a' v k₁ k₂ k₃ k₄ k₅) s k b t =
        let frame = F.frame (carried (transmission x.exchange)) in
        let t' : Transmitted (Ok (length frame)) b₁ m₂ m' r = subst (λ z. Transmitted z b₁ m₂ m' r) s t in
        let n = t'.0 in
        let m₁ = t'.1 in
        let opened_now : m₂.concentrator.exchange ≡ Some x.exchange = ap (λ z. z.exchange) k in
        let noted : Noted (Some x.exchange) n (begun m₂) m₁ = subst (λ z. Noted z n (begun m₂) m₁) opened_now t'.2 in
        let e = t'.3 in
        let front : take (length frame) b₁ ≡ frame = ap (take (length frame)) b ∙ take-append_seam frame (drop (length frame) b₀) in
        let line_is : m'.line ≡ launched (as_sent frame n) m.line = ap (λ z. z.line) e ∙ ap₂ (λ y v. launched (as_sent y n) v) front (noted.3 ∙ same) in
        answers r (Ok (next_burst m)) m m' event (t'.4 ∙ ap (λ v. Ok (length v.bursts + 1)) (noted.3 ∙ same)) refl refl (λ w st.
        request_sent F m m' w st (ap (λ z. z.started) e ∙ noted.4) short a q lim x n is (ap (λ z. z.concentrator) e ∙ noted.0 ∙ k)
        (subst (λ z. Changes ShowsReader z m'.readers (change x.exchange.station (asked x.exchange.request))) readers
        (subst (λ z. Changes ShowsReader m₂.readers z (change x.exchange.station (asked x.exchange.request))) (sym (ap (λ z. z.readers) e)) noted.1))
        (subst (λ z. Tells ShowsReader z (λ ys. n ≡ newest_send (found x.exchange.station ys))) (sym (ap (λ z. z.readers) e)) noted.2)
        line_is)

  -- a request, after what it needs was prepared: m₁ is the memory then
  pub requests_come : (m m₁ m₂ m' : Memory) (places : ℕ) (a : ℕ) (q : Asking) → OctetsAsked q → (b₀ b₁ : List ℕ) (sent : Result ℕ Fault) (r : Result ℕ Trouble)
      → m₁ ≡ m → length b₀ ≡ places → m₂.readers ≡ m₁.readers → m₂.line ≡ m₁.line
      → sent ≡ sent_answer F.frame (co.request (ltb (length b₀) F.LONGEST) a q m₁.concentrator)
      → m₂.concentrator ≡ sent_after (co.request (ltb (length b₀) F.LONGEST) a q m₁.concentrator) m₁.concentrator
      → b₁ ≡ sent_buffer F.frame (co.request (ltb (length b₀) F.LONGEST) a q m₁.concentrator) b₀
      → Transmitted sent b₁ m₂ m' r
      → Comes r (sent_as m (co.request (ltb places F.LONGEST) a q m.concentrator)) m m' (λ w. line.requests (ltb places F.LONGEST) a q)
  requests_come m m₁ m₂ m' places a q lim b₀ b₁ sent r e n readers same s k b t =
      subst (λ z. Comes r (sent_as z (co.request (ltb places F.LONGEST) a q z.concentrator)) z m' (λ w. line.requests (ltb places F.LONGEST) a q)) e
      (subst (λ p. Comes r (sent_as m₁ (co.request (ltb p F.LONGEST) a q m₁.concentrator)) m₁ m' (λ w. line.requests (ltb p F.LONGEST) a q)) n
      (request_goes m₁ m₂ m' (ltb (length b₀) F.LONGEST) a q lim b₀ b₁ sent r readers same _ refl (asks m₁.concentrator a (ltb (length b₀) F.LONGEST) q lim) s k b t))

  -- ## a time-out

  -- what the code makes of what the concentrator answered
  abbrev pub TimedSo : Option Exchange → Memory → Memory → List ℕ → Result TimedOut Trouble → Result ℕ Fault → Type 0
  TimedSo x m m' symbols r (Err f) = (r ≡ Err (Refused f)) × (m' ≡ begun m)
  TimedSo x m m' symbols r (Ok count) = (t : TimedOut) × (r ≡ Ok t) × Repeats x m.concentrator.exchange (take count symbols) (begun m) m' t

  module _ (m m₂ m' : Memory) (short : Bool) (silent : Silent m.line) (b₀ b₁ : List ℕ) (timed : Result ℕ Fault) (r : Result TimedOut Trouble)
      (readers : m₂.readers ≡ m.readers) (same : m₂.line ≡ m.line) where
    abbrev timing : World → Event
    timing w = line.times_out short

    abbrev TimedNow : Result ℕ Fault → Type 0
    TimedNow = TimedSo m.concentrator.exchange m₂ m' b₁ r

    time_out_goes : (r₀ : Result co.Timed Fault) → co.time_out short m.concentrator ≡ r₀ → Timing m.concentrator r₀ → timed ≡ timed_answer F.frame r₀
        → m₂.concentrator ≡ timed_after r₀ m.concentrator → b₁ ≡ timed_buffer F.frame r₀ b₀ → TimedNow timed → Comes r (timed_as m r₀) m m' timing
    time_out_goes (Err f) is h s k b t =
        let t' : TimedNow (Err f) = subst TimedNow s t in
        let e = t'.1 in
        answers r (Err (Refused f)) m m' timing t'.0 refl refl (λ w st. time_out_refused F m m' w st (ap (λ z. z.started) e) short silent f is
        (record { concentrator = ap (λ z. z.concentrator) e ∙ k; readers = unaltered m.readers m'.readers (ap (λ z. z.readers) e ∙ readers); line = ap (λ z. z.line) e ∙ same }))
    time_out_goes (Ok z) is (repeats x was) s k b t =
        let x' = co.once_more x in
        let frame = F.frame (carried (transmission x')) in
        let t' : TimedNow (Ok (length frame)) = subst TimedNow s t in
        let now : m₂.concentrator.exchange ≡ Some x' = ap (λ y. y.exchange) k in
        let so : Repeats (Some x) (Some x') (take (length frame) b₁) (begun m₂) m' t'.0 = subst (λ y. Repeats y (Some x') (take (length frame) b₁) (begun m₂) m' t'.0) was
        (subst (λ y. Repeats m.concentrator.exchange y (take (length frame) b₁) (begun m₂) m' t'.0) now t'.2) in
        let n = so.1.0 in
        let e = so.1.2 in
        let front : take (length frame) b₁ ≡ frame = ap (take (length frame)) b ∙ take-append_seam frame (drop (length frame) b₀) in
        let line_is : m'.line ≡ launched (as_sent frame n) m.line = ap (λ y. y.line) e ∙ ap₂ (λ y v. launched (as_sent y n) v) front same in
        let readers_are : m'.readers ≡ m.readers = ap (λ y. y.readers) e ∙ readers in
        answers r (Ok (Repeated (next_burst m))) m m' timing (t'.1 ∙ ap Ok so.0 ∙ ap (λ v. Ok (Repeated (length v.bursts + 1))) same) refl refl (λ w st.
        sent_again F m m' w st (ap (λ y. y.started) e) short silent (record { exchange = x'; after = co.with_exchange (Some x') m.concentrator }) n is
        (ap (λ y. y.concentrator) e ∙ k) (unaltered m.readers m'.readers readers_are)
        (subst (λ y. Tells ShowsReader y (λ ys. n ≡ newest_send (found x.station ys))) (sym (ap (λ y. y.readers) e)) so.1.1) line_is)
    time_out_goes (Ok z) is (doubts x was) s k b t =
        let t' : TimedNow (Ok 0) = subst TimedNow s t in
        let now : m₂.concentrator.exchange ≡ None = ap (λ y. y.exchange) k in
        let so : Repeats (Some x) None (take 0 b₁) (begun m₂) m' t'.0 = subst (λ y. Repeats y None (take 0 b₁) (begun m₂) m' t'.0) was
        (subst (λ y. Repeats m.concentrator.exchange y (take 0 b₁) (begun m₂) m' t'.0) now t'.2) in
        let c = so.1 in
        answers r (Ok Doubted) m m' timing (t'.1 ∙ ap Ok so.0) refl refl (λ w st.
        doubted F m m' w st c.3 short silent (co.closing x ending.Doubted co.no_flags m.concentrator) is (c.0 ∙ k)
        (subst (λ y. Changes ShowsReader y m'.readers (change x.station (ended 0 x.request ending.Doubted))) readers (c.1 ending.Doubted refl)) (c.2 ∙ same))

  -- a time-out, after what it needs was prepared: m₁ is the memory then
  pub time_outs_come : (m m₁ m₂ m' : Memory) (places : ℕ) → Silent m.line → (x : Option Exchange) → x ≡ m.concentrator.exchange → (b₀ b₁ : List ℕ) (timed : Result ℕ Fault) (r : Result TimedOut Trouble)
      → m₁ ≡ m → length b₀ ≡ places → m₂.readers ≡ m₁.readers → m₂.line ≡ m₁.line
      → timed ≡ timed_answer F.frame (co.time_out (ltb (length b₀) F.LONGEST) m₁.concentrator)
      → m₂.concentrator ≡ timed_after (co.time_out (ltb (length b₀) F.LONGEST) m₁.concentrator) m₁.concentrator
      → b₁ ≡ timed_buffer F.frame (co.time_out (ltb (length b₀) F.LONGEST) m₁.concentrator) b₀
      → TimedSo x m₂ m' b₁ r timed
      → Comes r (timed_as m (co.time_out (ltb places F.LONGEST) m.concentrator)) m m' (λ w. line.times_out (ltb places F.LONGEST))
  time_outs_come m m₁ m₂ m' places silent x was b₀ b₁ timed r e n readers same s k b t =
      let t' : TimedSo m₁.concentrator.exchange m₂ m' b₁ r timed = subst (λ z. TimedSo z m₂ m' b₁ r timed) (was ∙ ap (λ z. z.concentrator.exchange) (sym e)) t in
      let short = ltb (length b₀) F.LONGEST in
      subst (λ z. Comes r (timed_as z (co.time_out (ltb places F.LONGEST) z.concentrator)) z m' (λ w. line.times_out (ltb places F.LONGEST))) e
      (subst (λ p. Comes r (timed_as m₁ (co.time_out (ltb p F.LONGEST) m₁.concentrator)) m₁ m' (λ w. line.times_out (ltb p F.LONGEST))) n
      (time_out_goes m₁ m₂ m' short (subst (λ z. Silent z.line) (sym e) silent) b₀ b₁ timed r readers same _ refl (times m₁.concentrator short) s k b t'))

  -- ## a reader's offer

  offer_lack : {A : Type 0} (f : Kept → Result A Refusal) (ro : Result A Refusal) (o : Option Kept) → refusals.no_memory ro ≡ false
      → Some ro ≡ option_map (λ x. cond (refusals.no_memory ro) (Err refusal.Memory) (f x)) o → Some ro ≡ option_map f o
  offer_lack f ro o n e = e ∙ ap (λ z. option_map (λ x. cond z (Err refusal.Memory) (f x)) o) n

  pub offers_come : (m m' : Memory) (xs : List Kept) (a class : ℕ) (os : List ℕ) → Octets os → (f : Kept → Result (Unit {0}) Refusal) (ro : Result (Unit {0}) Refusal) (r : Result (Unit {0}) Trouble)
      → r ≡ trouble_of (Some ro) → m' ≡ settled (is_made r) (with_readers xs m)
      → Changes ShowsReader m.readers xs (change a (λ s. cond (refusals.no_memory ro) s (offered (rd.offer class os s.reader) s)))
      → (not (refusals.no_memory ro) ≡ false → xs ≡ m.readers)
      → Some ro ≡ option_map (λ x. cond (refusals.no_memory ro) (Err refusal.Memory) (f x)) (at a m.readers)
      → Comes r (trouble_of (option_map f (at a m.readers))) m m' (λ w. line.offers a class os)
  offers_come m m' xs a class os oct f (Ok u) r is e c n h =
      let e' : m' ≡ begun (with_readers xs m) = e ∙ ap (λ z. settled (is_made z) (with_readers xs m)) is in
      let so : r ≡ trouble_of (option_map f (at a m.readers)) = is ∙ ap trouble_of (offer_lack f (Ok u) (at a m.readers) refl h) in
      answers r (trouble_of (option_map f (at a m.readers))) m m' _ so (ap no_memory (sym so ∙ is)) (ap is_made (sym so ∙ is)) (λ w st.
      stands_offered F m m' w st (ap (λ z. z.started) e') (ap (λ z. z.line) e') a class os oct (ap (λ z. z.concentrator) e')
      (subst (λ z. Changes ShowsReader m.readers z (change a (λ s. offered (rd.offer class os s.reader) s))) (sym (ap (λ z. z.readers) e')) c))
  offers_come m m' xs a class os oct f (Err (refusal.Fault x)) r is e c n h =
      let e' : m' ≡ begun (with_readers xs m) = e ∙ ap (λ z. settled (is_made z) (with_readers xs m)) is in
      let so : r ≡ trouble_of (option_map f (at a m.readers)) = is ∙ ap trouble_of (offer_lack f (Err (refusal.Fault x)) (at a m.readers) refl h) in
      answers r (trouble_of (option_map f (at a m.readers))) m m' _ so (ap no_memory (sym so ∙ is)) (ap is_made (sym so ∙ is)) (λ w st.
      stands_offered F m m' w st (ap (λ z. z.started) e') (ap (λ z. z.line) e') a class os oct (ap (λ z. z.concentrator) e')
      (subst (λ z. Changes ShowsReader m.readers z (change a (λ s. offered (rd.offer class os s.reader) s))) (sym (ap (λ z. z.readers) e')) c))
  offers_come m m' xs a class os oct f (Err refusal.Memory) r is e c n h =
      let e' : m' ≡ with_readers xs m = e ∙ ap (λ z. settled (is_made z) (with_readers xs m)) is in
      subst (λ z. Comes z (trouble_of (option_map f (at a m.readers))) m m' (λ w. line.offers a class os)) (sym is) (refl, e' ∙ ap (λ l. with_readers l m) (n refl))

  -- ## a burst that the concentrator hears

  module _ (size : SizeLaw F.WIDTH F.LONGEST F.frame) (m m₂ m' : Memory) (heard : List ℕ) (x : Option Exchange) (was : x ≡ m.concentrator.exchange)
      (outcome : Result Outcome Fault) (r : Result Outcome Trouble) (readers : m₂.readers ≡ m.readers) (same : m₂.line ≡ m.line) (j : ℕ) where
    -- burst k, which is burst j counted from 0
    abbrev HeardK : ℕ → Result co.Ended Fault → Type 0
    HeardK k r₀ =
        on_way 0 k m.line ≡ true →
        (Fits F.WIDTH (symbols_of (sent_at k m.line)) → Damaged F.WIDTH F.GUARD (symbols_of (sent_at k m.line)) heard) →
        Hears x k outcome m₂ m' r →
        (r ≡ told (heard_answer r₀)) × Leads F (is_made r) m m' (λ w. line.concentrator_hears j (burst_of k w) heard)

    heard_goes : (t : Result Telegram Fault) → telegram_read (F.verdict heard) ≡ t → (r₀ : Result co.Ended Fault) → co.hear (telegram_read (F.verdict heard)) m.concentrator ≡ r₀ → Ends m.concentrator t r₀
        → outcome ≡ heard_answer r₀ → m₂.concentrator ≡ heard_after r₀ m.concentrator → HeardK (suc j) r₀
    heard_goes t read (Err f) is h s k on d q =
        let q' : Hears x (suc j) (Err f) m₂ m' r = subst (λ z. Hears x (suc j) z m₂ m' r) s q in
        let e = q'.1 in (
          q'.0,
          subst (λ z. Leads F (is_made z) m m' (λ w. line.concentrator_hears j (burst_of (suc j) w) heard)) (sym q'.0) (λ w st.
              hearing_refused F m m' w st (ap (λ z. z.started) e) j on heard (heard_as w st on d) f is (ap (λ z. z.concentrator) e ∙ k)
              (unaltered m.readers m'.readers (ap (λ z. z.readers) e ∙ readers)) (ap (λ z. z.line) e ∙ ap (arrived 0 (suc j)) same)),
        )
      where
        heard_as : (w : World) (st : Stands F m w) → on_way 0 (suc j) m.line ≡ true
            → (Fits F.WIDTH (symbols_of (sent_at (suc j) m.line)) → Damaged F.WIDTH F.GUARD (symbols_of (sent_at (suc j) m.line)) heard) → HeardAs F (burst_of (suc j) w) heard
        heard_as w st on d = is_heard F m m' w st 0 0 refl (omega arith) j on size heard
            (subst (λ z. Fits F.WIDTH (symbols_of z) → Damaged F.WIDTH F.GUARD (symbols_of z) heard) (sent_is F m m' w st 0 0 refl (omega arith) j on) d)
    heard_goes t read (Ok y) is (closes {t = u} x' end open-was v) s k on d q =
        let q' : Hears x (suc j) (Ok (outcome_of end)) m₂ m' r = subst (λ z. Hears x (suc j) z m₂ m' r) s q in
        let n = number_of (sent_at (suc j) m₂.line) in
        let c : Concluded (Some x') n (outcome_of end) (taken_off 0 (suc j) m₂) m' = subst (λ z. Concluded z n (outcome_of end) (taken_off 0 (suc j) m₂) m') (was ∙ open-was) q'.1 in (
          q'.0,
          subst (λ z. Leads F (is_made z) m m' (λ w. line.concentrator_hears j (burst_of (suc j) w) heard)) (sym q'.0) (λ w st.
              let there = sent_is F m m' w st 0 0 refl (omega arith) j on in
              let number : n ≡ (burst_of (suc j) w).number = ap (λ z. number_of (sent_at (suc j) z)) same ∙ ap number_of there in
              let changed = subst (λ z. Changes ShowsReader z m'.readers (change x'.station (ended n x'.request end))) readers (c.1 end refl) in
              hearing_ends F m m' w st c.3 j on heard
              (is_heard F m m' w st 0 0 refl (omega arith) j on size heard (subst (λ z. Fits F.WIDTH (symbols_of z) → Damaged F.WIDTH F.GUARD (symbols_of z) heard) there d))
              y is (c.0 ∙ k) (subst (λ z. Changes ShowsReader m.readers m'.readers (change x'.station (ended z x'.request end))) number changed) (c.2 ∙ ap (arrived 0 (suc j)) same)),
        )

  pub hearings_come : SizeLaw F.WIDTH F.LONGEST F.frame → (m m₁ m₂ m' : Memory) (k : ℕ) (heard : List ℕ) (x : Option Exchange) → x ≡ m.concentrator.exchange
      → (outcome : Result Outcome Fault) (r : Result Outcome Trouble) → m₁ ≡ m → m₂.readers ≡ m₁.readers → m₂.line ≡ m₁.line
      → outcome ≡ heard_answer (co.hear (telegram_read (F.verdict heard)) m₁.concentrator) → m₂.concentrator ≡ heard_after (co.hear (telegram_read (F.verdict heard)) m₁.concentrator) m₁.concentrator
      → on_way 0 k m.line ≡ true → (Fits F.WIDTH (symbols_of (sent_at k m.line)) → Damaged F.WIDTH F.GUARD (symbols_of (sent_at k m.line)) heard) → Hears x k outcome m₂ m' r
      → (r ≡ told (heard_answer (co.hear (telegram_read (F.verdict heard)) m.concentrator))) × Leads F (is_made r) m m' (λ w. line.concentrator_hears (k - 1) (burst_of k w) heard)
  hearings_come size m m₁ m₂ m' k heard x was outcome r e readers same s a on d q =
      let back : suc (k - 1) ≡ k = counted k m.line on in
      let t = telegram_read (F.verdict heard) in
      subst (λ z. HeardK size m m₂ m' heard x was outcome r (readers ∙ ap (λ y. y.readers) e) (same ∙ ap (λ y. y.line) e) (k - 1) z (co.hear t m.concentrator)) back
      (heard_goes size m m₂ m' heard x was outcome r (readers ∙ ap (λ y. y.readers) e) (same ∙ ap (λ y. y.line) e) (k - 1) t refl (co.hear t m.concentrator) refl (hears m.concentrator t)
      (s ∙ ap (λ y. heard_answer (co.hear t y.concentrator)) e) (a ∙ ap (λ y. heard_after (co.hear t y.concentrator) y.concentrator) e))
      on d q
    where
      counted : (k : ℕ) (v : View) → on_way 0 k v ≡ true → suc (k - 1) ≡ k
      counted k v on = let late = (on_way_parts 0 k v on).0 in omega (arith, late)
