-- A burst that a reader hears: what it answers and comes to.
use Rattle.std.proofs.Common.{◌≡◌, ℕ, suc, ◌+◌, ◌-◌, Bool, true, false, cond, not, eqb, ltb, List, [], ◌∷◌, ◌++◌, length, take, drop, Some, None, Ok, Err, Option, Result, sym, refl, ap, ◌∙◌, subst, arith, MatchOption}
use lib.Seq.{take-append_seam}
use Rattle.account.proofs.Calls.{Turns, turns}
use Rattle.account.proofs.Stations.{all_found, all_of}
use Rattle.account.specs.Books.{Station, change, found, newest_hand_out, turned}
use Rattle.account.specs.Line as line
use Rattle.account.specs.Line.{Event, HeardAs, World, step}
use Rattle.damage.specs.declared.DamageError.{DamageError}
use Rattle.fault.specs.declared.Fault.{Fault}
use Rattle.frame.specs.Damage.{Damaged, Fits}
use Rattle.frame.specs.Laws.{SizeLaw}
use Rattle.frame.specs.declared.Format.{Ghosts}
use Rattle.line.proofs.Ways.{on_way_parts}
use Rattle.line.specs.Ways.{View, arrived, as_sent, changed_at, landed, launched, on_way, sent_at}
use Rattle.reader.specs.Hearing.{heard_answer, heard_buffer}
use Rattle.reader.specs.declared.Heard.{Heard}
use Rattle.readers.proofs.Addresses.{change_alike, change_nothing}
use Rattle.readers.proofs.Found.{Partners, partners}
use Rattle.readers.specs.Pairs.{Changes, Paired, Spaced, Tells, addresses}
use Rattle.readers.specs.Readers.{Kept, ShowsReader, at, handed_by, place_of}
use Rattle.rules.specs.Reader as rd
use Rattle.rules.specs.Reader.{Reader, Turn, mark_heard, record_after, took_in}
use Rattle.rules.specs.Telegrams.{carried, telegram_read}
use Rattle.rules.specs.declared.message.Message.{Message}
use Rattle.site.proofs.Addresses.{addresses_changed, lawful_spaced, turn_address}
use Rattle.site.proofs.Events.{is_heard, reader_answers, reader_refused, sent_is}
use Rattle.site.proofs.Steps.{err_ok, filled, ok_same, reader_end}
use Rattle.site.proofs.Ways.{length_changed}
use Rattle.site.specs.Shown.{Memory, Stands, burst_of}
use Rattle.site.specs.Sites.{Answered, Leads, answered_as, at_end, marked_by, next_burst, number_of, symbols_of, taken_off, undamaged, with_line, with_readers}
use Rattle.site.specs.Troubles.{is_made, no_memory}
use Rattle.site.specs.declared.trouble.Answer.{Answer}
use Rattle.site.specs.declared.trouble.Trouble.{Trouble}
use Rattle.site.specs.declared.trouble.Trouble.TheVariants.{NotOnWay, OutOfMemory}
use Rattle.station.specs.Refusals as refusals
use Rattle.station.specs.Refusals.{told}
use Rattle.station.specs.Shown as stations
use Rattle.station.specs.declared.Refusal.{Refusal}
use Rattle.station.specs.declared.Refusal.TheVariants as refusal
use Rattle.std.specs.Option.{option_map}
use Rattle.std.proofs.lemmas.Option.{none-some, same_Some}

fault_same : {X : Type 0} {f g : Fault} → ◌≡◌ {A = Result X Refusal} (Err (refusal.Fault f)) (Err (refusal.Fault g)) → f ≡ g
fault_same e = cc

-- a burst that comes to an end is still a burst
length_arrived : (e k : ℕ) (v : View) → length (arrived e k v).bursts ≡ length v.bursts
length_arrived e k v = go (on_way e k v)
  where
    go : (z : Bool) → length (cond z (record { bursts = changed_at (k - 1) (landed e) v.bursts; quiet = v.quiet; ends = v.ends }) v).bursts ≡ length v.bursts
    go true = length_changed (k - 1) (landed e) v.bursts
    go false = refl

-- the reader that is found after a change of it
found_changed : (a : ℕ) (g : Station → Station) (l : List Station) (s : Station) → found a l ≡ Some s → (g s).reader.address ≡ s.reader.address → found a (change a g l) ≡ Some (g s)
found_changed a g [] s e h = absurd (none-some _ e)
found_changed a g (t ∷ l) s e h = go (eqb t.reader.address a) refl e (λ d. found_changed a g l s d h)
  where
    go : (z : Bool) → eqb t.reader.address a ≡ z → cond z (Some t) (found a l) ≡ Some s → (found a l ≡ Some s → found a (change a g l) ≡ Some (g s))
        → found a (cond z (g t) t ∷ change a g l) ≡ Some (g s)
    go true is d k =
        let q = same_Some _ _ d in
        let same : eqb (g t).reader.address a ≡ true = subst (λ u. eqb (g u).reader.address a ≡ true) (sym q) (ap (λ b. eqb b a) h ∙ subst (λ u. eqb u.reader.address a ≡ true) q is) in
        ap (λ z. cond z (Some (g t)) (found a (change a g l))) same ∙ ap (λ u. Some (g u)) q
    go false is d k = ap (λ z. cond z (Some t) (found a (change a g l))) is ∙ k d

module _ {X : Type 0} (F : Ghosts X) (short : Bool) (heard : List ℕ) where
  abbrev pub turn_of : Reader → Result Turn Fault
  turn_of r = rd.hear short (telegram_read (F.verdict heard)) r

  -- a station after it
  abbrev pub after : ℕ → Station → Station
  after n s = stations.heard n (turn_of s.reader) s

  after_address : (n : ℕ) (s : Station) → (after n s).reader.address ≡ s.reader.address
  after_address n s = go (turn_of s.reader) (turns s.reader short (telegram_read (F.verdict heard)))
    where
      go : (t : Result Turn Fault) → Turns s.reader t → (stations.heard n t s).reader.address ≡ s.reader.address
      go (Err f) h = refl
      go (Ok t) h = turn_address s.reader t h

  -- a refused hearing changes no reader
  refused_changes : (n a : ℕ) (xs xs' : List Kept) (x : Kept) (f : Fault) → at a xs ≡ Some x → turn_of x.reader ≡ Err f → Changes ShowsReader xs xs' (change a (after n)) → Changes ShowsReader xs xs' (λ ys. ys)
  refused_changes n a xs xs' x f is t c ys apart p =
      let q : Partners a (Some x) ys = subst (λ o. Partners a o ys) is (partners a xs ys p) in
      let s = q.0 in
      let none : after n s ≡ s = ap (λ z. stations.heard n z s) (ap turn_of (sym q.2.0) ∙ t) in
      subst (Paired ShowsReader xs') (change_alike a (after n) (λ o. o) ys s apart q.1 none ∙ change_nothing a (λ o. o) ys (λ o. refl)) (c ys apart p)

  -- what the answer of the code says of the turn
  turn_refused : (t : Result Turn Fault) (f : Fault) → Err (refusal.Fault f) ≡ told (heard_answer F t) → t ≡ Err f
  turn_refused (Err g) f e = ap Err (sym (fault_same e))
  turn_refused (Ok t) f e = err_ok e

  abbrev told_of : Turn → Heard
  told_of t = record { count = length (F.frame (carried t.answer)); taken = took_in t.deed; mark = t.mark }

  turn_made : (t : Result Turn Fault) (h : Heard) → Ok h ≡ told (heard_answer F t) → (u : Turn) × (t ≡ Ok u) × (h ≡ told_of u)
  turn_made (Err g) h e = err_ok (sym e)
  turn_made (Ok t) h e = (t, refl, ok_same e)

  -- the answer at the end of a reader, if there was memory
  abbrev pub TurnedSo : Memory → Memory → ℕ → ℕ → ℕ → Option Kept → Message → Message → Result Answer Trouble → Type 0
  TurnedSo m m' a j k o old new r =
      (r ≡ cond (no_memory r) (Err OutOfMemory) (answered_as m (option_map (λ x. turn_of x.reader) o))) ×
      (new ≡ marked_by r o old) ×
      Leads F (is_made r) m m' (λ w. line.reader_hears short a j (burst_of k w) heard)

  module _ (size : SizeLaw F.WIDTH F.LONGEST F.frame) (m m' : Memory) (xs : List Kept) (a p j : ℕ) (placed : Some p ≡ place_of a m.readers)
      (b₀ b₁ : List ℕ) (x : Kept) (is : at a m.readers ≡ Some x) (old new : Message) (r : Result Answer Trouble) where
    abbrev i : ℕ
    i = suc p

    abbrev n : ℕ
    n = number_of (sent_at (suc j) m.line)

    module _ (on : on_way i (suc j) m.line ≡ true)
        (d : Fits F.WIDTH (symbols_of (sent_at (suc j) m.line)) → Damaged F.WIDTH F.GUARD (symbols_of (sent_at (suc j) m.line)) heard) where
      number_is : (w : World) (st : Stands F m w) → n ≡ (burst_of (suc j) w).number
      number_is w st = let q = reader_end F m w st a p placed in ap number_of (sent_is F m m' w st i a q.0 q.1 j on)

      heard_as : (w : World) (st : Stands F m w) → HeardAs F (burst_of (suc j) w) heard
      heard_as w st =
          let q = reader_end F m w st a p placed in
          is_heard F m m' w st i a q.0 q.1 j on size heard
          (subst (λ z. Fits F.WIDTH (symbols_of z) → Damaged F.WIDTH F.GUARD (symbols_of z) heard) (sent_is F m m' w st i a q.0 q.1 j on) d)

      -- the partner on the line
      partner_at : (w : World) → Stands F m w → Partners a (Some x) w.stations
      partner_at w st = subst (λ o. Partners a o w.stations) is (partners a m.readers w.stations st.shown.readers)

      goes_refused : (f : Fault) → turn_of x.reader ≡ Err f → Changes ShowsReader m.readers xs (change a (after n)) → m' ≡ taken_off i (suc j) (with_readers xs m)
          → (w : World) → Stands F m w → Stands F m' (step F (line.reader_hears short a j (burst_of (suc j) w) heard) w)
      goes_refused f t c e w st =
          let q = reader_end F m w st a p placed in
          let o = partner_at w st in
          reader_refused F m m' w st i a q.0 q.1 j on (ap (λ z. z.started) e) short heard (heard_as w st) o.0 o.1 f (ap turn_of (sym o.2.0) ∙ t)
          (ap (λ z. z.concentrator) e)
          (subst (λ z. Changes ShowsReader m.readers z (λ ys. ys)) (sym (ap (λ z. z.readers) e)) (refused_changes n a m.readers xs x f is t c))
          (ap (λ z. z.line) e)

      goes_answered : (t : Turn) (n' : ℕ) → turn_of x.reader ≡ Ok t → Changes ShowsReader m.readers xs (change a (after n)) → Tells ShowsReader xs (λ ys. n' ≡ handed_by (found a ys))
          → b₁ ≡ heard_buffer F (Ok t) b₀
          → m' ≡ with_line (launched (as_sent (take (length (F.frame (carried t.answer))) b₁) n') (arrived i (suc j) m.line)) (taken_off i (suc j) (with_readers xs m))
          → (w : World) → Stands F m w → Stands F m' (step F (line.reader_hears short a j (burst_of (suc j) w) heard) w)
      goes_answered t n' is-t c tell b e w st =
          let q = reader_end F m w st a p placed in
          let o = partner_at w st in
          let s = o.0 in
          let turn : turn_of s.reader ≡ Ok t = ap turn_of (sym o.2.0) ∙ is-t in
          let frame = F.frame (carried t.answer) in
          let apart = lawful_spaced F m.started w st.lawful in
          let ys = change a (after n) w.stations in
          let same : addresses ys ≡ addresses w.stations = addresses_changed a (after n) w.stations (λ y h. after_address n y) in
          let there = found_changed a (after n) w.stations s o.1 (after_address n s) in
          let becomes : after n s ≡ turned (burst_of (suc j) w).number t s = ap (λ z. stations.heard n z s) turn ∙ ap (λ z. turned z t s) (number_is w st) in
          let counted : n' ≡ newest_hand_out (turned (burst_of (suc j) w).number t s).up.handed =
          tell ys (subst Spaced (sym same) apart) (c w.stations apart st.shown.readers) ∙ ap handed_by there ∙ ap (λ z. newest_hand_out z.up.handed) becomes in
          let front : take (length frame) b₁ ≡ frame = ap (take (length frame)) b ∙ take-append_seam frame (drop (length frame) b₀) in
          reader_answers F m m' w st i a q.0 q.1 j on (ap (λ z. z.started) e) short heard (heard_as w st) s o.1 t n' (after n) turn
          (all_found (λ y. Unit {0}) a w.stations s o.1 (all_of (λ y. Unit {0}) w.stations (λ y. tt))).1 becomes (ap (λ z. z.concentrator) e)
          (subst (λ z. Changes ShowsReader m.readers z (change a (after n))) (sym (ap (λ z. z.readers) e)) c) counted
          (ap (λ z. z.line) e ∙ ap (λ y. launched (as_sent y n') (arrived i (suc j) m.line)) front)

      -- by what the reader's code answered
      turn_goes : (ho : Result Heard Refusal) → ho ≡ cond (refusals.no_memory ho) (Err refusal.Memory) (told (heard_answer F (turn_of x.reader)))
          → new ≡ cond (refusals.no_memory ho) old (record_after (mark_heard (turn_of x.reader)) x.reader.out old)
          → b₁ ≡ cond (refusals.no_memory ho) b₀ (heard_buffer F (turn_of x.reader) b₀)
          → Changes ShowsReader m.readers xs (change a (λ s. cond (refusals.no_memory ho) s (after n s))) → (not (refusals.no_memory ho) ≡ false → xs ≡ m.readers)
          → Answered a i (suc j) ho b₁ (with_readers xs m) m' r → TurnedSo m m' a j (suc j) (Some x) old new r
      turn_goes (Err refusal.Memory) h kept b c u q =
          subst (λ z. TurnedSo m m' a j (suc j) (Some x) old new z) (sym q.0) (refl, kept, q.1 ∙ ap (λ l. with_readers l m) (u refl))
      turn_goes (Err (refusal.Fault f)) h kept b c u q =
          let t = turn_refused (turn_of x.reader) f h in
          subst (λ z. TurnedSo m m' a j (suc j) (Some x) old new z) (sym q.0)
          (sym (ap (λ z. answered_as m (Some z)) t), kept ∙ ap (λ z. record_after (mark_heard z) x.reader.out old) t, goes_refused f t c q.1)
      turn_goes (Ok h') h kept b c u q =
          let made = turn_made (turn_of x.reader) h' h in
          let t = made.0 in
          let told_is : h' ≡ told_of t = made.2 in
          let q' : Answered a i (suc j) (Ok (told_of t)) b₁ (with_readers xs m) m' r = subst (λ z. Answered a i (suc j) (Ok z) b₁ (with_readers xs m) m' r) told_is q in
          let r_is : r ≡ Ok (record { burst = next_burst m; taken = took_in t.deed; mark = t.mark }) =
          q'.3 ∙ ap (λ z. Ok (record { burst = z + 1; taken = took_in t.deed; mark = t.mark })) (length_arrived i (suc j) m.line) in
          subst (λ z. TurnedSo m m' a j (suc j) (Some x) old new z) (sym r_is) (
            sym (ap (λ z. answered_as m (Some z)) made.1),
            kept ∙ ap (λ z. record_after (mark_heard z) x.reader.out old) made.1,
            goes_answered t q'.0 made.1 c q'.1 (b ∙ ap (λ z. heard_buffer F z b₀) made.1) q'.2,
          )

-- what the parts of the call did, where burst is what was handed to the reader's code
pub record Parts {X : Type 0} (F : Ghosts X) (m : Memory) (short : Bool) (burst b₀ b₁ : List ℕ) (number : ℕ) (xs : List Kept) (a end k : ℕ) (ho : Result Heard Refusal) (old new : Message) (m' : Memory) (r : Result Answer Trouble) : Type 0 where
  pub told_so : Some ho ≡ option_map (λ x. cond (refusals.no_memory ho) (Err refusal.Memory) (told (heard_answer F (turn_of F short burst x.reader)))) (at a m.readers)
  pub kept_so : MatchOption (at a m.readers) (new ≡ old) (λ x. new ≡ cond (refusals.no_memory ho) old (record_after (mark_heard (turn_of F short burst x.reader)) x.reader.out old))
  pub written_so : MatchOption (at a m.readers) (b₁ ≡ b₀) (λ x. b₁ ≡ cond (refusals.no_memory ho) b₀ (heard_buffer F (turn_of F short burst x.reader) b₀))
  pub shown_so : Changes ShowsReader m.readers xs (change a (λ s. cond (refusals.no_memory ho) s (after F short burst number s)))
  pub unmade_so : not (refusals.no_memory ho) ≡ false → xs ≡ m.readers
  pub answered_so : Answered a end k ho b₁ (with_readers xs m) m' r

module _ {X : Type 0} (F : Ghosts X) (size : SizeLaw F.WIDTH F.LONGEST F.frame) (m m₁ m' : Memory) (places : ℕ) (burst heard b₀ b₁ : List ℕ) (number : ℕ) (xs : List Kept) (a p k : ℕ)
    (ho : Result Heard Refusal) (old new : Message) (r : Result Answer Trouble) where
  abbrev brief : Bool
  brief = ltb (length b₀) F.LONGEST

  pub turns_come : m₁ ≡ m → length b₀ ≡ places → burst ≡ heard → number ≡ number_of (sent_at k m.line) → Some p ≡ place_of a m.readers → on_way (suc p) k m.line ≡ true
      → (Fits F.WIDTH (symbols_of (sent_at k m.line)) → Damaged F.WIDTH F.GUARD (symbols_of (sent_at k m.line)) heard)
      → Parts F m₁ brief burst b₀ b₁ number xs a (suc p) k ho old new m' r
      → TurnedSo F (ltb places F.LONGEST) heard m m' a (k - 1) k (at a m.readers) old new r
  turns_come e l b n placed on d parts =
      let late = (on_way_parts (suc p) k m.line on).0 in
      let back : suc (k - 1) ≡ k = omega (arith, late) in
      let p₁ = subst (λ z. Parts F z brief burst b₀ b₁ number xs a (suc p) k ho old new m' r) e parts in
      let p₂ = subst (λ z. Parts F m brief z b₀ b₁ number xs a (suc p) k ho old new m' r) b p₁ in
      let p₃ = subst (λ z. Parts F m brief heard b₀ b₁ z xs a (suc p) k ho old new m' r) n p₂ in
      let p₄ : Parts F m brief heard b₀ b₁ (number_of (sent_at (suc (k - 1)) m.line)) xs a (suc p) (suc (k - 1)) ho old new m' r =
      subst (λ z. Parts F m brief heard b₀ b₁ (number_of (sent_at z m.line)) xs a (suc p) z ho old new m' r) (sym back) p₃ in
      let on₁ : on_way (suc p) (suc (k - 1)) m.line ≡ true = subst (λ z. on_way (suc p) z m.line ≡ true) (sym back) on in
      let d₁ : Fits F.WIDTH (symbols_of (sent_at (suc (k - 1)) m.line)) → Damaged F.WIDTH F.GUARD (symbols_of (sent_at (suc (k - 1)) m.line)) heard =
      subst (λ z. Fits F.WIDTH (symbols_of (sent_at z m.line)) → Damaged F.WIDTH F.GUARD (symbols_of (sent_at z m.line)) heard) (sym back) d in
      subst (λ z. TurnedSo F (ltb z F.LONGEST) heard m m' a (k - 1) k (at a m.readers) old new r) l
      (subst (λ z. TurnedSo F brief heard m m' a (k - 1) z (at a m.readers) old new r) back
      (go (at a m.readers) refl p₄.told_so p₄.kept_so p₄.written_so placed on₁ d₁ p₄))
    where
      go : (o : Option Kept) → at a m.readers ≡ o → Some ho ≡ option_map (λ x. cond (refusals.no_memory ho) (Err refusal.Memory) (told (heard_answer F (turn_of F brief heard x.reader)))) o
          → MatchOption o (new ≡ old) (λ x. new ≡ cond (refusals.no_memory ho) old (record_after (mark_heard (turn_of F brief heard x.reader)) x.reader.out old))
          → MatchOption o (b₁ ≡ b₀) (λ x. b₁ ≡ cond (refusals.no_memory ho) b₀ (heard_buffer F (turn_of F brief heard x.reader) b₀))
          → Some p ≡ place_of a m.readers → on_way (suc p) (suc (k - 1)) m.line ≡ true
          → (Fits F.WIDTH (symbols_of (sent_at (suc (k - 1)) m.line)) → Damaged F.WIDTH F.GUARD (symbols_of (sent_at (suc (k - 1)) m.line)) heard)
          → Parts F m brief heard b₀ b₁ (number_of (sent_at (suc (k - 1)) m.line)) xs a (suc p) (suc (k - 1)) ho old new m' r
          → TurnedSo F brief heard m m' a (k - 1) (suc (k - 1)) o old new r
      go None is t v w placed on₁ d₁ q = absurd (none-some _ (sym t))
      go (Some x) is t v w placed on₁ d₁ q =
          turn_goes F brief heard size m m' xs a p (k - 1) placed b₀ b₁ x is old new r on₁ d₁ ho (same_Some _ _ t) v w q.shown_so q.unmade_so q.answered_so

-- the answer of a hearing at the end of a reader
pub at_reader : {A : Type 0} (r : Result A Trouble) (o : Option ℕ) (p : ℕ) (on : ℕ → Bool) (z : Result (List ℕ) DamageError) (l : List ℕ) (f : List ℕ → Result A Trouble)
    → r ≡ cond (no_memory r) (Err OutOfMemory) (f l) → Some p ≡ o → on (suc p) ≡ true → z ≡ Ok l
    → r ≡ cond (no_memory r) (Err OutOfMemory) (at_end (option_map suc o) (λ end. cond (on end) (undamaged z f) (Err NotOnWay)))
at_reader r o p on z l f e placed is d =
    e ∙ ap (λ y. cond (no_memory r) (Err OutOfMemory) y) (
    ap (λ y. undamaged y f) (sym d) ∙ ap (λ y. cond y (undamaged z f) (Err NotOnWay)) (sym is) ∙
    ap (λ y. at_end (option_map suc y) (λ end. cond (on end) (undamaged z f) (Err NotOnWay))) placed)

-- the answer from a buffer that was filled to its length
pub answered_filled : (a n n' k : ℕ) (ho : Result Heard Refusal) (len : ℕ) (b rest : List ℕ) (m m' : Memory) (r : Result Answer Trouble) → n ≡ n' → length b ≡ len
    → Answered a n k ho (take len (b ++ rest)) m m' r → Answered a n' k ho b m m' r
answered_filled a n n' k ho len b rest m m' r e h q =
    subst (λ l. Answered a n' k ho l m m' r) (filled len b rest h) (subst (λ z. Answered a z k ho (take len (b ++ rest)) m m' r) e q)
