-- What each call of a site comes to: where it stood at a point of a lawful run, it stands at the next.
use Rattle.std.proofs.Common.{◌≡◌, ℕ, zero, suc, ◌+◌, ◌-◌, ◌<◌, Bool, true, false, cond, eqb, List, [], ◌∷◌, ◌++◌, map, length, get_or, set, Some, None, Ok, Err, Result, sym, refl, ap, ◌∙◌, subst, ap₂, arith}
use Rattle.account.proofs.Calls.{turns}
use Rattle.account.proofs.Stations.{all_append, turned_round}
use Rattle.account.proofs.Valid.{SaysWell, ValidWorld, burst_valid, valid_run}
use Rattle.account.specs.Account.{Apart}
use Rattle.account.specs.Books.{Station, asked, change, collected, ended, fetched, found, newest_hand_out, newest_send, offered, restarted, turned}
use Rattle.account.specs.Line as line
use Rattle.account.specs.Line.{Burst, Event, HeardAs, Limit, NoneTo, Octets, OctetsAsked, OnWay, Run, World, answered, begin, changed, concluded, ends, gone, hears_at, leaves, lost_everywhere, new_station, new_world, requested, step, then, timed, transmits, with_bursts, with_concentrator, writes}
use Rattle.fault.specs.declared.Fault.{Fault}
use Rattle.frame.specs.Damage.{Damaged, Fits}
use Rattle.frame.specs.Laws.{SizeLaw}
use Rattle.frame.specs.declared.Format.{Ghosts}
use Rattle.line.specs.Ways as memory
use Rattle.line.specs.Ways.{View, arrived, as_sent, launched, on_way, quieted, sent_at}
use Rattle.readers.proofs.Addresses.{change_alike}
use Rattle.readers.proofs.Places.{paired_push}
use Rattle.std.proofs.lemmas.Option.{slice_get-map}
use Rattle.readers.specs.Pairs.{Changes, Paired, Spaced, Tells, addresses}
use Rattle.readers.specs.Readers.{Kept, ShowsReader}
use Rattle.rules.specs.Concentrator as co
use Rattle.rules.specs.Concentrator.{Asking, transmission}
use Rattle.rules.specs.Messages.{within}
use Rattle.rules.specs.Reader as rd
use Rattle.rules.specs.Reader.{Turn}
use Rattle.rules.specs.Telegrams.{carried, telegram_read}
use Rattle.rules.specs.declared.records.ReaderPlan.{ReaderPlan}
use Rattle.site.proofs.Addresses.{addresses_changed, ends_apart, lawful_spaced, step_same, turn_address}
use Rattle.site.proofs.Ways.{carries_joined, carries_left, carries_lost_all, carries_nothing, carries_written, new_burst, none_under_way, there}
use Rattle.site.specs.Shown.{Carries, Lawful, Memory, Shown, Since, Stands, burst_of, no_burst, ends_of, flies_to, sent_of, with_reader}
use Rattle.std.proofs.lemmas.List.{map_push}
use Rattle.std.proofs.lemmas.Option.{slice_get-get_or}
use Rattle.std.proofs.lemmas.Bool.{cond-true, eqb-true, ne_eqb}
use Rattle.std.specs.Option.{option_map}
use Rattle.std.specs.List.{AllByRecursion, slice_get}

get_d_any : {A : Type 0} (xs : List A) (i : ℕ) (d e : A) → i < length xs → get_or xs i d ≡ get_or xs i e
get_d_any [] i d e h = absurd (omega arith)
get_d_any (x ∷ xs) zero d e h = refl
get_d_any (x ∷ xs) (suc i) d e h = get_d_any xs i d e (omega arith)

-- ## lawful runs

module _ {X : Type 0} (F : Ghosts X) where
  pub lawful_then : (started : Bool) (w : World) (e : Event) → Lawful F started w → Limit F e w → Lawful F true (step F e w)
  lawful_then true w e l lim = (l.0, l.1, l.2, l.3, l.4, then l.5 e lim)
  lawful_then false w e l lim = (l.0, l.1, l.2, l.3, l.4, subst (λ v. Run F v (step F e w)) (sym l.5) (then begin e lim))

  -- a line that is not started has no burst to lose
  pub lost_lawful : (started : Bool) (w : World) → Lawful F started w → (a k : ℕ) (b : Burst) → OnWay a k b w → Lawful F started (leaves a k b w)
  lost_lawful true w l a k b lim = (l.0, l.1, l.2, l.3, l.4, then l.5 (line.loses a k b) lim)
  lost_lawful false w l a k b lim = let none : length w.bursts ≡ 0 = ap (λ v. length v.bursts) (sym l.5) in absurd (omega (arith, none, lim.0))

  pub quiet_lawful : (started : Bool) (w : World) → Lawful F started w → Lawful F started (step F line.loses_all w)
  quiet_lawful true w l = (l.0, l.1, l.2, l.3, l.4, then l.5 line.loses_all tt)
  quiet_lawful false w l =
      let v = new_world l.0 l.1 l.2 l.3 in
      (l.0, l.1, l.2, l.3, l.4, subst (λ u. v ≡ step F line.loses_all u) l.5 refl)

  new_valid : (r a p : ℕ) (l : List ReaderPlan) → Apart l → ValidWorld (new_world r a p l)
  new_valid r a p l h = record { stations = go l h; exchange = tt; bursts = tt }
    where
      go : (g : List ReaderPlan) → Apart g → AllByRecursion Rattle.account.proofs.Valid.StationWhole (map new_station g)
      go [] k = tt
      go (f ∷ g) k = (record { known = k.0; class1 = tt; class2 = tt; stored = tt }, go g k.2)

  since_valid : (started : Bool) (v w : World) → Since F started v w → ValidWorld v → ValidWorld w
  since_valid true v w r ok = valid_run F r ok
  since_valid false v w e ok = subst ValidWorld e ok

  -- every burst of a lawful line fits the width
  pub burst_fits : SizeLaw F.WIDTH F.LONGEST F.frame → (started : Bool) (w : World) → Lawful F started w
      → (k : ℕ) (b : Burst) → k < length w.bursts → get_or w.bursts k b ≡ b → Fits F.WIDTH (F.frame (carried b.telegram))
  burst_fits size started w l k b h e =
      let v = new_world l.0 l.1 l.2 l.3 in
      let ok = since_valid started v w l.5 (new_valid l.0 l.1 l.2 l.3 l.4) in
      (size (carried b.telegram) (burst_valid w.bursts k b h e ok.bursts).valid).2

-- ## readers that join

abbrev one_end_more : View → View
one_end_more v = record { bursts = v.bursts; quiet = v.quiet; ends = v.ends + 1 }

apart_more : (l : List ReaderPlan) (f : ReaderPlan) → Apart l → within 1 32 f.address ≡ true → AllByRecursion (λ b. eqb b f.address ≡ false) (addresses (map new_station l))
    → Apart (l ++ f ∷ [])
apart_more [] f a k o = (k, tt, tt)
apart_more (g ∷ l) f a k o = (a.0, all_append (λ h. eqb h.address g.address ≡ false) l f a.1 (turned_round g.address f.address false o.0), apart_more l f a.2 k o.1)

module _ {X : Type 0} (F : Ghosts X) where
  -- ## memory

  -- nothing of it has changed but room
  pub record Same (m m' : Memory) : Type 0 where
    pub concentrator : m'.concentrator ≡ m.concentrator
    pub readers : Changes ShowsReader m.readers m'.readers (λ ys. ys)
    pub line : m'.line ≡ m.line

  pub shown_kept : (m m' : Memory) (w : World) → Spaced (addresses w.stations) → Same m m' → Shown F m w → Shown F m' w
  shown_kept m m' w apart k s = record {
    concentrator = k.concentrator ∙ s.concentrator;
    readers = k.readers w.stations apart s.readers;
    line = subst (λ v. Carries F v (ends_of w.stations) w.bursts) (sym k.line) s.line;
  }

  transmitted : (m' : Memory) (w : World) (x : co.Sent) (v : View) (n : ℕ)
      → Spaced (addresses w.stations) → Carries F v (ends_of w.stations) w.bursts → m'.concentrator ≡ x.after → Paired ShowsReader m'.readers w.stations
      → m'.line ≡ launched (as_sent (F.frame (carried (transmission x.exchange))) n) v
      → n ≡ newest_send (found x.exchange.station w.stations) → Shown F m' (transmits x w)
  transmitted m' w x v n apart c k p l e = record {
    concentrator = k;
    readers = p;
    line =
        let t = transmission x.exchange in
        let n' = newest_send (found x.exchange.station w.stations) in
        let l' = l ∙ ap (λ z. launched (as_sent (F.frame (carried t)) z) v) e in
        subst (λ z. Carries F z (ends_of w.stations) (w.bursts ++ new_burst t n' ∷ [])) (sym l')
        (carries_written F v (ends_of w.stations) w.bursts c (ends_apart (addresses w.stations) apart) t n');
  }

  has_ended : (m' : Memory) (w : World) (x : co.Ended) (v : View) (n : ℕ)
      → Carries F v (ends_of w.stations) w.bursts → m'.concentrator ≡ x.after
      → Paired ShowsReader m'.readers (change x.exchange.station (ended n x.exchange.request x.ending) w.stations) → m'.line ≡ v → Shown F m' (ends n x w)
  has_ended m' w x v n c k p l = record {
    concentrator = k;
    readers = p;
    line =
        let same = addresses_changed x.exchange.station (ended n x.exchange.request x.ending) w.stations (λ s e. refl) in
        subst (λ z. Carries F z (0 ∷ addresses (change x.exchange.station (ended n x.exchange.request x.ending) w.stations)) w.bursts) (sym l)
        (subst (λ z. Carries F v (0 ∷ z) w.bursts) (sym same) c);
  }

  module _ (m m' : Memory) (w : World) (st : Stands F m w) where
    apart : Spaced (addresses w.stations)
    apart = lawful_spaced F m.started w st.lawful

    -- the law of the next moment
    onward : m'.started ≡ true → (e : Event) → Limit F e w → Lawful F m'.started (step F e w)
    onward on e lim = subst (λ s. Lawful F s (step F e w)) (sym on) (lawful_then F m.started w e st.lawful lim)

    -- ## requests

    module _ (on : m'.started ≡ true) (short : Bool) (a : ℕ) (q : Asking) (lim : OctetsAsked q) where
      pub request_refused : (f : Fault) → co.request short a q m.concentrator ≡ Err f → Same m m' → Stands F m' (step F (line.requests short a q) w)
      request_refused f e k =
          let e' = ap (co.request short a q) (sym st.shown.concentrator) ∙ e in
          record {
            shown = subst (λ r. Shown F m' (requested r w)) (sym e') (shown_kept m m' w apart k st.shown);
            lawful = onward on (line.requests short a q) lim;
          }

      pub request_sent : (x : co.Sent) (n : ℕ) → co.request short a q m.concentrator ≡ Ok x → m'.concentrator ≡ x.after
          → Changes ShowsReader m.readers m'.readers (change x.exchange.station (asked x.exchange.request))
          → Tells ShowsReader m'.readers (λ ys. n ≡ newest_send (found x.exchange.station ys))
          → m'.line ≡ launched (as_sent (F.frame (carried (transmission x.exchange))) n) m.line
          → Stands F m' (step F (line.requests short a q) w)
      request_sent x n e k c t l =
          let e' = ap (co.request short a q) (sym st.shown.concentrator) ∙ e in
          let ss = change x.exchange.station (asked x.exchange.request) w.stations in
          let w₁ : World = record { concentrator = w.concentrator; stations = ss; bursts = w.bursts } in
          let same = addresses_changed x.exchange.station (asked x.exchange.request) w.stations (λ s e. refl) in
          let apart₁ : Spaced (addresses ss) = subst Spaced (sym same) apart in
          let p = c w.stations apart st.shown.readers in
          record {
            shown = subst (λ r. Shown F m' (requested r w)) (sym e')
                (transmitted m' w₁ x m.line n apart₁ (subst (λ z. Carries F m.line (0 ∷ z) w.bursts) (sym same) st.shown.line) k p l (t ss apart₁ p));
            lawful = onward on (line.requests short a q) lim;
          }

    -- ## a time-out on a silent line

    pub silence : memory.Silent m.line → line.Silent w
    silence s = (none 0 (omega arith), go w.stations (λ i h. none (suc i) (omega arith)))
      where
        none : (i : ℕ) → i < length (ends_of w.stations) → NoneTo (get_or (ends_of w.stations) i 0) w.bursts
        none = none_under_way F m.line (ends_of w.stations) w.bursts st.shown.line s

        go : (l : List Station) → ((i : ℕ) → i < length (addresses l) → NoneTo (get_or (addresses l) i 0) w.bursts)
            → AllByRecursion (λ s. NoneTo s.reader.address w.bursts) l
        go [] h = tt
        go (x ∷ l) h = (h 0 (omega arith), go l (λ i k. h (suc i) (omega arith)))

    module _ (on : m'.started ≡ true) (short : Bool) (silent : memory.Silent m.line) where
      pub time_out_refused : (f : Fault) → co.time_out short m.concentrator ≡ Err f → Same m m' → Stands F m' (step F (line.times_out short) w)
      time_out_refused f e k =
          let e' = ap (co.time_out short) (sym st.shown.concentrator) ∙ e in
          record {
            shown = subst (λ r. Shown F m' (timed r w)) (sym e') (shown_kept m m' w apart k st.shown);
            lawful = onward on (line.times_out short) (silence silent);
          }

      pub sent_again : (x : co.Sent) (n : ℕ) → co.time_out short m.concentrator ≡ Ok (co.again x) → m'.concentrator ≡ x.after
          → Changes ShowsReader m.readers m'.readers (λ ys. ys) → Tells ShowsReader m'.readers (λ ys. n ≡ newest_send (found x.exchange.station ys))
          → m'.line ≡ launched (as_sent (F.frame (carried (transmission x.exchange))) n) m.line
          → Stands F m' (step F (line.times_out short) w)
      sent_again x n e k c t l =
          let e' = ap (co.time_out short) (sym st.shown.concentrator) ∙ e in
          let p = c w.stations apart st.shown.readers in
          record {
            shown = subst (λ r. Shown F m' (timed r w)) (sym e') (transmitted m' w x m.line n apart st.shown.line k p l (t w.stations apart p));
            lawful = onward on (line.times_out short) (silence silent);
          }

      pub doubted : (x : co.Ended) → co.time_out short m.concentrator ≡ Ok (co.doubted x) → m'.concentrator ≡ x.after
          → Changes ShowsReader m.readers m'.readers (change x.exchange.station (ended 0 x.exchange.request x.ending))
          → m'.line ≡ m.line → Stands F m' (step F (line.times_out short) w)
      doubted x e k c l =
          let e' = ap (co.time_out short) (sym st.shown.concentrator) ∙ e in
          record {
            shown = subst (λ r. Shown F m' (timed r w)) (sym e') (has_ended m' w x m.line 0 st.shown.line k (c w.stations apart st.shown.readers) l);
            lawful = onward on (line.times_out short) (silence silent);
          }

    -- ## a burst comes to an end

    module _ (i a : ℕ) (at : get_or (ends_of w.stations) i 0 ≡ a) (inside : i < length (ends_of w.stations)) (k : ℕ) (flying : on_way i (suc k) m.line ≡ true) where
      abbrev b : Burst
      b = burst_of (suc k) w

      abbrev carried_here : Carries F m.line (ends_of w.stations) w.bursts
      carried_here = st.shown.line

      within_line : k < length w.bursts
      within_line = there F m.line (ends_of w.stations) w.bursts carried_here i k flying

      back : suc k - 1 ≡ k
      back = omega arith

      b_is : get_or w.bursts k b ≡ b
      b_is = get_d_any w.bursts k b no_burst within_line ∙ ap (λ n. get_or w.bursts n no_burst) (sym back)

      b_nth : slice_get w.bursts k ≡ Some b
      b_nth = slice_get-get_or w.bursts k b within_line ∙ ap Some b_is

      pub is_on_way : OnWay a k b w
      is_on_way =
          (within_line, b_is, sym (sym flying ∙ carried_here.ways i k inside ∙ ap₂ flies_to at b_nth))

      -- what was sent as that burst
      pub sent_is : sent_at (suc k) m.line ≡ Some (sent_of F b)
      sent_is =
          let bs = m.line.bursts in
          let some : eqb (suc k) 0 ≡ false = ne_eqb (suc k) 0 (λ z. omega arith) in
          ap (λ z. option_map (λ f. f.sent) (cond z None (slice_get bs (suc k - 1)))) some ∙
          ap (λ n. option_map (λ f. f.sent) (slice_get bs n)) back ∙
          sym (slice_get-map (λ f. f.sent) bs k) ∙
          ap (λ l. slice_get l k) carried_here.sent ∙
          slice_get-map (sent_of F) w.bursts k ∙
          ap (option_map (sent_of F)) b_nth

      pub is_heard : SizeLaw F.WIDTH F.LONGEST F.frame → (heard : List ℕ)
          → (Fits F.WIDTH (F.frame (carried b.telegram)) → Damaged F.WIDTH F.GUARD (F.frame (carried b.telegram)) heard) → HeardAs F b heard
      is_heard size heard d = d (burst_fits F size m.started w st.lawful k b within_line b_is)

      -- the line without it
      left_line : Carries F (arrived i (suc k) m.line) (ends_of w.stations) (set w.bursts k (gone a b))
      left_line =
          subst (λ z. Carries F (arrived i (suc k) m.line) (ends_of w.stations) (set w.bursts k (gone z b))) at
          (carries_left F m.line (ends_of w.stations) w.bursts carried_here (ends_apart (addresses w.stations) apart) i k inside flying b b_is)

      -- it is lost, or heard and refused
      pub shown_left : m'.concentrator ≡ m.concentrator → Changes ShowsReader m.readers m'.readers (λ ys. ys) → m'.line ≡ arrived i (suc k) m.line → Shown F m' (leaves a k b w)
      shown_left c r l = record {
        concentrator = c ∙ st.shown.concentrator;
        readers = r w.stations apart st.shown.readers;
        line = subst (λ v. Carries F v (ends_of w.stations) (set w.bursts k (gone a b))) (sym l) left_line;
      }

      pub stands_lost : m'.started ≡ m.started → m'.concentrator ≡ m.concentrator → Changes ShowsReader m.readers m'.readers (λ ys. ys) → m'.line ≡ arrived i (suc k) m.line
          → Stands F m' (step F (line.loses a k b) w)
      stands_lost same c r l = record { shown = shown_left c r l; lawful = subst (λ z. Lawful F z (leaves a k b w)) (sym same) (lost_lawful F m.started w st.lawful a k b is_on_way) }

      -- a reader hears it
      module _ (on : m'.started ≡ true) (short : Bool) (heard : List ℕ) (dmg : HeardAs F b heard) (s : Station) (own : found a w.stations ≡ Some s) where
        abbrev hearing : Station → Result Turn Fault
        hearing o = rd.hear short (telegram_read (F.verdict heard)) o.reader

        pub reader_refused : (f : Fault) → hearing s ≡ Err f → m'.concentrator ≡ m.concentrator → Changes ShowsReader m.readers m'.readers (λ ys. ys)
            → m'.line ≡ arrived i (suc k) m.line → Stands F m' (step F (line.reader_hears short a k b heard) w)
        reader_refused f e c r l = record {
          shown = subst (λ o. Shown F m' (hears_at F o short b.number heard (leaves a k b w))) (sym own)
              (subst (λ t. Shown F m' (answered b.number t s (leaves a k b w))) (sym e) (shown_left c r l));
          lawful = onward on (line.reader_hears short a k b heard) (is_on_way, dmg);
        }

        pub reader_answers : (t : Turn) (n : ℕ) (g : Station → Station) → hearing s ≡ Ok t → s.reader.address ≡ a → g s ≡ turned b.number t s → m'.concentrator ≡ m.concentrator
            → Changes ShowsReader m.readers m'.readers (change a g) → n ≡ newest_hand_out (turned b.number t s).up.handed
            → m'.line ≡ launched (as_sent (F.frame (carried t.answer)) n) (arrived i (suc k) m.line) → Stands F m' (step F (line.reader_hears short a k b heard) w)
        reader_answers t n g e d q c r z l =
            let f : Station → Station = λ o. turned b.number t s in
            let ss = change s.reader.address f w.stations in
            let alike : change a g w.stations ≡ ss = change_alike a g f w.stations s apart own q ∙ ap (λ x. change x f w.stations) (sym d) in
            let same : addresses ss ≡ addresses w.stations =
            addresses_changed s.reader.address f w.stations
            (λ o p. turn_address s.reader t (subst (Rattle.account.proofs.Calls.Turns s.reader) e (turns s.reader short (telegram_read (F.verdict heard)))) ∙ sym (eqb-true o.reader.address s.reader.address p)) in
            let n' = newest_hand_out (turned b.number t s).up.handed in
            let l' = l ∙ ap (λ x. launched (as_sent (F.frame (carried t.answer)) x) (arrived i (suc k) m.line)) z in
            let bs = set w.bursts k (gone a b) in
            let written = carries_written F (arrived i (suc k) m.line) (ends_of w.stations) bs left_line (ends_apart (addresses w.stations) apart) t.answer n' in
            let shown : Shown F m' (answered b.number (Ok t) s (leaves a k b w)) = record {
              concentrator = c ∙ st.shown.concentrator;
              readers = subst (Paired ShowsReader m'.readers) alike (r w.stations apart st.shown.readers);
              line = subst (λ v. Carries F v (0 ∷ addresses ss) (bs ++ new_burst t.answer n' ∷ [])) (sym l')
                  (subst (λ x. Carries F (launched (sent_of F (new_burst t.answer n')) (arrived i (suc k) m.line)) (0 ∷ x) (bs ++ new_burst t.answer n' ∷ [])) (sym same) written);
            } in
            record {
              shown = subst (λ o. Shown F m' (hears_at F o short b.number heard (leaves a k b w))) (sym own)
                  (subst (λ y. Shown F m' (answered b.number y s (leaves a k b w))) (sym e) shown);
              lawful = onward on (line.reader_hears short a k b heard) (is_on_way, dmg);
            }

    -- the concentrator hears it
    module _ (on : m'.started ≡ true) (k : ℕ) (flying : on_way 0 (suc k) m.line ≡ true) (heard : List ℕ) (dmg : HeardAs F (burst_of (suc k) w) heard) where
      abbrev c₀ : Burst
      c₀ = burst_of (suc k) w

      abbrev judged : co.Concentrator → Result co.Ended Fault
      judged x = co.hear (telegram_read (F.verdict heard)) x

      pub hearing_refused : (f : Fault) → judged m.concentrator ≡ Err f → m'.concentrator ≡ m.concentrator → Changes ShowsReader m.readers m'.readers (λ ys. ys)
          → m'.line ≡ arrived 0 (suc k) m.line → Stands F m' (step F (line.concentrator_hears k c₀ heard) w)
      hearing_refused f e c r l =
          let e' = ap judged (sym st.shown.concentrator) ∙ e in
          record {
            shown = subst (λ x. Shown F m' (concluded c₀.number x (leaves 0 k c₀ w))) (sym e') (shown_left 0 0 refl (omega arith) k flying c r l);
            lawful = onward on (line.concentrator_hears k c₀ heard) (is_on_way 0 0 refl (omega arith) k flying, dmg);
          }

      pub hearing_ends : (x : co.Ended) → judged m.concentrator ≡ Ok x → m'.concentrator ≡ x.after
          → Changes ShowsReader m.readers m'.readers (change x.exchange.station (ended c₀.number x.exchange.request x.ending))
          → m'.line ≡ arrived 0 (suc k) m.line → Stands F m' (step F (line.concentrator_hears k c₀ heard) w)
      hearing_ends x e c r l =
          let e' = ap judged (sym st.shown.concentrator) ∙ e in
          record {
            shown = subst (λ y. Shown F m' (concluded c₀.number y (leaves 0 k c₀ w))) (sym e')
                (has_ended m' (leaves 0 k c₀ w) x (arrived 0 (suc k) m.line) c₀.number (left_line 0 0 refl (omega arith) k flying) c (r w.stations apart st.shown.readers) l);
            lawful = onward on (line.concentrator_hears k c₀ heard) (is_on_way 0 0 refl (omega arith) k flying, dmg);
          }

    -- ## a reader's own calls, and the fetches

    module _ (on : m'.started ≡ true) (l : m'.line ≡ m.line) where
      pub stands_changed : (e : Event) (a : ℕ) (f : Station → Station) → Limit F e w → step F e w ≡ changed a f w → addresses (change a f w.stations) ≡ addresses w.stations
          → m'.concentrator ≡ m.concentrator → Changes ShowsReader m.readers m'.readers (change a f) → Stands F m' (step F e w)
      stands_changed e a f lim is same c r = record {
        shown = subst (Shown F m') (sym is) (record {
          concentrator = c ∙ st.shown.concentrator;
          readers = r w.stations apart st.shown.readers;
          line = subst (λ v. Carries F v (0 ∷ addresses (change a f w.stations)) w.bursts) (sym l)
              (subst (λ x. Carries F m.line (0 ∷ x) w.bursts) (sym same) st.shown.line);
        });
        lawful = onward on e lim;
      }

      pub stands_offered : (a class : ℕ) (os : List ℕ) → Octets os → m'.concentrator ≡ m.concentrator
          → Changes ShowsReader m.readers m'.readers (change a (λ s. offered (rd.offer class os s.reader) s)) → Stands F m' (step F (line.offers a class os) w)
      stands_offered a class os o c r = stands_changed (line.offers a class os) a _ o refl (step_same F (line.offers a class os) w o) c r

      pub stands_collected : (a : ℕ) → m'.concentrator ≡ m.concentrator → Changes ShowsReader m.readers m'.readers (change a collected) → Stands F m' (step F (line.collects a) w)
      stands_collected a c r = stands_changed (line.collects a) a collected tt refl (step_same F (line.collects a) w tt) c r

      pub stands_restarted : (a : ℕ) → m'.concentrator ≡ m.concentrator → Changes ShowsReader m.readers m'.readers (change a restarted) → Stands F m' (step F (line.restarts a) w)
      stands_restarted a c r = stands_changed (line.restarts a) a restarted tt refl (step_same F (line.restarts a) w tt) c r

      pub arrival_taken : m'.concentrator ≡ co.arrival_fetched m.concentrator → Changes ShowsReader m.readers m'.readers (fetched m.concentrator.arrivals.records)
          → Stands F m' (step F line.fetches_arrival w)
      arrival_taken c r =
          let q = st.shown.concentrator in
          let same = step_same F line.fetches_arrival w tt in
          record {
            shown = record {
              concentrator = c ∙ ap co.arrival_fetched q;
              readers = subst (λ z. Paired ShowsReader m'.readers (fetched z.arrivals.records w.stations)) q (r w.stations apart st.shown.readers);
              line = subst (λ v. Carries F v (0 ∷ addresses (fetched w.concentrator.arrivals.records w.stations)) w.bursts) (sym l)
                  (subst (λ x. Carries F m.line (0 ∷ x) w.bursts) (sym same) st.shown.line);
            };
            lawful = onward on line.fetches_arrival tt;
          }

      pub report_taken : m'.concentrator ≡ co.report_fetched m.concentrator → Changes ShowsReader m.readers m'.readers (λ ys. ys) → Stands F m' (step F line.fetches_report w)
      report_taken c r = record {
        shown = record {
          concentrator = c ∙ ap co.report_fetched st.shown.concentrator;
          readers = r w.stations apart st.shown.readers;
          line = subst (λ v. Carries F v (ends_of w.stations) w.bursts) (sym l) st.shown.line;
        };
        lawful = onward on line.fetches_report tt;
      }

      pub stands_surveyed : m'.concentrator ≡ m.concentrator → Changes ShowsReader m.readers m'.readers (λ ys. ys) → Stands F m' (step F line.surveys w)
      stands_surveyed c r = record { shown = shown_kept m m' w apart (record { concentrator = c; readers = r; line = l }) st.shown; lawful = onward on line.surveys tt }

    -- ## calls that are none of the library

    pub stands_quiet : m'.started ≡ m.started → m'.concentrator ≡ m.concentrator → Changes ShowsReader m.readers m'.readers (λ ys. ys) → m'.line ≡ quieted m.line
        → Stands F m' (step F line.loses_all w)
    stands_quiet same c r l = record {
      shown = record {
        concentrator = c ∙ st.shown.concentrator;
        readers = r w.stations apart st.shown.readers;
        line = subst (λ v. Carries F v (ends_of w.stations) (map lost_everywhere w.bursts)) (sym l) (carries_lost_all F m.line (ends_of w.stations) w.bursts st.shown.line);
      };
      lawful = subst (λ z. Lawful F z (step F line.loses_all w)) (sym same) (quiet_lawful F m.started w st.lawful);
    }

    pub stands_kept : m'.started ≡ m.started → Same m m' → Stands F m' w
    stands_kept same k = record { shown = shown_kept m m' w apart k st.shown; lawful = subst (λ z. Lawful F z w) (sym same) st.lawful }

    -- a reader joins a line that is not started
    pub stands_joined : (f : ReaderPlan) → m.started ≡ false → m'.started ≡ false → within 1 32 f.address ≡ true → AllByRecursion (λ b. eqb b f.address ≡ false) (addresses w.stations)
        → m'.concentrator ≡ m.concentrator → (x : Kept) → m'.readers ≡ m.readers ++ x ∷ [] → ShowsReader x (new_station f) → m'.line ≡ memory.joined m.line
        → memory.open_to_join m.line ≡ true → Stands F m' (with_reader f w)
    stands_joined f off off' known other c x r q l can =
        let law : Lawful F false w = subst (λ z. Lawful F z w) off st.lawful in
        let v = new_world law.0 law.1 law.2 law.3 in
        let is : v ≡ w = law.5 in
        let none : w.bursts ≡ [] = ap (λ u. u.bursts) (sym is) in
        let l' : m'.line ≡ one_end_more m.line = l ∙ cond-true (memory.open_to_join m.line) (one_end_more m.line) m.line can in
        let more : addresses (w.stations ++ new_station f ∷ []) ≡ addresses w.stations ++ f.address ∷ [] = map_push (λ s. s.reader.address) w.stations (new_station f) in
        record {
          shown = record {
            concentrator = c ∙ st.shown.concentrator;
            readers = subst (λ z. Paired ShowsReader z (w.stations ++ new_station f ∷ [])) (sym r) (paired_push ShowsReader m.readers w.stations x (new_station f) st.shown.readers q);
            line = subst (λ z. Carries F z (0 ∷ addresses (w.stations ++ new_station f ∷ [])) w.bursts) (sym l')
                (subst (λ z. Carries F (one_end_more m.line) (0 ∷ z) w.bursts) (sym more)
                (carries_joined F m.line (ends_of w.stations) w.bursts st.shown.line f.address none));
          };
          lawful = subst (λ z. Lawful F z (with_reader f w)) (sym off') (
            law.0,
            law.1,
            law.2,
            law.3 ++ f ∷ [],
            apart_more law.3 f law.4 known (subst (λ u. AllByRecursion (λ b. eqb b f.address ≡ false) (addresses u.stations)) (sym is) other),
            ap (λ z. record { concentrator = v.concentrator; stations = z; bursts = [] }) (map_push new_station law.3 f) ∙ ap (with_reader f) is,
          );
        }

  -- a site with the concentrator alone
  pub stands_new : (m : Memory) (r a p : ℕ) → m.concentrator ≡ co.new_concentrator r a p → m.readers ≡ [] → m.line ≡ memory.new_line → m.started ≡ false
      → Stands F m (new_world r a p [])
  stands_new m r a p c n l off = record {
    shown = record {
      concentrator = c;
      readers = subst (λ z. Paired ShowsReader z []) (sym n) tt;
      line = subst (λ v. Carries F v (0 ∷ []) []) (sym l) (carries_nothing F);
    };
    lawful = subst (λ z. Lawful F z (new_world r a p [])) (sym off) (r, a, p, [], tt, refl);
  }
