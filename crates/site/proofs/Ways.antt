-- The bursts in memory and those of the line: that they stay the same after each thing that befalls them.
use Rattle.std.proofs.Common.{◌≡◌, ℕ, zero, suc, ◌+◌, ◌-◌, ◌<◌, ◌≤◌, true, false, cond, ◌&&◌, eqb, ltb, List, [], ◌∷◌, ◌++◌, map, length, get_or, set, replicate, Some, None, Option, sym, refl, ap, ◌∙◌, subst, ap₂, ⊎_elim, arith}
use Rattle.account.proofs.Bursts.{all_false}
use Rattle.account.specs.Line.{Burst, NoneTo, gone, lost_everywhere}
use Rattle.frame.specs.declared.Format.{Ghosts}
use Rattle.line.proofs.Flags.{cleared}
use Rattle.line.proofs.Ways.{taken}
use Rattle.line.specs.Ways.{Flight, Sent, Silent, View, arrived, changed_at, landed, launched, marked, new_line, on_way, quieted}
use Rattle.rules.specs.declared.telegram.Telegram.{Telegram}
use Rattle.readers.proofs.Places.{nth_front, nth_last, nth_set_other, nth_set_same}
use Rattle.site.specs.Shown.{Carries, flies, flies_to, sent_of}
use Rattle.std.proofs.lemmas.List.{get_or-replicate, get_or-set_other, length-map, length_push, map_push}
use Rattle.std.proofs.lemmas.Option.{slice_get-map, slice_get_past, slice_get_read}
use Rattle.std.proofs.lemmas.Bool.{and_left, and_right, both_ways, cases_Bool, cases_eq, cases_lt, cond-true, le-ltb, lt-ltb, ne_eqb}
use Rattle.std.specs.Option.{option_map}
use Rattle.std.specs.List.{slice_get}

-- whether the burst at place k is on the way, by the mark that it has
at_place : (i k : ℕ) (v : View) → on_way i (suc k) v ≡ (ltb v.quiet (suc k) && marked i (slice_get v.bursts k))
at_place i k v =
    let some : eqb (suc k) 0 ≡ false = ne_eqb (suc k) 0 (λ z. omega arith) in
    let back : suc k - 1 ≡ k = omega arith in
    ap (λ b. ltb v.quiet (suc k) && marked i (cond b None (slice_get v.bursts (suc k - 1)))) some ∙ ap (λ n. ltb v.quiet (suc k) && marked i (slice_get v.bursts n)) back

-- where there is no burst, none is on the way
none_there : (i k : ℕ) (v : View) → length v.bursts ≤ k → on_way i (suc k) v ≡ false
none_there i k v h =
    at_place i k v ∙ and_right (ltb v.quiet (suc k)) (marked i (slice_get v.bursts k)) (ap (marked i) (slice_get_past v.bursts k h))

-- ## one place changed

nth_changed_same : {A : Type 0} (k : ℕ) (f : A → A) (xs : List A) → slice_get (changed_at k f xs) k ≡ option_map f (slice_get xs k)
unfolding changed_at
nth_changed_same k f [] = refl
nth_changed_same zero f (x ∷ xs) = refl
nth_changed_same (suc k) f (x ∷ xs) = nth_changed_same k f xs

nth_changed_other : {A : Type 0} (k j : ℕ) (f : A → A) (xs : List A) → (j ≡ k → ⊥) → slice_get (changed_at k f xs) j ≡ slice_get xs j
unfolding changed_at
nth_changed_other k j f [] n = refl
nth_changed_other zero zero f (x ∷ xs) n = absurd (n refl)
nth_changed_other zero (suc j) f (x ∷ xs) n = refl
nth_changed_other (suc k) zero f (x ∷ xs) n = refl
nth_changed_other (suc k) (suc j) f (x ∷ xs) n = nth_changed_other k j f xs (λ e. n (ap suc e))

pub length_changed : {A : Type 0} (k : ℕ) (f : A → A) (xs : List A) → length (changed_at k f xs) ≡ length xs
unfolding changed_at
length_changed k f [] = refl
length_changed zero f (x ∷ xs) = refl
length_changed (suc k) f (x ∷ xs) = ap suc (length_changed k f xs)

sent_same : (k i : ℕ) (fs : List Flight) → map (λ f. f.sent) (changed_at k (landed i) fs) ≡ map (λ f. f.sent) fs
unfolding changed_at
sent_same k i [] = refl
sent_same zero i (f ∷ fs) = refl
sent_same (suc k) i (f ∷ fs) = ap (λ l. f.sent ∷ l) (sent_same k i fs)

set_same : {X : Type 0} (F : Ghosts X) (bs : List Burst) (k a : ℕ) (b : Burst) → get_or bs k b ≡ b → map (sent_of F) (set bs k (gone a b)) ≡ map (sent_of F) bs
set_same F [] k a b e = refl
set_same F (x ∷ bs) zero a b e = ap (λ s. s ∷ map (sent_of F) bs) (ap (sent_of F) (sym e))
set_same F (x ∷ bs) (suc k) a b e = ap (λ l. sent_of F x ∷ l) (set_same F bs k a b e)

marked_there : (i : ℕ) (o : Option Flight) → marked i (option_map (landed i) o) ≡ false
marked_there i None = refl
marked_there i (Some f) = cleared f.ways i

marked_beside : (i j : ℕ) (o : Option Flight) → (j ≡ i → ⊥) → marked j (option_map (landed i) o) ≡ marked j o
marked_beside i j None n = refl
marked_beside i j (Some f) n = get_or-set_other f.ways i j false false n

-- ends at distinct addresses, all under 33
pub record EndsApart (ends : List ℕ) : Type 0 where
  pub few : (i : ℕ) → i < length ends → get_or ends i 0 < 33
  pub other : (i j : ℕ) → i < length ends → j < length ends → (j ≡ i → ⊥) → get_or ends j 0 ≡ get_or ends i 0 → ⊥

-- a burst as it is written
abbrev pub new_burst : Telegram → ℕ → Burst
new_burst t n = record { telegram = t; number = n; ways = replicate 33 true }

module _ {X : Type 0} (F : Ghosts X) (v : View) (ends : List ℕ) (bs : List Burst) (c : Carries F v ends bs) where
  pub as_many : length v.bursts ≡ length bs
  as_many = sym (length-map v.bursts (λ f. f.sent)) ∙ ap length c.sent ∙ length-map bs (sent_of F)

  -- ## one burst more

  module _ (apart : EndsApart ends) (t : Telegram) (n : ℕ) where
    abbrev new : Burst
    new = new_burst t n

    launched_ways : (i k : ℕ) → i < length ends → on_way i (suc k) (launched (sent_of F new) v) ≡ flies (get_or ends i 0) k (bs ++ new ∷ [])
    launched_ways i k h = ⊎_elim earlier (λ l. ⊎_elim newest later (cases_eq k (length bs))) (cases_lt k (length bs))
      where
        many : length v.bursts ≡ length bs
        many = as_many

        f : Flight
        f = record { sent = sent_of F new; ways = replicate v.ends true }

        v' : View
        v' = launched (sent_of F new) v

        earlier : k < length bs → on_way i (suc k) v' ≡ flies (get_or ends i 0) k (bs ++ new ∷ [])
        earlier l =
            at_place i k v' ∙
            ap (λ o. ltb v.quiet (suc k) && marked i o) (nth_front v.bursts (f ∷ []) k (omega (arith, many))) ∙
            sym (at_place i k v) ∙
            c.ways i k h ∙
            sym (ap (flies_to (get_or ends i 0)) (nth_front bs (new ∷ []) k l))

        newest : k ≡ length bs → on_way i (suc k) v' ≡ flies (get_or ends i 0) k (bs ++ new ∷ [])
        newest e =
            at_place i k v' ∙
            ap₂ (λ y o. y && marked i o) (lt-ltb v.quiet (suc k) (omega (arith, many, c.past))) (nth_last v.bursts f k (e ∙ sym many)) ∙
            get_or-replicate v.ends i true false (omega (arith, c.count)) ∙
            sym (get_or-replicate 33 (get_or ends i 0) true false (apart.few i h)) ∙
            sym (ap (flies_to (get_or ends i 0)) (nth_last bs new k e))

        later : (k ≡ length bs → ⊥) → on_way i (suc k) v' ≡ flies (get_or ends i 0) k (bs ++ new ∷ [])
        later d = ⊎_elim (λ (l : k < length bs). earlier l) past (cases_lt k (length bs))
          where
            past : length bs ≤ k → on_way i (suc k) v' ≡ flies (get_or ends i 0) k (bs ++ new ∷ [])
            past l =
                let z : length bs < k = ⊎_elim (λ (z : length bs < k). z) (λ (z : k ≤ length bs). absurd (d (omega arith))) (cases_lt (length bs) k) in
                none_there i k v' (rw (length_push v.bursts f) (omega (arith, many))) ∙
                sym (ap (flies_to (get_or ends i 0)) (slice_get_past (bs ++ new ∷ []) k (rw (length_push bs new) (omega arith))))

    pub carries_written : Carries F (launched (sent_of F new) v) ends (bs ++ new ∷ [])
    carries_written = record {
      sent = map_push (λ f. f.sent) v.bursts _ ∙ ap (λ l. l ++ sent_of F new ∷ []) c.sent ∙ sym (map_push (sent_of F) bs new);
      count = c.count;
      past = rw (length_push v.bursts (record { sent = sent_of F new; ways = replicate v.ends true })) (omega (arith, c.past));
      ways = launched_ways;
    }

  -- ## a burst comes to an end

  -- burst k, of the line
  pub there : (i k : ℕ) → on_way i (suc k) v ≡ true → k < length bs
  there i k on = ⊎_elim (λ (l : k < length bs). l) (λ l. absurd (both_ways (on_way i (suc k) v) (none_there i k v (omega (arith, as_many))) on)) (cases_lt k (length bs))

  module _ (apart : EndsApart ends) (i k : ℕ) (h : i < length ends) (on : on_way i (suc k) v ≡ true) (b : Burst) (is : get_or bs k b ≡ b) where
    abbrev a : ℕ
    a = get_or ends i 0

    abbrev left : List Burst
    left = set bs k (gone a b)

    abbrev v' : View
    v' = record { bursts = changed_at k (landed i) v.bursts; quiet = v.quiet; ends = v.ends }

    arrived_is : arrived i (suc k) v ≡ v'
    arrived_is =
        let back : suc k - 1 ≡ k = omega arith in
        let whole : View = record { bursts = changed_at (suc k - 1) (landed i) v.bursts; quiet = v.quiet; ends = v.ends } in
        cond-true (on_way i (suc k) v) whole v on ∙ ap (λ n. record { bursts = changed_at n (landed i) v.bursts; quiet = v.quiet; ends = v.ends }) back

    -- another place
    elsewhere : (j m : ℕ) → j < length ends → (m ≡ k → ⊥) → on_way j (suc m) v' ≡ flies (get_or ends j 0) m left
    elsewhere j m l n =
        at_place j m v' ∙
        ap (λ o. ltb v.quiet (suc m) && marked j o) (nth_changed_other k m (landed i) v.bursts n) ∙
        sym (at_place j m v) ∙
        c.ways j m l ∙
        sym (ap (flies_to (get_or ends j 0)) (nth_set_other bs (gone a b) k m n))

    -- this place, at the end and at another
    here : (j : ℕ) → j ≡ i → on_way j (suc k) v' ≡ flies (get_or ends j 0) k left
    here j e =
        at_place j k v' ∙
        and_right (ltb v.quiet (suc k)) (marked j (slice_get v'.bursts k)) (
        ap (marked j) (nth_changed_same k (landed i) v.bursts) ∙
        ap (λ z. marked z (option_map (landed i) (slice_get v.bursts k))) e ∙
        marked_there i (slice_get v.bursts k)
        ) ∙
        sym (
        ap (flies_to (get_or ends j 0)) (nth_set_same bs (gone a b) k (there i k on)) ∙
        ap (λ z. get_or (set b.ways a false) (get_or ends z 0) false) e ∙
        cleared b.ways a
        )

    beside : (j : ℕ) → j < length ends → (j ≡ i → ⊥) → on_way j (suc k) v' ≡ flies (get_or ends j 0) k left
    beside j l n =
        at_place j k v' ∙
        ap (λ y. ltb v.quiet (suc k) && y) (
        ap (marked j) (nth_changed_same k (landed i) v.bursts) ∙ marked_beside i j (slice_get v.bursts k) n
        ) ∙
        sym (at_place j k v) ∙
        c.ways j k l ∙
        ap (flies_to (get_or ends j 0)) (slice_get_read bs (length bs) k b refl (there i k on) (sym is)) ∙
        sym (
        ap (flies_to (get_or ends j 0)) (nth_set_same bs (gone a b) k (there i k on)) ∙
        get_or-set_other b.ways a (get_or ends j 0) false false (apart.other i j h l n)
        )

    ways_left : (j m : ℕ) → j < length ends → on_way j (suc m) v' ≡ flies (get_or ends j 0) m left
    ways_left j m l =
        ⊎_elim
        (λ (e : m ≡ k). subst (λ z. on_way j (suc z) v' ≡ flies (get_or ends j 0) z left) (sym e) (⊎_elim (here j) (beside j l) (cases_eq j i)))
        (elsewhere j m l)
        (cases_eq m k)

    pub carries_left : Carries F (arrived i (suc k) v) ends left
    carries_left = subst (λ z. Carries F z ends left) (sym arrived_is) (record {
      sent = sent_same k i v.bursts ∙ c.sent ∙ sym (set_same F bs k a b is);
      count = c.count;
      past = rw (length_changed k (landed i) v.bursts) c.past;
      ways = ways_left;
    })

  pub carries_lost_all : Carries F (quieted v) ends (map lost_everywhere bs)
  carries_lost_all = record { sent = c.sent ∙ sym same; count = c.count; past = omega arith; ways = lost }
    where
      same : map (sent_of F) (map lost_everywhere bs) ≡ map (sent_of F) bs
      same = go bs
        where
          go : (l : List Burst) → map (sent_of F) (map lost_everywhere l) ≡ map (sent_of F) l
          go [] = refl
          go (b ∷ l) = ap (λ r. sent_of F b ∷ r) (go l)

      gone_there : (a : ℕ) (o : Option Burst) → flies_to a (option_map lost_everywhere o) ≡ false
      gone_there a None = refl
      gone_there a (Some b) = all_false 33 a

      lost : (i k : ℕ) → i < length ends → on_way i (suc k) (quieted v) ≡ flies (get_or ends i 0) k (map lost_everywhere bs)
      lost i k h =
          ⊎_elim
          (λ (l : k < length v.bursts). at_place i k (quieted v) ∙ and_left _ (marked i (slice_get v.bursts k)) (le-ltb (length v.bursts) (suc k) (omega arith)))
          (λ l. none_there i k (quieted v) l)
          (cases_lt k (length v.bursts))
          ∙ sym (ap (flies_to (get_or ends i 0)) (slice_get-map lost_everywhere bs k) ∙ gone_there (get_or ends i 0) (slice_get bs k))

  -- ## an end more, before the first burst

  pub carries_joined : (a : ℕ) → bs ≡ [] → Carries F (record { bursts = v.bursts; quiet = v.quiet; ends = v.ends + 1 }) (ends ++ a ∷ []) bs
  carries_joined a none = record { sent = c.sent; count = sym (length_push ends a ∙ ap (λ n. n + 1) (sym c.count)); past = c.past; ways = still }
    where
      v' : View
      v' = record { bursts = v.bursts; quiet = v.quiet; ends = v.ends + 1 }

      few : length v.bursts ≡ 0
      few = as_many ∙ ap length none

      still : (i k : ℕ) → i < length (ends ++ a ∷ []) → on_way i (suc k) v' ≡ flies (get_or (ends ++ a ∷ []) i 0) k bs
      still i k h = none_there i k v' (omega (arith, few)) ∙ sym (ap (λ l. flies (get_or (ends ++ a ∷ []) i 0) k l) none)

  -- ## silence

  never : Silent v → (i k : ℕ) → on_way i (suc k) v ≡ false
  never s i k =
      ⊎_elim
      (λ on. let t = taken i (suc k) v on in let z : ◌≡◌ {A = ℕ} 0 1 = full t.newer t.taken t.older (sym t.before ∙ s i) in absurd (omega (arith, z)))
      (λ off. off)
      (cases_Bool (on_way i (suc k) v))
    where
      full : (xs : List Sent) (x : Sent) (ys : List Sent) → xs ++ (x ∷ ys) ≡ [] → ◌≡◌ {A = ℕ} 0 1
      full [] x ys e = cc
      full (y ∷ xs) x ys e = cc

  pub none_under_way : Silent v → (i : ℕ) → i < length ends → NoneTo (get_or ends i 0) bs
  none_under_way s i h = go bs (λ k. sym (c.ways i k h) ∙ never s i k)
    where
      go : (l : List Burst) → ((k : ℕ) → flies (get_or ends i 0) k l ≡ false) → NoneTo (get_or ends i 0) l
      go [] n = tt
      go (b ∷ l) n = (n 0, go l (λ k. n (suc k)))

-- a line with no burst and no reader
pub carries_nothing : {X : Type 0} (F : Ghosts X) → Carries F new_line (0 ∷ []) []
carries_nothing F = record { sent = refl; count = refl; past = omega arith; ways = λ i k h. none_there i k new_line (omega arith) }
