-- What is on the way to each end after a burst was sent, after it came to an end, and when the line is silent.
use Rattle.std.proofs.Common.{◌≡◌, ℕ, zero, suc, ◌+◌, ◌-◌, ◌<◌, ◌≤◌, Bool, true, false, cond, eqb, ltb, List, [], ◌∷◌, ◌++◌, length, get_or, drop, replicate, Some, None, sym, refl, ap, ◌∙◌, ap₂, arith}
use Rattle.line.proofs.Flags.{cleared, none_marked, none_true, one_less}
use Rattle.line.specs.Ways.{Flight, Sent, Silent, Spread, Taken, View, arrived, burst_at, changed_at, landed, launched, marked, on_way, pairs, quieted, trues, under_way, way}
use Rattle.std.proofs.lemmas.List.{append_assoc, append-nil, drop_all, drop-append-le, get_or_past, get_or-replicate, get_or-set_other, length-replicate}
use Rattle.std.proofs.lemmas.Bool.{and_parts, false≢true, ltb-true, ne_eqb}
use Rattle.std.specs.Option.{option_map}
use Rattle.std.specs.List.{slice_get}

-- one burst, if it is on the way
abbrev one : Bool → Sent → List Sent
one b s = cond b (s ∷ []) []

under_append : (e : ℕ) (xs ys : List Flight) → under_way e (xs ++ ys) ≡ under_way e ys ++ under_way e xs
unfolding under_way
under_append e [] ys = sym (append-nil (under_way e ys))
under_append e (x ∷ xs) ys =
    let x' = one (get_or x.ways e false) x.sent in
    ap (λ l. l ++ x') (under_append e xs ys) ∙ append_assoc (under_way e ys) (under_way e xs) x'

under_push :
    (e q : ℕ) (fs : List Flight) (f : Flight) →
    q ≤ length fs →
    under_way e (drop q (fs ++ f ∷ [])) ≡ one (get_or f.ways e false) f.sent ++ under_way e (drop q fs)
unfolding under_way
under_push e q fs f h = ap (under_way e) (drop-append-le q fs (f ∷ []) h) ∙ under_append e (drop q fs) (f ∷ [])

-- a burst that is sent is the newest on the way to every end on the line, and on the way to no other
pub spread : (s : Sent) (v : View) → v.quiet ≤ length v.bursts → Spread s v (launched s v)
spread s v h =
    let new : Flight = record { sent = s; ways = replicate v.ends true } in
    let more : (e : ℕ) → way e (launched s v) ≡ one (get_or (replicate v.ends true) e false) s ++ way e v =
    λ e. under_push e v.quiet v.bursts new h
    in
    record {
      on_line = λ e l. more e ∙ ap (λ b. one b s ++ way e v) (get_or-replicate v.ends e true false l);
      off_line = λ e l. more e ∙ ap (λ b. one b s ++ way e v) (get_or_past (replicate v.ends true) e false (rw length-replicate l));
    }

taken_out :
    (e i : ℕ) (fs : List Flight) →
    marked e (slice_get fs i) ≡ true →
    (newer : List Sent) × (s : Sent) × (older : List Sent) ×
    (option_map (λ f. f.sent) (slice_get fs i) ≡ Some s) ×
    (under_way e fs ≡ newer ++ (s ∷ older)) ×
    (under_way e (changed_at i (landed e) fs) ≡ newer ++ older)
unfolding under_way changed_at
taken_out e i [] h = absurd (false≢true h)
taken_out e zero (f ∷ fs) h =
    let rest = under_way e fs in
    (rest, f.sent, [], refl, ap (λ b. rest ++ one b f.sent) h, ap (λ b. rest ++ one b f.sent) (cleared f.ways e))
taken_out e (suc i) (f ∷ fs) h =
    let t = taken_out e i fs h in
    let f' = one (get_or f.ways e false) f.sent in
    (t.0, t.1, t.2 ++ f', t.3, ap (λ l. l ++ f') t.4 ∙ append_assoc t.0 (t.1 ∷ t.2) f', ap (λ l. l ++ f') t.5 ∙ append_assoc t.0 t.2 f')

others_stay :
    (d e i : ℕ) (fs : List Flight) → (d ≡ e → ⊥) → under_way d (changed_at i (landed e) fs) ≡ under_way d fs
unfolding under_way changed_at
others_stay d e i [] n = refl
others_stay d e zero (f ∷ fs) n =
    ap (λ b. under_way d fs ++ one b f.sent) (get_or-set_other f.ways e d false false n)
others_stay d e (suc i) (f ∷ fs) n =
    ap (λ l. l ++ one (get_or f.ways d false) f.sent) (others_stay d e i fs n)

drop_changed :
    {A : Type 0} (q i j : ℕ) (change : A → A) (xs : List A) →
    i ≡ q + j →
    drop q (changed_at i change xs) ≡ changed_at j change (drop q xs)
unfolding changed_at
drop_changed zero i j change xs h = let k : i ≡ j = omega arith in ap (λ n. changed_at n change xs) k
drop_changed (suc q) zero j change xs h = absurd (omega arith)
drop_changed (suc q) (suc i) j change [] h = refl
drop_changed (suc q) (suc i) j change (x ∷ xs) h = drop_changed q i j change xs (omega arith)

nth_drop : {A : Type 0} (q i j : ℕ) (xs : List A) → i ≡ q + j → slice_get (drop q xs) j ≡ slice_get xs i
nth_drop zero i j xs h = let k : j ≡ i = omega arith in ap (slice_get xs) k
nth_drop (suc q) zero j xs h = absurd (omega arith)
nth_drop (suc q) (suc i) j [] h = refl
nth_drop (suc q) (suc i) j (x ∷ xs) h = nth_drop q i j xs (omega arith)

-- burst k is there, and marked
pub on_way_parts :
    (e k : ℕ) (v : View) → on_way e k v ≡ true → (v.quiet < k) × (marked e (slice_get v.bursts (k - 1)) ≡ true)
on_way_parts e k v h =
    let both = and_parts (ltb v.quiet k) (marked e (burst_at k v)) h in
    let late : v.quiet < k = ltb-true v.quiet k both.0 in
    let some : eqb k 0 ≡ false = ne_eqb k 0 (λ z. omega arith) in
    (late, ap (λ b. marked e (cond b None (slice_get v.bursts (k - 1)))) (sym some) ∙ both.1)

-- a burst that comes to an end is taken off the way to it, and off no other
pub taken : (e k : ℕ) (v : View) → on_way e k v ≡ true → Taken e k v (arrived e k v)
taken e k v h =
    let parts = on_way_parts e k v h in
    let late = parts.0 in
    let q = v.quiet in
    let j = k - 1 - q in
    let step : k - 1 ≡ q + j = omega arith in
    let fs = v.bursts in
    let here = nth_drop q (k - 1) j fs step in
    let out = taken_out e j (drop q fs) (ap (marked e) here ∙ parts.1) in
    let w : View = record { bursts = changed_at (k - 1) (landed e) fs; quiet = q; ends = v.ends } in
    let now : arrived e k v ≡ w = ap (λ b. cond b w v) h in
    let moved : (d : ℕ) → way d (arrived e k v) ≡ under_way d (changed_at j (landed e) (drop q fs)) =
    λ d. ap (way d) now ∙ ap (under_way d) (drop_changed q (k - 1) j (landed e) fs step)
    in
    let some : eqb k 0 ≡ false = ne_eqb k 0 (λ z. omega arith) in
    record {
      newer = out.0;
      taken = out.1;
      older = out.2;
      burst = ap (λ b. option_map (λ f. f.sent) (cond b None (slice_get fs (k - 1)))) some ∙ ap (option_map (λ f. f.sent)) (sym here) ∙ out.3;
      before = out.4;
      after = moved e ∙ out.5;
      others = λ d n. moved d ∙ others_stay d e j (drop q fs) n;
    }

-- a line after everything was lost is silent
pub lost_all : (v : View) → Silent (quieted v)
unfolding under_way
lost_all v e = ap (under_way e) (drop_all (length v.bursts) v.bursts (omega arith))

pairs_push : (fs : List Flight) (f : Flight) → pairs (fs ++ f ∷ []) ≡ pairs fs + trues f.ways
unfolding pairs
pairs_push [] f = omega arith
pairs_push (g ∷ fs) f = let rest = pairs_push fs f in omega arith

-- a burst more counts for so many ends
pub pairs_launched :
    (q : ℕ) (fs : List Flight) (f : Flight) →
    q ≤ length fs →
    pairs (drop q (fs ++ f ∷ [])) ≡ pairs (drop q fs) + trues f.ways
pairs_launched q fs f h = ap pairs (drop-append-le q fs (f ∷ []) h) ∙ pairs_push (drop q fs) f

pairs_less :
    (e i : ℕ) (fs : List Flight) → marked e (slice_get fs i) ≡ true → pairs (changed_at i (landed e) fs) + 1 ≡ pairs fs
unfolding pairs changed_at
pairs_less e i [] h = absurd (false≢true h)
pairs_less e zero (f ∷ fs) h = let less = one_less f.ways e h in omega arith
pairs_less e (suc i) (f ∷ fs) h = let less = pairs_less e i fs h in omega arith

-- a burst that came to an end counts for one end less
pub pairs_arrived :
    (e i q : ℕ) (fs : List Flight) →
    q ≤ i →
    marked e (slice_get fs i) ≡ true →
    pairs (drop q (changed_at i (landed e) fs)) + 1 ≡ pairs (drop q fs)
pairs_arrived e i q fs h m =
    let j = i - q in
    let step : i ≡ q + j = omega arith in
    let less = pairs_less e j (drop q fs) (ap (marked e) (nth_drop q i j fs step) ∙ m) in
    let same = ap pairs (drop_changed q i j (landed e) fs step) in
    omega arith

-- no pair is on the way: silence
pub silence : (fs : List Flight) → pairs fs ≡ 0 → (e : ℕ) → under_way e fs ≡ []
unfolding pairs under_way
silence [] h e = refl
silence (f ∷ fs) h e =
    ap₂ ◌++◌ (silence fs (omega arith) e) (ap (λ b. one b f.sent) (none_marked f.ways (omega arith) e))

both_empty : {A : Type 0} (xs ys : List A) → xs ++ ys ≡ [] → (xs ≡ []) × (ys ≡ [])
both_empty [] ys h = (refl, h)
both_empty (x ∷ xs) ys h = (cc, cc)

not_one : (b : Bool) (s : Sent) → one b s ≡ [] → b ≡ false
not_one true s h = cc
not_one false s h = refl

-- silence: no pair is on the way
pub no_pairs : (fs : List Flight) → ((e : ℕ) → under_way e fs ≡ []) → pairs fs ≡ 0
unfolding pairs under_way
no_pairs [] h = refl
no_pairs (f ∷ fs) h =
    let parts : (e : ℕ) → (under_way e fs ≡ []) × (one (get_or f.ways e false) f.sent ≡ []) =
    λ e. both_empty (under_way e fs) (one (get_or f.ways e false) f.sent) (h e)
    in
    let none = none_true f.ways (λ e. not_one (get_or f.ways e false) f.sent (parts e).1) in
    let rest = no_pairs fs (λ e. (parts e).0) in
    omega arith
