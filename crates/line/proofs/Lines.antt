-- The line in memory: its bursts as plain data, place by place.
use Rattle.std.proofs.Common.{◌≡◌, ℕ, zero, suc, ◌+◌, ◌-◌, ◌*◌, ◌^◌, ◌<◌, ◌≤◌, Bool, true, false, cond, ◌&&◌, eqb, ltb, ◌⊎◌, List, [], ◌∷◌, ◌++◌, length, get_or, take, drop, set, replicate, Some, None, Option, sym, refl, ap, ◌∙◌, ⊎_elim, arith}
use Rattle.line.proofs.Flags.{all_true, most_true, take_cleared}
use Rattle.line.proofs.Ways.{on_way_parts, pairs_arrived, pairs_launched}
use Rattle.line.specs.Bursts.{flight, flights}
use Rattle.line.specs.Lines.{view}
use Rattle.line.specs.Ways.{Flight, Silent, View, arrived, as_sent, burst_at, changed_at, join_answer, joined, landed, marked, on_way, open_to_join, pairs, trues, under_way, way}
use Rattle.line.specs.declared.Line.{Line}
use Rattle.line.specs.declared.burst.Burst.{Burst}
use Rattle.std.proofs.lemmas.List.{drop_all, drop-map, get_or_past, length-drop, length-take, map_push, take-replicate}
use Rattle.std.proofs.lemmas.Bool.{and_from, and_left, and_right, both_ways, cases_lt, cond-false, cond-true, eq-eqb, false≢true, le-ltb, lt-ltb, ne_eqb}
use Rattle.std.specs.List.{slice_get}

none_apart : (n e : ℕ) (bs : List Burst) → n ≤ e → under_way e (flights n bs) ≡ []
unfolding under_way
none_apart n e [] h = refl
none_apart n e (b ∷ bs) h =
    let short : length (take n b.ways) ≤ e = simp length-take (omega arith) in
    simp (none_apart n e bs h, get_or_past (take n b.ways) e false short)

-- nothing is ever on the way to an end that is not on the line
pub apart : (l : Line) (e : ℕ) → l.ends ≤ e → way e (view l) ≡ []
apart l e h =
    let bs = l.bursts.items in
    ap (under_way e) (drop-map (flight l.ends) l.quiet bs) ∙ none_apart l.ends e (drop l.quiet bs) h

-- before the first burst nothing is on the way
pub none_sent : (v : View) → length v.bursts ≤ 0 → Silent v
unfolding under_way
none_sent v h e = ap (under_way e) (drop_all v.quiet v.bursts (omega arith))

-- and it does not matter how many ends there are
pub no_flights : (m n : ℕ) (bs : List Burst) → length bs ≤ 0 → flights m bs ≡ flights n bs
no_flights m n [] h = refl
no_flights m n (b ∷ bs) h = absurd (omega arith)

off_line : (n e i : ℕ) (bs : List Burst) → n ≤ e → marked e (slice_get (flights n bs) i) ≡ false
off_line n e i [] h = refl
off_line n e zero (b ∷ bs) h =
    let short : length (take n b.ways) ≤ e = simp length-take (omega arith) in
    get_or_past (take n b.ways) e false short
off_line n e (suc i) (b ∷ bs) h = off_line n e i bs h

on_line : (n e i : ℕ) (bs : List Burst) → marked e (slice_get (flights n bs) i) ≡ true → e < n
on_line n e i bs h =
    ⊎_elim (λ (l : e < n). l) (λ (l : n ≤ e). absurd (both_ways (marked e (slice_get (flights n bs) i)) (off_line n e i bs l) h)) (cases_lt e n)

within : (n e i : ℕ) (bs : List Burst) → marked e (slice_get (flights n bs) i) ≡ true → i < length bs
within n e i [] h = absurd (false≢true h)
within n e zero (b ∷ bs) h = omega arith
within n e (suc i) (b ∷ bs) h = let rest = within n e i bs h in omega arith

-- a burst on the way was sent since the line was last quieted, and is on the way to an end on the line
pub record Bound (l : Line) (e k : ℕ) : Type 0 where
  pub late : l.quiet < k
  pub there : k - 1 < l.bursts.len
  pub joined : e < l.ends
  pub mark : marked e (slice_get (flights l.ends l.bursts.items) (k - 1)) ≡ true

pub bound : (l : Line) (e k : ℕ) → on_way e k (view l) ≡ true → Bound l e k
bound l e k h =
    let parts = on_way_parts e k (view l) h in
    let bs = l.bursts.items in
    let there = within l.ends e (k - 1) bs parts.1 in
    let long = l.bursts.ok.0 in
    record { late = parts.0; there = omega arith; joined = on_line l.ends e (k - 1) bs parts.1; mark = parts.1 }

-- nothing is on the way to an end that is not on the line
pub not_bound : (l : Line) (e k : ℕ) → l.ends ≤ e → on_way e k (view l) ≡ false
not_bound l e k h =
    let o = slice_get (flights l.ends l.bursts.items) (k - 1) in
    let none : (b : Bool) → marked e (cond b None o) ≡ false =
    λ b. elim b as (λ z. marked e (cond z None o) ≡ false) [ true ↦ refl | false ↦ off_line l.ends e (k - 1) l.bursts.items h ]
    in
    and_right (ltb l.quiet k) (marked e (burst_at k (view l))) (none (eqb k 0))

-- a burst that was sent since is on the way as it is marked
pub as_marked : (e k : ℕ) (v : View) (o : Option Flight) → v.quiet < k → o ≡ burst_at k v → marked e o ≡ on_way e k v
as_marked e k v o h is =
    ap (marked e) is ∙ sym (ap (λ b. b && marked e (burst_at k v)) (lt-ltb v.quiet k h))

-- the burst x at i comes to an end
one_landed :
    (n e i : ℕ) (bs : List Burst) (x : Burst) →
    e < n →
    i < length bs →
    x ≡ get_or bs i x →
    flights n (set bs i (record { symbols = x.symbols; number = x.number; ways = set x.ways e false })) ≡ changed_at i (landed e) (flights n bs)
unfolding changed_at
one_landed n e i [] x h l is = absurd (omega arith)
one_landed n e zero (b ∷ bs) x h l is =
    let same = ap (λ ws. record { sent = as_sent x.symbols.items x.number; ways = ws }) (take_cleared n x.ways e h) in
    ap (λ f. f ∷ flights n bs) (same ∙ ap (λ z. landed e (flight n z)) is)
one_landed n e (suc i) (b ∷ bs) x h l is =
    ap (λ fs. flight n b ∷ fs) (one_landed n e i bs x h (omega arith) is)

module _ (l : Line) (e k : ℕ) (x : Burst) (h : on_way e k (view l) ≡ true) (is : x ≡ get_or l.bursts.items (k - 1) x) where
  -- burst k after it came to the end
  abbrev after_landing : List Flight
  after_landing =
      flights l.ends (set l.bursts.items (k - 1) (record { symbols = x.symbols; number = x.number; ways = set x.ways e false }))

  after_is : after_landing ≡ changed_at (k - 1) (landed e) (flights l.ends l.bursts.items)
  after_is =
      let b = bound l e k h in
      let there = b.there in
      let long = l.bursts.ok.0 in
      one_landed l.ends e (k - 1) l.bursts.items x b.joined (omega arith) is

  -- one pair less is on the way
  pub counted_less : l.pending ≡ pairs (drop l.quiet after_landing) + 1
  counted_less =
      let b = bound l e k h in
      let late = b.late in
      let less = pairs_arrived e (k - 1) l.quiet (flights l.ends l.bursts.items) (omega arith) b.mark in
      let same = ap (λ fs. pairs (drop l.quiet fs)) after_is in
      let count = l.counted in
      omega arith

  -- and the line is as it is to be
  pub view_less : record { bursts = after_landing; quiet = l.quiet; ends = l.ends } ≡ arrived e k (view l)
  view_less =
      let fs = changed_at (k - 1) (landed e) (flights l.ends l.bursts.items) in
      let w : View = record { bursts = fs; quiet = l.quiet; ends = l.ends } in
      ap (λ gs. record { bursts = gs; quiet = l.quiet; ends = l.ends }) after_is ∙ sym (cond-true (on_way e k (view l)) w (view l) h)

-- an end that may not join
pub shut : (v : View) → (0 < length v.bursts) ⊎ (33 ≤ v.ends) → (None ≡ join_answer v) × (v ≡ joined v)
shut v h =
    let no : open_to_join v ≡ false =
    ⊎_elim (λ (l : 0 < length v.bursts). and_left (eqb (length v.bursts) 0) (ltb v.ends 33) (ne_eqb (length v.bursts) 0 (λ z. omega arith)))
    (λ (l : 33 ≤ v.ends). and_right (eqb (length v.bursts) 0) (ltb v.ends 33) (le-ltb v.ends 33 l)) h
    in
    let w : View = record { bursts = v.bursts; quiet = v.quiet; ends = v.ends + 1 } in
    (sym (cond-false (open_to_join v) (Some v.ends) None no), sym (cond-false (open_to_join v) w v no))

-- an end that joins
pub opened :
    (v : View) →
    length v.bursts ≤ 0 →
    v.ends < 33 →
    (Some v.ends ≡ join_answer v) × (record { bursts = v.bursts; quiet = v.quiet; ends = v.ends + 1 } ≡ joined v)
opened v h l =
    let yes = and_from (eqb (length v.bursts) 0) (ltb v.ends 33) (eq-eqb (length v.bursts) 0 (omega arith)) (lt-ltb v.ends 33 l) in
    let w : View = record { bursts = v.bursts; quiet = v.quiet; ends = v.ends + 1 } in
    (sym (cond-true (open_to_join v) (Some v.ends) None yes), sym (cond-true (open_to_join v) w v yes))

-- one burst more, marked for every end
pub one_more :
    (n : ℕ) (bs all : List Burst) (b : Burst) →
    n ≤ 33 →
    b.ways ≡ replicate 33 true →
    all ≡ bs ++ b ∷ [] →
    flights n all ≡ flights n bs ++ record { sent = as_sent b.symbols.items b.number; ways = replicate n true } ∷ []
one_more n bs all b h marks is =
    let every = ap (take n) marks ∙ take-replicate n 33 true h in
    ap (flights n) is ∙ map_push (flight n) bs b ∙ ap (λ ws. flights n bs ++ record { sent = as_sent b.symbols.items b.number; ways = ws } ∷ []) every

-- it counts once for each end
pub counted_more :
    (n q pending : ℕ) (fs : List Flight) (f : Flight) (all : List Flight) →
    q ≤ length fs →
    f.ways ≡ replicate n true →
    all ≡ fs ++ f ∷ [] →
    pending ≡ pairs (drop q fs) →
    pending + n ≡ pairs (drop q all)
counted_more n q pending fs f all h marks is count =
    let more = pairs_launched q fs f h in
    let new = ap trues marks ∙ all_true n in
    let whole = ap (λ gs. pairs (drop q gs)) is in
    omega arith

few : (n : ℕ) (bs : List Burst) → n ≤ 33 → pairs (flights n bs) ≤ 33 * length bs
unfolding pairs
few n [] h = omega arith
few n (b ∷ bs) h = let rest = few n bs h in let here = most_true n b.ways in omega arith

-- the count of pairs fits its type, with a burst more too
pub count_fits :
    (n q pending : ℕ) (bs : List Burst) →
    n ≤ 33 →
    length bs < 2 ^ 63 →
    pending ≡ pairs (drop q (flights n bs)) →
    pending + n < 2 ^ 128
count_fits n q pending bs h l count =
    let same = ap pairs (drop-map (flight n) q bs) in
    let most = few n (drop q bs) h in
    let short = length-drop q bs in
    omega arith
