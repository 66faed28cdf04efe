-- A line as plain data: every burst ever written, to which ends it is still on the way, and what each call does to that.
use Rattle.std.specs.Prelude.{◌≡◌, ℕ, zero, suc, ◌+◌, ◌-◌, ◌<◌, ◌≤◌, Bool, true, false, cond, ◌&&◌, List, [], ◌∷◌, ◌++◌, length, drop, replicate, Some, None, Option, ◌==◌, ◌≢◌, nat_lt, slice_index_or, slice_set}
use Rattle.std.specs.Option.{option_map}
use Rattle.std.specs.List.{slice_get}

-- what was sent: the symbols of a burst, and the number of what it belongs to
pub record Sent : Type 0 where
  pub symbols : List ℕ
  pub number : ℕ

-- a burst: what was sent, and for each end on the line whether it is still on the way to it
pub record Flight : Type 0 where
  pub sent : Sent
  pub ways : List Bool

-- a line: its bursts, oldest first; how many of them were before it was last quieted; how many ends it has, from 0 on
pub record View : Type 0 where
  pub bursts : List Flight
  pub quiet : ℕ
  pub ends : ℕ

-- of these bursts, oldest first, what is on the way to an end, newest first
unfoldable pub under_way : ℕ → List Flight → List Sent
under_way e [] = []
under_way e (f ∷ fs) = under_way e fs ++ cond (slice_index_or f.ways e false) (f.sent ∷ []) []

-- what is on the way to an end, newest first
abbrev pub way : ℕ → View → List Sent
way e v = under_way e (drop v.quiet v.bursts)

-- nothing is on the way to any end
abbrev pub Silent : View → Type 0
Silent v = (e : ℕ) → way e v ≡ []

-- burst k, counted from 1
abbrev pub burst_at : ℕ → View → Option Flight
burst_at k v = cond (k == 0) None (slice_get v.bursts (k - 1))

-- what was sent as burst k
abbrev pub sent_at : ℕ → View → Option Sent
sent_at k v = option_map (λ f. f.sent) (burst_at k v)

-- whether a burst, if there is one, is marked as on the way to an end
abbrev pub marked : ℕ → Option Flight → Bool
marked e None = false
marked e (Some f) = slice_index_or f.ways e false

-- whether burst k is on the way to an end
abbrev pub on_way : ℕ → ℕ → View → Bool
on_way e k v = nat_lt v.quiet k && marked e (burst_at k v)

-- a line with the concentrator alone, end 0
abbrev pub new_line : View
new_line = record { bursts = []; quiet = 0; ends = 1 }

-- whether one end more may come: before the first burst, up to 33 ends
abbrev pub open_to_join : View → Bool
open_to_join v = length v.bursts == 0 && nat_lt v.ends 33

-- the number of the end that joins
abbrev pub join_answer : View → Option ℕ
join_answer v = cond (open_to_join v) (Some v.ends) None

-- the line after an end joined, if it may
abbrev pub joined : View → View
joined v = cond (open_to_join v) (record { bursts = v.bursts; quiet = v.quiet; ends = v.ends + 1 }) v

-- symbols and a number, as they are sent
abbrev pub as_sent : List ℕ → ℕ → Sent
as_sent ss n = record { symbols = ss; number = n }

-- the line after one burst more, which is on the way to every end
abbrev pub launched : Sent → View → View
launched s v = record { bursts = v.bursts ++ record { sent = s; ways = replicate v.ends true } ∷ []; quiet = v.quiet; ends = v.ends }

-- a burst that came to an end
abbrev pub landed : ℕ → Flight → Flight
landed e f = record { sent = f.sent; ways = slice_set f.ways e false }

-- one place of a list changed
unfoldable pub changed_at : {A : Type 0} → ℕ → (A → A) → List A → List A
changed_at i change [] = []
changed_at zero change (x ∷ xs) = change x ∷ xs
changed_at (suc i) change (x ∷ xs) = x ∷ changed_at i change xs

-- the line after burst k came to an end, if it was on the way to it
abbrev pub arrived : ℕ → ℕ → View → View
arrived e k v = cond (on_way e k v) (record { bursts = changed_at (k - 1) (landed e) v.bursts; quiet = v.quiet; ends = v.ends }) v

-- the line after everything on the way was lost
abbrev pub quieted : View → View
quieted v = record { bursts = v.bursts; quiet = length v.bursts; ends = v.ends }

-- to how many of these ends
unfoldable pub trues : List Bool → ℕ
trues [] = 0
trues (b ∷ bs) = cond b 1 0 + trues bs

-- how many pairs there are of one of these bursts and an end that it is on the way to
unfoldable pub pairs : List Flight → ℕ
pairs [] = 0
pairs (f ∷ fs) = trues f.ways + pairs fs

-- s is sent: it is the newest on the way to every end on the line, and on the way to no other
pub record Spread (s : Sent) (v w : View) : Type 0 where
  pub on_line : (e : ℕ) → e < v.ends → way e w ≡ s ∷ way e v
  pub off_line : (e : ℕ) → v.ends ≤ e → way e w ≡ way e v

-- burst k, which was on the way to an end, is so no more; what is on the way to other ends stays
pub record Taken (e k : ℕ) (v w : View) : Type 0 where
  pub newer : List Sent
  pub taken : Sent
  pub older : List Sent
  pub burst : sent_at k v ≡ Some taken
  pub before : way e v ≡ newer ++ (taken ∷ older)
  pub after : way e w ≡ newer ++ older
  pub others : (d : ℕ) → (d ≢ e) → way d w ≡ way d v
