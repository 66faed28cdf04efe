-- The concentrator, its readers and the line: what holds of all of them, and that each move keeps it.
use Rattle.std.proofs.Common.{◌≡◌, ℕ, zero, suc, ◌-◌, ◌<◌, ◌≤◌, Bool, true, false, cond, not, ◌&&◌, eqb, List, [], ◌∷◌, ◌++◌, length, get_or, set, Some, None, Ok, Option, Result, sym, refl, ap, ◌∙◌, subst, arith, get_or-set_other, get_or-set_same, eqb-true}
use borrow.Author.Tests.{eqb-false}
use Rattle.account.proofs.Bursts.{alive, answer_dead, keep, left_dead, left_elsewhere, new_burst, none_left, only_left, request_alive, request_dead, still_none, word, written_dead, written_live}
use Rattle.account.proofs.Hearing.{Good, hearing}
use Rattle.account.proofs.Pair.{Carries, Counted, Flying, Live, Meant, Open, Pair, View, Word, alive_back, answer_flies, coming, going, next_is, none_flies, nowhere, open_for, pair_ended, request_flies, shut, verdict_of, verdict_same, view}
use Rattle.account.proofs.Stations.{Distinct, address_of, all_both, all_changed, all_map, own_number, turned_round}
use Rattle.account.specs.Books.{Station, change, ended, found, newest_send, newest_sent, turned}
use Rattle.account.specs.Line.{Burst, gone, on_way}
use Rattle.fault.specs.declared.Fault.{Fault}
use Rattle.rules.specs.Concentrator.{link_after, request_telegram, transmission, verdict}
use Rattle.rules.specs.Links.{change_link, link_at, unset_link}
use Rattle.rules.specs.Messages.{within}
use Rattle.rules.specs.Reader.{Turn, hear_telegram}
use Rattle.rules.specs.declared.link.Link.{Link}
use Rattle.rules.specs.declared.records.Ending.{Ending}
use Rattle.rules.specs.declared.records.Exchange.{Exchange}
use Rattle.rules.specs.declared.records.Request.{Request}
use Rattle.std.proofs.lemmas.Bool.Decides.{nat_tests}
use Rattle.std.specs.List.{AllByRecursion}

abbrev pub Known : ℕ → Type 0
Known a = within 1 32 a ≡ true

pub known_few : (a : ℕ) → Known a → a < 33
known_few a k = grind (arith, nat_tests)

pub known_some : (a : ℕ) → Known a → eqb 0 a ≡ false
known_some a k = grind (arith, nat_tests)

-- what the one burst shows of itself at its reader, and at the concentrator
abbrev pub shown_to : Live → List Word
shown_to nowhere = []
shown_to (going x) = x ∷ []
shown_to (coming x) = []

abbrev pub shown_back : Live → List Word
shown_back nowhere = []
shown_back (going x) = []
shown_back (coming x) = x ∷ []

-- the exchange that is open to an address, and the one burst there
abbrev pub open_at : Option Exchange → ℕ → Open
open_at None a = shut
open_at (Some x) a = cond (eqb x.station a) (open_for x.request x.bit) shut

abbrev pub live_at : Option Exchange → Live → ℕ → Live
live_at None f a = nowhere
live_at (Some x) f a = cond (eqb x.station a) f nowhere

abbrev pub live_in : Option Exchange → Live → Live
live_in None f = nowhere
live_in (Some x) f = f

-- a reader, its link, the exchange open to it and the one burst: how they stand
pub record Stood (a : ℕ) (l : Link) (o : Open) (f : Live) (bursts : List Burst) (v : View) : Type 0 where
  pub pair : Pair a l o f v
  pub way : keep (alive a) a bursts ≡ shown_to f
  pub known : Known a

abbrev pub Stands : List Link → Option Exchange → Live → List Burst → Station → Type 0
Stands links x f bursts s =
    Stood (address_of s) (link_at links (address_of s)) (open_at x (address_of s)) (live_at x f (address_of s)) bursts (view s)

abbrev pub OpenKnown : Option Exchange → Type 0
OpenKnown None = Unit {0}
OpenKnown (Some x) = Known x.station

pub record State (links : List Link) (x : Option Exchange) (bursts : List Burst) (stations : List Station) : Type 0 where
  pub live : Live
  pub each : AllByRecursion (Stands links x live bursts) stations
  pub back : keep alive_back 0 bursts ≡ shown_back (live_in x live)
  pub known : OpenKnown x

-- by whether the exchange is open to this reader
abbrev StoodIf : Bool → Exchange → ℕ → Link → Live → List Burst → View → Type 0
StoodIf z x a l f bursts v = Stood a l (cond z (open_for x.request x.bit) shut) (cond z f nowhere) bursts v

pub to_case : (x : Exchange) (a : ℕ) (l : Link) (f : Live) (bursts : List Burst) (v : View) (z : Bool) → eqb x.station a ≡ z
    → Stood a l (open_at (Some x) a) (live_at (Some x) f a) bursts v → StoodIf z x a l f bursts v
to_case x a l f bursts v z e h = subst (λ y. StoodIf y x a l f bursts v) e h

pub from_case : (x : Exchange) (a : ℕ) (l : Link) (f : Live) (bursts : List Burst) (v : View) (z : Bool) → eqb x.station a ≡ z
    → StoodIf z x a l f bursts v → Stood a l (open_at (Some x) a) (live_at (Some x) f a) bursts v
from_case x a l f bursts v z e h = subst (λ y. StoodIf y x a l f bursts v) (sym e) h

-- a station that has changed, and the relation with it not
pub stands_kept : (links : List Link) (x : Option Exchange) (f : Live) (bursts : List Burst) (s t : Station) → address_of t ≡ address_of s
    → ((l : Link) (o : Open) (g : Live) → Pair (address_of s) l o g (view s) → Pair (address_of s) l o g (view t))
    → Stands links x f bursts s → Stands links x f bursts t
stands_kept links x f bursts s t e k h =
    subst (λ c. Stood c (link_at links c) (open_at x c) (live_at x f c) bursts (view t)) (sym e)
    (record { pair = k _ _ _ h.pair; way = h.way; known = h.known })

-- ## a burst is lost, or heard and refused

abbrev pub kill_going : Live → Live
kill_going nowhere = nowhere
kill_going (going x) = nowhere
kill_going (coming x) = coming x

abbrev pub kill_coming : Live → Live
kill_coming nowhere = nowhere
kill_coming (going x) = going x
kill_coming (coming x) = nowhere

pub pair_lost : (a : ℕ) (l : Link) (o : Open) (f : Live) (v : View) → Pair a l o f v → Pair a l o nowhere v
pair_lost a l o f v p = record { mode = p.mode; flying = none_flies; requests = p.requests; downs = p.downs; ups = p.ups; outs = p.outs }

pair_no_going : (a : ℕ) (l : Link) (o : Open) (f : Live) (v : View) → Pair a l o f v → Pair a l o (kill_going f) v
pair_no_going a l o nowhere v p = p
pair_no_going a l o (going x) v p = pair_lost a l o (going x) v p
pair_no_going a l o (coming x) v p = p

pair_no_coming : (a : ℕ) (l : Link) (o : Open) (f : Live) (v : View) → Pair a l o f v → Pair a l o (kill_coming f) v
pair_no_coming a l o nowhere v p = p
pair_no_coming a l o (going x) v p = p
pair_no_coming a l o (coming x) v p = pair_lost a l o (coming x) v p

back_no_going : (f : Live) → shown_back (kill_going f) ≡ shown_back f
back_no_going nowhere = refl
back_no_going (going x) = refl
back_no_going (coming x) = refl

to_no_coming : (f : Live) → shown_to (kill_coming f) ≡ shown_to f
to_no_coming nowhere = refl
to_no_coming (going x) = refl
to_no_coming (coming x) = refl

module _ (l : List Burst) (k : ℕ) (b : Burst) (n : k < length l) (h : get_or l k b ≡ b) where
  abbrev left_of : ℕ → List Burst
  left_of e = set l k (gone e b)

  -- at a reader's end, where it is not the one burst
  way_same : (e : ℕ) → on_way e b ≡ true → (c : ℕ) (g : Live) → (eqb e c ≡ true → alive e b.telegram ≡ true → shown_to g ≡ [])
      → keep (alive c) c l ≡ shown_to g → keep (alive c) c (left_of e) ≡ shown_to g
  way_same e o c g none q = go (eqb e c) refl
    where
      here : (z : Bool) → alive e b.telegram ≡ z → eqb e c ≡ true → keep (alive e) e l ≡ shown_to g → keep (alive e) e (left_of e) ≡ shown_to g
      here true d i r = none_left (alive e) e l k b n h o d (r ∙ none i d)
      here false d i r = left_dead (alive e) e l k b h d ∙ r

      go : (z : Bool) → eqb e c ≡ z → keep (alive c) c (left_of e) ≡ shown_to g
      go true i =
          subst (λ d. keep (alive d) d l ≡ shown_to g → keep (alive d) d (left_of e) ≡ shown_to g) (eqb-true e c i) (here (alive e b.telegram) refl i) q
      go false i = left_elsewhere (alive c) c e l k b i h ∙ q

  module _ (links : List Link) (e : ℕ) (o : on_way e b ≡ true) where
    -- no exchange is open
    idle_left : (s : Station) (f : Live) → Stands links None f l s → Stands links None f (left_of e) s
    idle_left s f p = record { pair = p.pair; way = way_same e o (address_of s) nowhere (λ i d. refl) p.way; known = p.known }

    module _ (x : Exchange) (f : Live) where
      -- the burst is not the one that may move something
      other_left : eqb x.station e && alive e b.telegram ≡ false → (s : Station) → Stands links (Some x) f l s → Stands links (Some x) f (left_of e) s
      other_left z s p =
          record { pair = p.pair; way = way_same e o (address_of s) (live_at (Some x) f (address_of s)) none p.way; known = p.known }
        where
          none : eqb e (address_of s) ≡ true → alive e b.telegram ≡ true → shown_to (live_at (Some x) f (address_of s)) ≡ []
          none i d =
              let r : eqb x.station e ≡ false = grind (arith, nat_tests) in
              ap (λ y. shown_to (cond y f nowhere)) (subst (λ c. eqb x.station c ≡ false) (eqb-true e (address_of s) i) r)

      -- it is that one
      own_left : eqb x.station e ≡ true → alive e b.telegram ≡ true → (s : Station) → Stands links (Some x) f l s → Stands links (Some x) (kill_going f) (left_of e) s
      own_left i d s p = go (eqb x.station (address_of s)) refl
        where
          killed : (z : Bool) → StoodIf z x (address_of s) (link_at links (address_of s)) f l (view s)
              → keep (alive (address_of s)) (address_of s) (left_of e) ≡ shown_to (cond z (kill_going f) nowhere)
              → StoodIf z x (address_of s) (link_at links (address_of s)) (kill_going f) (left_of e) (view s)
          killed true q w = record { pair = pair_no_going _ _ _ f _ q.pair; way = w; known = q.known }
          killed false q w = record { pair = q.pair; way = w; known = q.known }

          gone_way : (g : Live) → keep (alive e) e l ≡ shown_to g → keep (alive e) e (left_of e) ≡ shown_to (kill_going g)
          gone_way nowhere q = none_left (alive e) e l k b n h o d q
          gone_way (coming y) q = none_left (alive e) e l k b n h o d q
          gone_way (going y) q = (only_left (alive e) e l k b n h o d y q).1

          go : (z : Bool) → eqb x.station (address_of s) ≡ z → Stands links (Some x) (kill_going f) (left_of e) s
          go true r =
              let c : e ≡ address_of s = sym (eqb-true x.station e i) ∙ eqb-true x.station (address_of s) r in
              let q = to_case x _ _ f l _ true r p in
              from_case x _ _ (kill_going f) (left_of e) _ true r
              (killed true q (subst (λ y. keep (alive y) y l ≡ shown_to f → keep (alive y) y (left_of e) ≡ shown_to (kill_going f)) c (gone_way f) q.way))
          go false r =
              let c : eqb e (address_of s) ≡ false = subst (λ y. eqb y (address_of s) ≡ false) (eqb-true x.station e i) r in
              let q = to_case x _ _ f l _ false r p in
              from_case x _ _ (kill_going f) (left_of e) _ false r (killed false q (left_elsewhere (alive (address_of s)) (address_of s) e l k b c h ∙ q.way))

    -- a burst leaves a reader's end
    left_reader : eqb e 0 ≡ false → (x : Option Exchange) (stations : List Station) → State links x l stations → State links x (left_of e) stations
    left_reader r None stations st = record {
      live = st.live;
      each = all_map (Stands links None st.live l) (Stands links None st.live (left_of e)) stations (λ s p. idle_left s st.live p) st.each;
      back = left_elsewhere alive_back 0 e l k b r h ∙ st.back;
      known = tt;
    }
    left_reader r (Some x) stations st = go (eqb x.station e) (alive e b.telegram) refl refl
      where
        same : eqb x.station e && alive e b.telegram ≡ false → State links (Some x) (left_of e) stations
        same z = record {
          live = st.live;
          each = all_map (Stands links (Some x) st.live l) (Stands links (Some x) st.live (left_of e)) stations (other_left x st.live z) st.each;
          back = left_elsewhere alive_back 0 e l k b r h ∙ st.back;
          known = st.known;
        }

        go : (y z : Bool) → eqb x.station e ≡ y → alive e b.telegram ≡ z → State links (Some x) (left_of e) stations
        go true true i d = record {
          live = kill_going st.live;
          each = all_map (Stands links (Some x) st.live l) (Stands links (Some x) (kill_going st.live) (left_of e)) stations (own_left x st.live i d) st.each;
          back = left_elsewhere alive_back 0 e l k b r h ∙ st.back ∙ sym (back_no_going st.live);
          known = st.known;
        }
        go true false i d = same (ap (λ y. y && alive e b.telegram) i ∙ d)
        go false z i d = same (ap (λ y. y && alive e b.telegram) i)

  -- a burst leaves the concentrator's end
  module _ (links : List Link) (o : on_way 0 b ≡ true) where
    -- at every reader the same are on the way
    way_home : (s : Station) (g : Live) → Known (address_of s) → keep (alive (address_of s)) (address_of s) l ≡ shown_to g → keep (alive (address_of s)) (address_of s) (left_of 0) ≡ shown_to g
    way_home s g ks q = left_elsewhere (alive (address_of s)) (address_of s) 0 l k b (known_some (address_of s) ks) h ∙ q

    stands_home : (x : Option Exchange) (f : Live) (s : Station) → Stands links x f l s → Stands links x f (left_of 0) s
    stands_home x f s p = record { pair = p.pair; way = way_home s (live_at x f (address_of s)) p.known p.way; known = p.known }

    answer_home : (x : Exchange) (f : Live) (s : Station) → Stands links (Some x) f l s → Stands links (Some x) (kill_coming f) (left_of 0) s
    answer_home x f s p = go (eqb x.station (address_of s)) refl
      where
        killed : (z : Bool) → StoodIf z x (address_of s) (link_at links (address_of s)) f l (view s) → StoodIf z x (address_of s) (link_at links (address_of s)) (kill_coming f) (left_of 0) (view s)
        killed true q = record { pair = pair_no_coming _ _ _ f _ q.pair; way = way_home s f q.known q.way ∙ sym (to_no_coming f); known = q.known }
        killed false q = record { pair = q.pair; way = way_home s nowhere q.known q.way; known = q.known }

        go : (z : Bool) → eqb x.station (address_of s) ≡ z → Stands links (Some x) (kill_coming f) (left_of 0) s
        go z r = from_case x _ _ (kill_coming f) (left_of 0) _ z r (killed z (to_case x _ _ f l _ z r p))

    pub left_home : (x : Option Exchange) (stations : List Station) → State links x l stations → State links x (left_of 0) stations
    left_home None stations st = record {
      live = st.live;
      each = all_map (Stands links None st.live l) (Stands links None st.live (left_of 0)) stations (stands_home None st.live) st.each;
      back = still_none alive_back 0 l k b n h o st.back;
      known = tt;
    }
    left_home (Some x) stations st = go (alive_back b.telegram) refl
      where
        gone_back : alive_back b.telegram ≡ true → (g : Live) → keep alive_back 0 l ≡ shown_back g → keep alive_back 0 (left_of 0) ≡ shown_back (kill_coming g)
        gone_back d nowhere q = none_left alive_back 0 l k b n h o d q
        gone_back d (going y) q = none_left alive_back 0 l k b n h o d q
        gone_back d (coming y) q = (only_left alive_back 0 l k b n h o d y q).1

        go : (z : Bool) → alive_back b.telegram ≡ z → State links (Some x) (left_of 0) stations
        go true d = record {
          live = kill_coming st.live;
          each = all_map (Stands links (Some x) st.live l) (Stands links (Some x) (kill_coming st.live) (left_of 0)) stations (answer_home x st.live) st.each;
          back = gone_back d st.live st.back;
          known = st.known;
        }
        go false d = record {
          live = st.live;
          each = all_map (Stands links (Some x) st.live l) (Stands links (Some x) st.live (left_of 0)) stations (stands_home (Some x) st.live) st.each;
          back = left_dead alive_back 0 l k b h d ∙ st.back;
          known = st.known;
        }

  -- a burst leaves any end
  pub state_left : (links : List Link) (e : ℕ) → on_way e b ≡ true → (x : Option Exchange) (stations : List Station) → State links x l stations → State links x (left_of e) stations
  state_left links zero o x stations st = left_home links o x stations st
  state_left links (suc e) o x stations st = let z : eqb (suc e) 0 ≡ false = grind (arith, nat_tests) in left_reader links (suc e) o z x stations st

-- ## a reader hears

back_of : {a : ℕ} {v : View} {q : Request} {b : Bool} {x : Word} → Flying a v (open_for q b) (coming x) → alive_back x.telegram ≡ true
back_of (answer_flies c p) = c.back

number_of : {a : ℕ} {v : View} {q : Request} {b : Bool} {x : Word} → Flying a v (open_for q b) (going x) → x.number ≡ newest_sent v.sends
number_of (request_flies c p) = p

pub telegram_of : {a : ℕ} {v : View} {q : Request} {b : Bool} {x : Word} → Flying a v (open_for q b) (going x) → x.telegram ≡ request_telegram q b a
telegram_of (request_flies c p) = c

-- the burst that a reader hears is the request of the exchange that is open to it
module _ (links : List Link) (x : Exchange) (stations : List Station) (l : List Burst) (k : ℕ) (b : Burst) (n : k < length l) (h : get_or l k b ≡ b)
    (s : Station) (e : eqb x.station (address_of s) ≡ true) (o : on_way (address_of s) b ≡ true) where
  abbrev pub a : ℕ
  a = address_of s

  abbrev pub l' : List Burst
  l' = set l k (gone a b)

  abbrev pub answer_word : Turn → Word
  answer_word t = record { telegram = t.answer; number = Rattle.account.specs.Books.newest_hand_out (turned b.number t s).up.handed }

  module _ (y : Word) (each : AllByRecursion (Stands links (Some x) (going y) l) stations) (known : Known x.station) (back : keep alive_back 0 l ≡ []) (none : keep (alive a) a l' ≡ []) (ka : Known a) where
    pub answered_state : (t : Turn) → t.reader.address ≡ a → Good (link_at links a) s x.request x.bit b.number (Ok t)
        → State links (Some x) (l' ++ (new_burst (answer_word t) ∷ [])) (change a (λ r. turned b.number t s) stations)
    answered_state t adr g = record {
      live = coming (answer_word t);
      each = all_changed (Stands links (Some x) (going y) l) (Stands links (Some x) (coming (answer_word t)) (l' ++ (new_burst (answer_word t) ∷ []))) a (λ r. turned b.number t s) stations
          (λ r i p. here) there each;
      back = written_live alive_back 0 (answer_word t) l' (omega arith) alive_b (left_elsewhere alive_back 0 a l k b (turned_round 0 a false (known_some a ka)) h ∙ back);
      known = known;
    }
      where
        alive_b : alive_back t.answer ≡ true
        alive_b = back_of g.flying

        here : Stands links (Some x) (coming (answer_word t)) (l' ++ (new_burst (answer_word t) ∷ [])) (turned b.number t s)
        here =
            subst (λ c. Stood c (link_at links c) (open_at (Some x) c) (live_at (Some x) (coming (answer_word t)) c) (l' ++ (new_burst (answer_word t) ∷ [])) (view (turned b.number t s))) (sym adr)
            (from_case x a (link_at links a) (coming (answer_word t)) (l' ++ (new_burst (answer_word t) ∷ [])) (view (turned b.number t s)) true e
            (record { pair = g; way = written_dead (alive a) a (answer_word t) l' (answer_dead a t.answer alive_b) ∙ none; known = ka }))

        there : (r : Station) → eqb (address_of r) a ≡ false → Stands links (Some x) (going y) l r → Stands links (Some x) (coming (answer_word t)) (l' ++ (new_burst (answer_word t) ∷ [])) r
        there r i p =
            let c : eqb x.station (address_of r) ≡ false = subst (λ d. eqb d (address_of r) ≡ false) (sym (eqb-true x.station a e)) (turned_round (address_of r) a false i) in
            let q = to_case x _ _ (going y) l _ false c p in
            from_case x _ _ (coming (answer_word t)) (l' ++ (new_burst (answer_word t) ∷ [])) _ false c (record {
              pair = q.pair;
              way = written_dead (alive (address_of r)) (address_of r) (answer_word t) l' (answer_dead (address_of r) t.answer alive_b)
                  ∙ left_elsewhere (alive (address_of r)) (address_of r) a l k b (turned_round (address_of r) a false i) h ∙ q.way;
              known = q.known;
            })

-- what a reader hears that is for it is such a request
module _ (links : List Link) (l : List Burst) (k : ℕ) (b : Burst) (n : k < length l) (h : get_or l k b ≡ b) (s : Station) (o : on_way (address_of s) b ≡ true)
    (d : alive (address_of s) b.telegram ≡ true) where
  pub record RequestHeard (x : Exchange) (f : Live) : Type 0 where
    pub to_it : eqb x.station (address_of s) ≡ true
    pub is : f ≡ going (word b)
    pub pair : Pair (address_of s) (link_at links (address_of s)) (open_for x.request x.bit) (going (word b)) (view s)
    pub none : keep (alive (address_of s)) (address_of s) (set l k (gone (address_of s) b)) ≡ []

  heard_live : (x : Exchange) → eqb x.station (address_of s) ≡ true → (f : Live)
      → Stood (address_of s) (link_at links (address_of s)) (open_for x.request x.bit) f l (view s) → RequestHeard x f
  heard_live x e nowhere p = none_left (alive (address_of s)) (address_of s) l k b n h o d p.way
  heard_live x e (coming y) p = none_left (alive (address_of s)) (address_of s) l k b n h o d p.way
  heard_live x e (going y) p =
      let q = only_left (alive (address_of s)) (address_of s) l k b n h o d y p.way in
      record {
        to_it = e;
        is = ap going q.0;
        pair = subst (λ z. Pair (address_of s) (link_at links (address_of s)) (open_for x.request x.bit) (going z) (view s)) q.0 p.pair;
        none = q.1;
      }

  heard_open : (x : Exchange) (f : Live) → Stands links (Some x) f l s → RequestHeard x f
  heard_open x f p = go (eqb x.station (address_of s)) refl
    where
      go : (z : Bool) → eqb x.station (address_of s) ≡ z → RequestHeard x f
      go true e = heard_live x e f (to_case x _ _ f l _ true e p)
      go false e = none_left (alive (address_of s)) (address_of s) l k b n h o d (to_case x _ _ f l _ false e p).way

  pub heard_none : {A : Type 0} (f : Live) → Stands links None f l s → A
  heard_none f p = none_left (alive (address_of s)) (address_of s) l k b n h o d p.way

  pub heard_request : (x : Exchange) (f : Live) → Stands links (Some x) f l s → RequestHeard x f
  heard_request x f p = heard_open x f p

  pub heard_good : (x : Exchange) (f : Live) → RequestHeard x f → Good (link_at links (address_of s)) s x.request x.bit b.number (hear_telegram b.telegram s.reader)
  heard_good x f p =
      hearing (link_at links (address_of s)) s x.bit b.number x.request (going (word b)) p.pair (number_of p.pair.flying) b.telegram (telegram_of p.pair.flying)

-- ## the exchange ends

-- the changed table
pub link_changed : (l : List Link) (s : ℕ) (y : Link) → length l ≡ 32 → Known s → (a : ℕ) → Known a → link_at (change_link l s y) a ≡ cond (eqb s a) y (link_at l a)
link_changed l s y n ks a ka = go (eqb s a) refl
  where
    b : (c : ℕ) → Known c → (1 ≤ c) × (c ≤ 32)
    b c k = grind (arith, nat_tests)

    go : (z : Bool) → eqb s a ≡ z → link_at (change_link l s y) a ≡ cond z y (link_at l a)
    go true e =
        let q : s ≡ a = eqb-true s a e in
        let h : s - 1 < length l = omega (arith, n, b s ks) in
        subst (λ c. link_at (change_link l s y) c ≡ y) q (get_or-set_same l (s - 1) y unset_link h)
    go false e =
        let q : s ≡ a → ⊥ = eqb-false s a e in
        get_or-set_other l (s - 1) (a - 1) y unset_link (λ r. q (omega (arith, r, b s ks, b a ka)))

module _ (links : List Link) (table : length links ≡ 32) (x : Exchange) (known : Known x.station) (stations : List Station) (f : Live) (l l' : List Burst) where
  abbrev pub after_end : Ending → List Link
  after_end e = change_link links x.station (link_after x.request e (link_at links x.station))

  pub ended_state : (n : ℕ) (e : Ending)
      → ((s : Station) → eqb x.station (address_of s) ≡ true → Stood (address_of s) (link_at links (address_of s)) (open_for x.request x.bit) f l (view s)
      → Pair (address_of s) (link_after x.request e (link_at links (address_of s))) shut nowhere (view (ended n x.request e s)))
      → AllByRecursion (Stands links (Some x) f l) stations
      → AllByRecursion (λ s. keep (alive (address_of s)) (address_of s) l' ≡ []) stations → keep alive_back 0 l' ≡ []
      → State (after_end e) None l' (change x.station (ended n x.request e) stations)
  ended_state n e here each ways back = record {
    live = nowhere;
    each = all_changed (λ s. Stands links (Some x) f l s × (keep (alive (address_of s)) (address_of s) l' ≡ [])) (Stands (after_end e) None nowhere l') x.station (ended n x.request e) stations
        own_end other_end (all_both (Stands links (Some x) f l) (λ s. keep (alive (address_of s)) (address_of s) l' ≡ []) stations each ways);
    back = back;
    known = tt;
  }
    where
      changed : (c : ℕ) → Known c → link_at (after_end e) c ≡ cond (eqb x.station c) (link_after x.request e (link_at links x.station)) (link_at links c)
      changed c kc = link_changed links x.station (link_after x.request e (link_at links x.station)) table known c kc

      own_end : (s : Station) → eqb (address_of s) x.station ≡ true → Stands links (Some x) f l s × (keep (alive (address_of s)) (address_of s) l' ≡ [])
          → Stands (after_end e) None nowhere l' (ended n x.request e s)
      own_end s i p =
          let r = turned_round (address_of s) x.station true i in
          let q = to_case x _ _ f l _ true r p.0 in
          let c : link_at (after_end e) (address_of s) ≡ link_after x.request e (link_at links (address_of s)) =
          changed (address_of s) q.known ∙ ap (λ z. cond z (link_after x.request e (link_at links x.station)) (link_at links (address_of s))) r
          ∙ ap (λ b. link_after x.request e (link_at links b)) (eqb-true x.station (address_of s) r) in
          record {
            pair = subst (λ y. Pair (address_of s) y shut nowhere (view (ended n x.request e s))) (sym c) (here s r q);
            way = p.1;
            known = q.known;
          }

      other_end : (s : Station) → eqb (address_of s) x.station ≡ false → Stands links (Some x) f l s × (keep (alive (address_of s)) (address_of s) l' ≡ []) → Stands (after_end e) None nowhere l' s
      other_end s i p =
          let r = turned_round (address_of s) x.station false i in
          let q = to_case x _ _ f l _ false r p.0 in
          let c : link_at (after_end e) (address_of s) ≡ link_at links (address_of s) =
          changed (address_of s) q.known ∙ ap (λ z. cond z (link_after x.request e (link_at links x.station)) (link_at links (address_of s))) r in
          record { pair = subst (λ y. Pair (address_of s) y shut nowhere (view s)) (sym c) q.pair; way = p.1; known = q.known }

carried : {a : ℕ} {v : View} {q : Request} {b : Bool} {x : Word} → Flying a v (open_for q b) (coming x) → Carries a v q x.telegram x.number
carried (answer_flies c p) = c

turned_of : {a : ℕ} {v : View} {q : Request} {b : Bool} {x : Word} → Flying a v (open_for q b) (coming x) → Counted q → v.link.set ≡ true → v.link.next ≡ not b
turned_of (answer_flies c p) = p

ok_same : {x y : Ending} → ◌≡◌ {A = Result Ending Fault} (Ok x) (Ok y) → x ≡ y
ok_same e = cc

-- the answer that ended it means what the books say
pub answer_ends : (links : List Link) (x : Exchange) (l : List Burst) (y : Word) (e : Ending) → verdict x y.telegram ≡ Ok e → (s : Station) → eqb x.station (address_of s) ≡ true
    → Stood (address_of s) (link_at links (address_of s)) (open_for x.request x.bit) (coming y) l (view s)
    → Pair (address_of s) (link_after x.request e (link_at links (address_of s))) shut nowhere (view (ended y.number x.request e s))
answer_ends links x l y e v s i p =
    let c = carried p.pair.flying in
    let same : c.ending ≡ e =
    ok_same (sym c.understood ∙ ap (λ a. verdict_of a x.request y.telegram) (sym (eqb-true x.station (address_of s) i)) ∙ sym (verdict_same x y.telegram) ∙ v) in
    pair_ended (address_of s) (link_at links (address_of s)) x.bit s (subst (λ z. Meant (view s) x.request z y.number) same c.meant)
    (turned_of p.pair.flying) (next_is p.pair.mode) (coming y) p.pair

-- ## a frame is transmitted

module _ (links : List Link) (x : Exchange) (known : Known x.station) (stations : List Station) (l : List Burst) where
  abbrev pub sent_word : Word
  sent_word = record { telegram = transmission x; number = newest_send (found x.station stations) }

  -- what must hold of each reader for the request to be on its way
  pub record Ready (s : Station) : Type 0 where
    pub own_pair : eqb x.station (address_of s) ≡ true → (y : Word) → y.telegram ≡ request_telegram x.request x.bit (address_of s) → y.number ≡ newest_sent s.down.sends
        → Pair (address_of s) (link_at links (address_of s)) (open_for x.request x.bit) (going y) (view s)
    pub other_pair : eqb x.station (address_of s) ≡ false → Pair (address_of s) (link_at links (address_of s)) shut nowhere (view s)
    pub none : keep (alive (address_of s)) (address_of s) l ≡ []
    pub known_address : Known (address_of s)

  pub sent_state : Distinct stations → AllByRecursion Ready stations → keep alive_back 0 l ≡ [] → State links (Some x) (l ++ (new_burst sent_word ∷ [])) stations
  sent_state apart each back = record {
    live = going sent_word;
    each = all_map (λ s. Ready s × (eqb (address_of s) x.station ≡ true → newest_send (found x.station stations) ≡ newest_sent s.down.sends))
        (Stands links (Some x) (going sent_word) (l ++ (new_burst sent_word ∷ []))) stations (λ s p. go s p (eqb x.station (address_of s)) refl)
        (all_both Ready (λ s. eqb (address_of s) x.station ≡ true → newest_send (found x.station stations) ≡ newest_sent s.down.sends) stations each (own_number x.station stations apart));
    back = written_dead alive_back 0 sent_word l (request_dead x.station x.bit x.request) ∙ back;
    known = known;
  }
    where
      go : (s : Station) → Ready s × (eqb (address_of s) x.station ≡ true → newest_send (found x.station stations) ≡ newest_sent s.down.sends)
          → (z : Bool) → eqb x.station (address_of s) ≡ z → Stands links (Some x) (going sent_word) (l ++ (new_burst sent_word ∷ [])) s
      go s p true e = from_case x _ _ (going sent_word) (l ++ (new_burst sent_word ∷ [])) _ true e (record {
        pair = p.0.own_pair e sent_word (ap (λ a. request_telegram x.request x.bit a) (eqb-true x.station (address_of s) e)) (p.1 (turned_round x.station (address_of s) true e));
        way = written_live (alive (address_of s)) (address_of s) sent_word l (known_few (address_of s) p.0.known_address)
            (request_alive x.station (address_of s) x.bit x.request ∙ e) p.0.none;
        known = p.0.known_address;
      })
      go s p false e = from_case x _ _ (going sent_word) (l ++ (new_burst sent_word ∷ [])) _ false e (record {
        pair = p.0.other_pair e;
        way = written_dead (alive (address_of s)) (address_of s) sent_word l (request_alive x.station (address_of s) x.bit x.request ∙ e) ∙ p.0.none;
        known = p.0.known_address;
      })
