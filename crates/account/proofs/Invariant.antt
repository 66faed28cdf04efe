-- What holds of a line after every run.
use Rattle.std.proofs.Common.{◌≡◌, ℕ, zero, suc, ◌-◌, Bool, true, false, cond, eqb, List, [], ◌∷◌, ◌++◌, map, length, get_or, set, replicate, Some, None, Ok, Err, Option, Result, sym, refl, ap, ◌∙◌, subst, arith, length-set, eqb-true}
use Rattle.account.proofs.Bursts.{alive, dead_refused, dead_wrong, keep, left_elsewhere, lost_kept, none_kept, none_left, only_left, word}
use Rattle.account.proofs.Calls.{Asked, Ends, Offers, Timing, Turns, accepts, asks, closes, doubts, gives, has_none, hears, is_busy, offers, opened, repeats, resets, says_again, says_so, takes, times, turns}
use Rattle.account.proofs.Hearing.{Good}
use Rattle.account.proofs.Pair.{Live, Open, Pair, alive_back, coming, going, never_set, none_flies, nowhere, open_for, pair_doubt, pair_opens, pair_restart, request_flies, rest, shut, view}
use Rattle.account.proofs.State.{Known, Ready, Stands, State, answer_ends, answered_state, ended_state, heard_good, heard_none, heard_request, known_some, link_changed, live_at, live_in, open_at, pair_lost, sent_state, shown_back, shown_to, stands_kept, state_left, to_case}
use Rattle.account.proofs.Stations.{Distinct, address_of, all_both, all_changed, all_found, all_map, distinct_changed, turned_round}
use Rattle.account.proofs.Valid.{SaysWell, ValidWorld, burst_valid, valid_run}
use Rattle.account.specs.Account.{Apart}
use Rattle.account.specs.Books as books
use Rattle.account.specs.Books.{Station, asked, change, ended, fetched, found, turned}
use Rattle.account.specs.Ledger.{none_open, none_out, nothing}
use Rattle.account.specs.Line as line
use Rattle.account.specs.Line.{Burst, Event, HeardAs, Limit, OnWay, Run, Silent, World, answered, begin, concluded, gone, hears_at, leaves, new_station, new_world, requested, step, then, timed}
use Rattle.fault.specs.declared.Fault.{Fault}
use Rattle.frame.specs.Contents.{Meaning}
use Rattle.frame.specs.Laws.{GuardLaw, VerdictLaw}
use Rattle.frame.specs.declared.Format.{Ghosts}
use Rattle.rules.specs.Concentrator as co
use Rattle.rules.specs.Concentrator.{first_exchange, link_asked, once_more, ready, request_telegram, verdict}
use Rattle.rules.specs.Links.{change_link, link_at, unset_link}
use Rattle.rules.specs.Reader as rd
use Rattle.rules.specs.Reader.{Turn, hear_telegram}
use Rattle.rules.specs.Telegrams.{carried, telegram_of, telegram_read}
use Rattle.rules.specs.declared.link.Link.{Link}
use Rattle.rules.specs.declared.message.Message.{Message}
use Rattle.rules.specs.declared.records.Arrival.{Arrival}
use Rattle.rules.specs.declared.records.Class.TheVariants.{First, Second}
use Rattle.rules.specs.declared.records.Ending.{Ending}
use Rattle.rules.specs.declared.records.Ending.TheVariants.{Doubted}
use Rattle.rules.specs.declared.records.Exchange.{Exchange}
use Rattle.rules.specs.declared.records.ReaderPlan.{ReaderPlan}
use Rattle.rules.specs.declared.records.Report.{Report}
use Rattle.rules.specs.declared.records.Request.{Request}
use Rattle.rules.specs.declared.telegram.Telegram.{Telegram}
use Rattle.std.specs.List.{AllByRecursion}

pub record Inv (w : World) : Type 0 where
  pub state : State w.concentrator.links w.concentrator.exchange w.bursts w.stations
  pub table : length w.concentrator.links ≡ 32
  pub apart : Distinct w.stations

-- ## the beginning

all_unset : (n i : ℕ) → get_or (replicate n unset_link) i unset_link ≡ unset_link
all_unset zero i = refl
all_unset (suc n) zero = refl
all_unset (suc n) (suc i) = all_unset n i

new_apart : (f : ReaderPlan) (l : List ReaderPlan) → AllByRecursion (λ g. eqb g.address f.address ≡ false) l → AllByRecursion (λ t. eqb (address_of t) f.address ≡ false) (map new_station l)
new_apart f [] h = tt
new_apart f (g ∷ l) h = (h.0, new_apart f l h.1)

new_distinct : (l : List ReaderPlan) → Apart l → Distinct (map new_station l)
new_distinct [] h = tt
new_distinct (f ∷ l) h = (new_apart f l h.1, new_distinct l h.2)

new_stands : (l : List ReaderPlan) → Apart l → AllByRecursion (Stands (replicate 32 unset_link) None nowhere []) (map new_station l)
new_stands [] h = tt
new_stands (f ∷ l) h = (
  record {
    pair = record {
      mode = rest (λ x y. never_set (sym (ap (λ k. k.set) (all_unset 32 (f.address - 1))) ∙ x));
      flying = none_flies;
      requests = none_open tt;
      downs = nothing;
      ups = nothing;
      outs = none_out tt;
    };
    way = refl;
    known = h.0;
  },
  new_stands l h.2,
)

pub inv_new : (r i j : ℕ) (l : List ReaderPlan) → Apart l → Inv (new_world r i j l)
inv_new r i j l h = record { state = record { live = nowhere; each = new_stands l h; back = refl; known = tt }; table = refl; apart = new_distinct l h }

-- ## a call at a reader that leaves the line alone

module _ (w : World) (i : Inv w) where
  inv_changed : (a : ℕ) (f : Station → Station) → ((s : Station) → address_of (f s) ≡ address_of s)
      → ((s : Station) (l : Link) (o : Open) (g : Live) → Pair (address_of s) l o g (view s) → Pair (address_of s) l o g (view (f s)))
      → State w.concentrator.links w.concentrator.exchange w.bursts (change a f w.stations) × Distinct (change a f w.stations)
  inv_changed a f same k =
      let st = i.state in (
        record {
          live = st.live;
          each = all_changed (Stands w.concentrator.links w.concentrator.exchange st.live w.bursts) (Stands w.concentrator.links w.concentrator.exchange st.live w.bursts) a f w.stations
              (λ s e p. stands_kept _ _ st.live _ s (f s) (same s) (k s) p) (λ s e p. p) st.each;
          back = st.back;
          known = st.known;
        },
        distinct_changed a f w.stations (λ s e. same s) i.apart,
      )

  pub inv_at : (a : ℕ) (f : Station → Station) → ((s : Station) → address_of (f s) ≡ address_of s)
      → ((s : Station) (l : Link) (o : Open) (g : Live) → Pair (address_of s) l o g (view s) → Pair (address_of s) l o g (view (f s))) → Inv (line.changed a f w)
  inv_at a f same k = let p = inv_changed a f same k in record { state = p.0; table = i.table; apart = p.1 }

  -- an arrival, a report is fetched
  inv_arrival : (l : List Arrival) → Inv (line.with_concentrator (co.arrivals_left l w.concentrator) (fetched l w.stations) w)
  inv_arrival [] = i
  inv_arrival (m ∷ l) = let p = inv_changed m.station _ (λ s. refl) (λ s k o g p. p) in record { state = p.0; table = i.table; apart = p.1 }

  inv_report : (l : List Report) → Inv (line.with_concentrator (co.reports_left l w.concentrator) w.stations w)
  inv_report [] = i
  inv_report (m ∷ l) = record { state = i.state; table = i.table; apart = i.apart }

-- an offer and a collection change nothing that the relation sees
pub offer_view : (s : Station) (o : rd.Offered) → Offers s.reader o → (view (books.offered o s) ≡ view s) × (address_of (books.offered o s) ≡ address_of s)
offer_view s (rd.declined f) t = (refl, refl)
offer_view s (rd.accepted c m r) (accepts First m' p e) = (refl, refl)
offer_view s (rd.accepted c m r) (accepts Second m' p e) = (refl, refl)

pub collect_view : (l : List Message) (s : Station) → ((rd.collect_after l s.reader).address ≡ s.reader.address)
    × ((rd.collect_after l s.reader).link ≡ s.reader.link) × ((rd.collect_after l s.reader).stored ≡ s.reader.stored) × ((rd.collect_after l s.reader).out ≡ s.reader.out)
collect_view [] s = (refl, refl, refl, refl)
collect_view (m ∷ l) s = (refl, refl, refl, refl)

collected_view : (s : Station) → view (books.collected s) ≡ view s
collected_view s = let e = collect_view s.reader.inbox.records s in cc

-- ## a burst leaves an end

inv_left : (w : World) (e k : ℕ) (b : Burst) → OnWay e k b w → Inv w → Inv (leaves e k b w)
inv_left w e k b lim i = record {
  state = state_left w.bursts k b lim.0 lim.1 w.concentrator.links e lim.2 w.concentrator.exchange w.stations i.state;
  table = i.table;
  apart = i.apart;
}

-- ## a reader hears

pub turn_address : (r : rd.Reader) (h : Result Turn Fault) → Turns r h → (rd.hear_after h r).address ≡ r.address
turn_address r (Err f) h = refl
turn_address r (Ok x) (says_so k) = refl
turn_address r (Ok x) (says_again t e) = refl
turn_address r (Ok x) resets = refl
turn_address r (Ok x) is_busy = refl
turn_address r (Ok x) (takes m e) = refl
turn_address r (Ok x) has_none = refl
turn_address r (Ok x) (gives First m ms e) = refl
turn_address r (Ok x) (gives Second m ms e) = refl

module _ (w : World) (i : Inv w) (s : Station) (k : ℕ) (b : Burst) (lim : OnWay (address_of s) k b w) where
  abbrev l : List Burst
  l = w.bursts

  abbrev links : List Link
  links = w.concentrator.links

  abbrev w' : World
  w' = leaves (address_of s) k b w

  refused_inv : Inv w'
  refused_inv = inv_left w (address_of s) k b lim i

  turned_distinct : (t : Turn) → t.reader.address ≡ address_of s → Distinct (change (address_of s) (λ r. turned b.number t s) w.stations)
  turned_distinct t e = distinct_changed (address_of s) (λ r. turned b.number t s) w.stations (λ r q. e ∙ sym (eqb-true (address_of r) (address_of s) q)) i.apart

  -- the request of the exchange that is open
  module _ (x : Exchange) (e : w.concentrator.exchange ≡ Some x) (st : State links (Some x) l w.stations) (d : alive (address_of s) b.telegram ≡ true)
      (p : Stands links (Some x) st.live l s) where
    answered_inv : (r : Result Turn Fault) → Turns s.reader r
        → ((t : Turn) → t.reader.address ≡ address_of s → r ≡ Ok t
        → State links (Some x) (set l k (gone (address_of s) b) ++ (record { telegram = t.answer; number = books.newest_hand_out (turned b.number t s).up.handed; ways = replicate 33 true } ∷ []))
        (change (address_of s) (λ r. turned b.number t s) w.stations))
        → Inv (answered b.number r s w')
    answered_inv (Err f) t g = refused_inv
    answered_inv (Ok y) t g =
        let adr = turn_address s.reader (Ok y) t in
        record { state = subst (λ z. State links z (answered b.number (Ok y) s w').bursts (answered b.number (Ok y) s w').stations) (sym e) (g y adr refl); table = i.table; apart = turned_distinct y adr }

    heard_live : Inv (answered b.number (hear_telegram b.telegram s.reader) s w')
    heard_live =
        let q = heard_request links l k b lim.0 lim.1 s lim.2 d x st.live p in
        let g = heard_good links l k b lim.0 lim.1 s lim.2 d x st.live q in
        answered_inv (hear_telegram b.telegram s.reader) (turns s.reader false (Ok b.telegram))
        (λ t adr r. answered_state links x w.stations l k b lim.0 lim.1 s q.to_it lim.2 (word b)
        (subst (λ f. AllByRecursion (Stands links (Some x) f l) w.stations) q.is st.each) st.known (st.back ∙ ap shown_back q.is) q.none p.known t adr
        (subst (Good (link_at links (address_of s)) s x.request x.bit b.number) r g))

  heard_alive : (x : Option Exchange) → w.concentrator.exchange ≡ x → (st : State links x l w.stations) → Stands links x st.live l s → alive (address_of s) b.telegram ≡ true
      → Inv (answered b.number (hear_telegram b.telegram s.reader) s w')
  heard_alive None e st p d = heard_none links l k b lim.0 lim.1 s lim.2 d st.live p
  heard_alive (Some x) e st p d = heard_live x e st d p

  pub heard_inv : Stands links w.concentrator.exchange i.state.live l s → Inv (answered b.number (hear_telegram b.telegram s.reader) s w')
  heard_inv p = go (alive (address_of s) b.telegram) refl
    where
      go : (z : Bool) → alive (address_of s) b.telegram ≡ z → Inv (answered b.number (hear_telegram b.telegram s.reader) s w')
      go true d = heard_alive w.concentrator.exchange refl i.state p d
      go false d =
          let r = dead_refused s.reader b.telegram d in
          subst (λ y. Inv (answered b.number y s w')) (sym r.1) refused_inv

-- ## the concentrator hears

module _ (w : World) (i : Inv w) (k : ℕ) (b : Burst) (lim : OnWay 0 k b w) where
  abbrev w₀ : World
  w₀ = leaves 0 k b w

  unheard_inv : Inv w₀
  unheard_inv = inv_left w 0 k b lim i

  module _ (x : Exchange) (e : w.concentrator.exchange ≡ Some x) (st : State w.concentrator.links (Some x) w.bursts w.stations) (o : Ending) (v : verdict x b.telegram ≡ Ok o) where
    -- no request is on its way then
    ways_none : (f : Live) → f ≡ coming (word b) → AllByRecursion (Stands w.concentrator.links (Some x) f w.bursts) w.stations
        → AllByRecursion (λ s. keep (alive (address_of s)) (address_of s) w₀.bursts ≡ []) w.stations
    ways_none f q each =
        all_map (Stands w.concentrator.links (Some x) f w.bursts) (λ s. keep (alive (address_of s)) (address_of s) w₀.bursts ≡ []) w.stations
        (λ s p. left_elsewhere (alive (address_of s)) (address_of s) 0 w.bursts k b (known_some (address_of s) p.known) lim.1 ∙ p.way ∙ hidden (eqb x.station (address_of s))) each
      where
        hidden : (z : Bool) → shown_to (cond z f nowhere) ≡ []
        hidden true = ap shown_to q
        hidden false = refl

    closed_inv : (f : Live) → st.live ≡ f → alive_back b.telegram ≡ true → Inv (concluded b.number (Ok (co.closing x o (co.flags_of b.telegram) w.concentrator)) w₀)
    closed_inv nowhere q d = none_left alive_back 0 w.bursts k b lim.0 lim.1 lim.2 d (st.back ∙ ap shown_back q)
    closed_inv (going y) q d = none_left alive_back 0 w.bursts k b lim.0 lim.1 lim.2 d (st.back ∙ ap shown_back q)
    closed_inv (coming y) q d =
        let r = only_left alive_back 0 w.bursts k b lim.0 lim.1 lim.2 d y (st.back ∙ ap shown_back q) in
        let c : st.live ≡ coming (word b) = q ∙ ap coming r.0 in
        record {
          state = ended_state w.concentrator.links i.table x st.known w.stations (coming (word b)) w.bursts w₀.bursts b.number o
              (λ s z p. answer_ends w.concentrator.links x w.bursts (word b) o v s z p)
              (subst (λ f. AllByRecursion (Stands w.concentrator.links (Some x) f w.bursts) w.stations) c st.each)
              (ways_none st.live c st.each) r.1;
          table = length-set w.concentrator.links (x.station - 1) _ ∙ i.table;
          apart = distinct_changed x.station (ended b.number x.request o) w.stations (λ s z. refl) i.apart;
        }

    closing_inv : Inv (concluded b.number (Ok (co.closing x o (co.flags_of b.telegram) w.concentrator)) w₀)
    closing_inv = go (alive_back b.telegram) refl
      where
        go : (z : Bool) → alive_back b.telegram ≡ z → Inv (concluded b.number (Ok (co.closing x o (co.flags_of b.telegram) w.concentrator)) w₀)
        go true d = closed_inv st.live refl d
        go false d =
            let f = dead_wrong x b.telegram d in
            let z : ◌≡◌ {A = ℕ} 0 1 = cc in
            let n : ⊥ = omega arith in
            absurd n

  pub concluded_inv : (t : Result Telegram Fault) → t ≡ Ok b.telegram → (r : Result co.Ended Fault) → Ends w.concentrator t r → Inv (concluded b.number r w₀)
  concluded_inv t q (Err f) h = unheard_inv
  concluded_inv t q (Ok y) (closes {t = t'} x o e v) =
      let same : t' ≡ b.telegram = cc in
      subst (λ z. Inv (concluded b.number (Ok (co.closing x o (co.flags_of z) w.concentrator)) w₀)) (sym same)
      (closing_inv x e (subst (λ z. State w.concentrator.links z w.bursts w.stations) e i.state) o (ap (verdict x) (sym same) ∙ v))

-- ## the time-out, on a silent line

module _ (w : World) (i : Inv w) (quiet : Silent w) where
  silent_ways : AllByRecursion (λ s. keep (alive (address_of s)) (address_of s) w.bursts ≡ []) w.stations
  silent_ways =
      all_map (λ s. line.NoneTo s.reader.address w.bursts) (λ s. keep (alive (address_of s)) (address_of s) w.bursts ≡ []) w.stations
      (λ s p. none_kept (alive (address_of s)) (address_of s) w.bursts p) quiet.1

  silent_back : keep alive_back 0 w.bursts ≡ []
  silent_back = none_kept alive_back 0 w.bursts quiet.0

  module _ (x : Exchange) (e : w.concentrator.exchange ≡ Some x) (st : State w.concentrator.links (Some x) w.bursts w.stations) where
    again_ready : (s : Station) → Stands w.concentrator.links (Some x) st.live w.bursts s × (keep (alive (address_of s)) (address_of s) w.bursts ≡ [])
        → Ready w.concentrator.links x st.known w.stations w.bursts s
    again_ready s p = record {
      own_pair = λ z y t n.
          let q = (to_case x _ _ st.live w.bursts _ true z p.0).pair in
          record { mode = q.mode; flying = request_flies t n; requests = q.requests; downs = q.downs; ups = q.ups; outs = q.outs };
      other_pair = λ z. (to_case x _ _ st.live w.bursts _ false z p.0).pair;
      none = p.1;
      known_address = p.0.known;
    }

    both : AllByRecursion (λ s. Stands w.concentrator.links (Some x) st.live w.bursts s × (keep (alive (address_of s)) (address_of s) w.bursts ≡ [])) w.stations
    both = all_both (Stands w.concentrator.links (Some x) st.live w.bursts) (λ s. keep (alive (address_of s)) (address_of s) w.bursts ≡ []) w.stations st.each silent_ways

    repeated_inv : Inv (timed (Ok (co.again (record { exchange = once_more x; after = co.with_exchange (Some (once_more x)) w.concentrator }))) w)
    repeated_inv = record {
      state = again_state (sent_state w.concentrator.links x st.known w.stations w.bursts i.apart
          (all_map (λ s. Stands w.concentrator.links (Some x) st.live w.bursts s × (keep (alive (address_of s)) (address_of s) w.bursts ≡ []))
          (Ready w.concentrator.links x st.known w.stations w.bursts) w.stations again_ready both) silent_back);
      table = i.table;
      apart = i.apart;
    }
      where
        -- the count of transmissions does not matter
        again_state : {bursts : List Burst} → State w.concentrator.links (Some x) bursts w.stations → State w.concentrator.links (Some (once_more x)) bursts w.stations
        again_state h = record { live = h.live; each = h.each; back = h.back; known = h.known }

    doubted_inv : Inv (timed (Ok (co.doubted (co.closing x Doubted co.no_flags w.concentrator))) w)
    doubted_inv = record {
      state = ended_state w.concentrator.links i.table x st.known w.stations st.live w.bursts w.bursts 0 Doubted
          (λ s z p. pair_doubt (address_of s) (link_at w.concentrator.links (address_of s)) x.bit st.live s x.request p.pair) st.each silent_ways silent_back;
      table = length-set w.concentrator.links (x.station - 1) _ ∙ i.table;
      apart = distinct_changed x.station (ended 0 x.request Doubted) w.stations (λ s z. refl) i.apart;
    }

  abbrev state_for : (x : Exchange) → w.concentrator.exchange ≡ Some x → State w.concentrator.links (Some x) w.bursts w.stations
  state_for x e = subst (λ z. State w.concentrator.links z w.bursts w.stations) e i.state

  pub timed_inv : (r : Result co.Timed Fault) → Timing w.concentrator r → Inv (timed r w)
  timed_inv (Err f) h = i
  timed_inv (Ok y) (repeats x e) = repeated_inv x e (state_for x e)
  timed_inv (Ok y) (doubts x e) = doubted_inv x e (state_for x e)

-- ## a request

module _ (w : World) (i : Inv w) (a : ℕ) (q : Request) (ka : Known a) (e : w.concentrator.exchange ≡ None) (r : ready q (link_at w.concentrator.links a) ≡ true) where
  abbrev x₁ : Exchange
  x₁ = first_exchange a q w.concentrator

  abbrev links₁ : List Link
  links₁ = change_link w.concentrator.links a (link_asked q (link_at w.concentrator.links a))

  changed_link : (c : ℕ) → Known c → link_at links₁ c ≡ cond (eqb a c) (link_asked q (link_at w.concentrator.links a)) (link_at w.concentrator.links c)
  changed_link c kc = link_changed w.concentrator.links a (link_asked q (link_at w.concentrator.links a)) i.table ka c kc

  abbrev stations₁ : List Station
  stations₁ = change a (asked q) w.stations

  opens_own : (s : Station) (f : Live) → eqb (address_of s) a ≡ true → Stands w.concentrator.links None f w.bursts s → Ready links₁ x₁ ka stations₁ w.bursts (asked q s)
  opens_own s f z p =
      let c : address_of s ≡ a = eqb-true (address_of s) a z in
      let k : link_at links₁ (address_of s) ≡ link_asked q (link_at w.concentrator.links (address_of s)) =
      changed_link (address_of s) p.known ∙ ap (λ y. cond y (link_asked q (link_at w.concentrator.links a)) (link_at w.concentrator.links (address_of s))) (turned_round (address_of s) a true z)
      ∙ ap (λ d. link_asked q (link_at w.concentrator.links d)) (sym c) in
      record {
        own_pair = λ y u t n.
            subst (λ d. Pair (address_of s) d (open_for q (link_at w.concentrator.links a).next) (going u) (view (asked q s))) (sym k)
            (subst (λ d. Pair (address_of s) (link_asked q (link_at w.concentrator.links (address_of s))) (open_for q (link_at w.concentrator.links d).next) (going u) (view (asked q s))) c
            (pair_opens (address_of s) (link_at w.concentrator.links (address_of s)) s q u p.pair (subst (λ d. ready q (link_at w.concentrator.links d) ≡ true) (sym c) r)
            (t ∙ ap (λ d. request_telegram q (link_at w.concentrator.links d).next (address_of s)) (sym c)) n));
        other_pair = λ y. never_set (sym y ∙ turned_round (address_of s) a true z);
        none = p.way;
        known_address = p.known;
      }

  opens_other : (s : Station) (f : Live) → eqb (address_of s) a ≡ false → Stands w.concentrator.links None f w.bursts s → Ready links₁ x₁ ka stations₁ w.bursts s
  opens_other s f z p = record {
    own_pair = λ y u t n. never_set (sym (turned_round (address_of s) a false z) ∙ y);
    other_pair = λ y. subst (λ d. Pair (address_of s) d shut nowhere (view s))
        (sym (changed_link (address_of s) p.known ∙ ap (λ b. cond b (link_asked q (link_at w.concentrator.links a)) (link_at w.concentrator.links (address_of s))) y)) p.pair;
    none = p.way;
    known_address = p.known;
  }

  opened_inv : Inv (requested (Ok (co.opening x₁ w.concentrator)) w)
  opened_inv =
      let st : State w.concentrator.links None w.bursts w.stations = subst (λ z. State w.concentrator.links z w.bursts w.stations) e i.state in
      let apart₁ = distinct_changed a (asked q) w.stations (λ s z. refl) i.apart in
      record {
        state = sent_state links₁ x₁ ka stations₁ w.bursts apart₁
            (all_changed (Stands w.concentrator.links None st.live w.bursts) (Ready links₁ x₁ ka stations₁ w.bursts) a (asked q) w.stations
            (λ s z p. opens_own s st.live z p) (λ s z p. opens_other s st.live z p) st.each) st.back;
        table = length-set w.concentrator.links (a - 1) _ ∙ i.table;
        apart = apart₁;
      }

requested_inv : (w : World) → Inv w → (r : Result co.Sent Fault) → Asked w.concentrator r → Inv (requested r w)
requested_inv w i (Err f) h = i
requested_inv w i (Ok y) (opened a q ka e r h p) = opened_inv w i a q ka e r

-- ## every step, every run

none_at : (x : Option Exchange) (a : ℕ) → live_at x nowhere a ≡ nowhere
none_at None a = refl
none_at (Some x) a = go (eqb x.station a)
  where
    go : (z : Bool) → cond z nowhere nowhere ≡ nowhere
    go true = refl
    go false = refl

none_in : (x : Option Exchange) → live_in x nowhere ≡ nowhere
none_in None = refl
none_in (Some x) = refl

lost_inv : (w : World) → Inv w → Inv (line.with_bursts (map line.lost_everywhere w.bursts) w)
lost_inv w i = record {
  state = record {
    live = nowhere;
    each = all_map (Stands w.concentrator.links x i.state.live w.bursts) (Stands w.concentrator.links x nowhere l) w.stations lost i.state.each;
    back = lost_kept alive_back 0 w.bursts ∙ ap shown_back (sym (none_in x));
    known = i.state.known;
  };
  table = i.table;
  apart = i.apart;
}
  where
    x : Option Exchange
    x = w.concentrator.exchange

    l : List Burst
    l = map line.lost_everywhere w.bursts

    lost : (s : Station) → Stands w.concentrator.links x i.state.live w.bursts s → Stands w.concentrator.links x nowhere l s
    lost s p = record {
      pair = subst (λ g. Pair (address_of s) (link_at w.concentrator.links (address_of s)) (open_at x (address_of s)) g (view s)) (sym (none_at x (address_of s))) (pair_lost _ _ _ _ _ p.pair);
      way = lost_kept (alive (address_of s)) (address_of s) w.bursts ∙ ap shown_to (sym (none_at x (address_of s)));
      known = p.known;
    }

module _ {X : Type 0} (F : Ghosts X) (exact : VerdictLaw F.frame F.verdict) (guarded : GuardLaw F.WIDTH F.GUARD F.frame) where
  -- what is read of a burst is what it says, or nothing
  pub same_telegram : (b : Burst) (heard : List ℕ) → SaysWell b → HeardAs F b heard → (t : Telegram) → telegram_read (F.verdict heard) ≡ Ok t → t ≡ b.telegram
  same_telegram b heard v d t e = go (F.verdict heard) refl e
    where
      go : (r : Result Meaning Fault) → F.verdict heard ≡ r → telegram_read r ≡ Ok t → t ≡ b.telegram
      go (Err f) q e = let z : ◌≡◌ {A = ℕ} 0 1 = cc in let n : ⊥ = omega arith in absurd n
      go (Ok m) q e =
          let x = exact.1 heard m q in
          let same : m ≡ carried b.telegram = (guarded (carried b.telegram) m heard v.valid x.0 d x.1).1 in
          let t_is : telegram_of m ≡ t = cc in
          sym t_is ∙ ap telegram_of same ∙ v.back

  inv_hears : (w : World) → Inv w → (short : Bool) (a k : ℕ) (b : Burst) (heard : List ℕ) → OnWay a k b w → SaysWell b → HeardAs F b heard
      → (r : Result Telegram Fault) → telegram_read (F.verdict heard) ≡ r → (o : Option Station) → found a w.stations ≡ o
      → Inv (line.hears_at F o short b.number heard (leaves a k b w))
  inv_hears w i short a k b heard lim v d r q None e = inv_left w a k b lim i
  inv_hears w i short a k b heard lim v d r q (Some s) e =
      let p = all_found (Stands w.concentrator.links w.concentrator.exchange i.state.live w.bursts) a w.stations s e i.state.each in
      subst (λ z. Inv (answered b.number (rd.hear short z s.reader) s (leaves a k b w))) (sym q) (go short r q p.1 p.0)
    where
      go : (short : Bool) (r : Result Telegram Fault) → telegram_read (F.verdict heard) ≡ r → address_of s ≡ a
          → Stands w.concentrator.links w.concentrator.exchange i.state.live w.bursts s → Inv (answered b.number (rd.hear short r s.reader) s (leaves a k b w))
      go true r q c p = inv_left w a k b lim i
      go false (Err f) q c p = inv_left w a k b lim i
      go false (Ok t) q c p =
          subst (λ z. Inv (answered b.number (hear_telegram z s.reader) s (leaves a k b w))) (sym (same_telegram b heard v d t q))
          (subst (λ z. OnWay z k b w → Inv (answered b.number (hear_telegram b.telegram s.reader) s (leaves z k b w))) c (λ l. heard_inv w i s k b l p) lim)

  inv_concludes : (w : World) → Inv w → (k : ℕ) (b : Burst) (heard : List ℕ) → OnWay 0 k b w → SaysWell b → HeardAs F b heard
      → (r : Result Telegram Fault) → telegram_read (F.verdict heard) ≡ r → Inv (concluded b.number (co.hear r w.concentrator) (leaves 0 k b w))
  inv_concludes w i k b heard lim v d (Err f) q = inv_left w 0 k b lim i
  inv_concludes w i k b heard lim v d (Ok t) q =
      concluded_inv w i k b lim (Ok t) (ap Ok (same_telegram b heard v d t q)) (co.hear (Ok t) w.concentrator) (hears w.concentrator (Ok t))

  pub inv_step : (e : Event) (w : World) → ValidWorld w → Limit F e w → Inv w → Inv (step F e w)
  inv_step (line.requests short a q) w ok lim i = requested_inv w i _ (asks w.concentrator a short q lim)
  inv_step (line.times_out short) w ok lim i = timed_inv w i lim _ (times w.concentrator short)
  inv_step (line.concentrator_hears k b heard) w ok lim i =
      inv_concludes w i k b heard lim.0 (burst_valid w.bursts k b lim.0.0 lim.0.1 ok.bursts) lim.1 (telegram_read (F.verdict heard)) refl
  inv_step (line.reader_hears short a k b heard) w ok lim i =
      inv_hears w i short a k b heard lim.0 (burst_valid w.bursts k b lim.0.0 lim.0.1 ok.bursts) lim.1 (telegram_read (F.verdict heard)) refl (found a w.stations) refl
  inv_step (line.loses e k b) w ok lim i = inv_left w e k b lim i
  inv_step line.loses_all w ok lim i = lost_inv w i
  inv_step (line.offers a class os) w ok lim i =
      inv_at w i a _ (λ s. (offer_view s _ (offers s.reader class os lim)).1) (λ s l o g p. subst (Pair (address_of s) l o g) (sym (offer_view s _ (offers s.reader class os lim)).0) p)
  inv_step (line.collects a) w ok lim i =
      inv_at w i a _ (λ s. (collect_view s.reader.inbox.records s).0) (λ s l o g p. subst (Pair (address_of s) l o g) (sym (collected_view s)) p)
  inv_step (line.restarts a) w ok lim i = inv_at w i a _ (λ s. refl) (λ s l o g p. pair_restart (address_of s) l o g (view s) p)
  inv_step line.fetches_arrival w ok lim i = inv_arrival w i w.concentrator.arrivals.records
  inv_step line.fetches_report w ok lim i = inv_report w i w.concentrator.reports.records
  inv_step line.surveys w ok lim i = i

  pub inv_run : {v w : World} → Run F v w → ValidWorld v → Inv v → Inv w
  inv_run begin ok i = i
  inv_run (then r e lim) ok i = inv_step e _ (valid_run F r ok) lim (inv_run r ok i)
