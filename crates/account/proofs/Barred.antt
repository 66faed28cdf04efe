-- From a link that is unset at either end nothing moves until a reset is done.
use Rattle.std.proofs.Common.{◌≡◌, ℕ, ◌+◌, ◌≤◌, Bool, true, false, cond, eqb, ◌⊎◌, List, [], ◌∷◌, length, Some, None, Ok, Err, Option, Result, sym, refl, ap, ◌∙◌, subst, inl, inr, true≢false, arith, eqb-true}
use mathlib.Core.Bool.{beq}
use Rattle.account.proofs.Answers.{hears_poll, hears_reset, hears_send, hears_status}
use Rattle.account.proofs.Bursts.{alive, dead_refused}
use Rattle.account.proofs.Calls.{Asked, Ends, Offers, Timing, Turns, accepts, asks, closes, doubts, hears, offers, opened, repeats, times, turns}
use Rattle.account.proofs.Hearing.{after, count_gone, unset_of}
use Rattle.account.proofs.Invariant.{Inv, collect_view, inv_run, offer_view, same_telegram, turn_address}
use Rattle.account.proofs.Pair.{Counted, Live, Mode, asking, fresh, gone, open_for, resetting, taken, view}
use Rattle.account.proofs.State.{Known, Stands, State, heard_none, heard_request, link_changed, telegram_of}
use Rattle.account.proofs.Stations.{address_of, all_found, all_map, each_changed, each_found, each_same, each_then, own_found, turned_round}
use Rattle.account.proofs.Tied.{marks_offers}
use Rattle.account.proofs.Valid.{SaysWell, ValidWorld, burst_valid, valid_run}
use Rattle.account.specs.Account.{NothingMoved, Unset, offers_handed}
use Rattle.account.specs.Books as books
use Rattle.account.specs.Books.{Down, Station, change, ended, ended_down, fetched, found, turned}
use Rattle.account.specs.Line as line
use Rattle.account.specs.Line.{Burst, Event, HeardAs, Limit, OnWay, Run, World, answered, begin, concluded, leaves, requested, step, then, timed}
use Rattle.fault.specs.declared.Fault.{Fault}
use Rattle.frame.specs.Laws.{GuardLaw, VerdictLaw}
use Rattle.frame.specs.declared.Format.{Ghosts}
use Rattle.rules.specs.Concentrator as co
use Rattle.rules.specs.Concentrator.{link_after, link_asked, request_telegram}
use Rattle.rules.specs.Links.{change_link, link_at}
use Rattle.rules.specs.Reader as rd
use Rattle.rules.specs.Reader.{Task, Turn, give, hear_telegram, take}
use Rattle.rules.specs.Telegrams.{telegram_read}
use Rattle.rules.specs.declared.link.Link.{Link}
use Rattle.rules.specs.declared.records.Arrival.{Arrival}
use Rattle.rules.specs.declared.records.Class.TheVariants.{First, Second}
use Rattle.rules.specs.declared.records.Ending.{Ending}
use Rattle.rules.specs.declared.records.Ending.TheVariants.{Doubted}
use Rattle.rules.specs.declared.records.Exchange.{Exchange}
use Rattle.rules.specs.declared.records.Flags.{Flags}
use Rattle.rules.specs.declared.records.Mark.TheVariants.{Doubtful}
use Rattle.rules.specs.declared.records.Report.{Report}
use Rattle.rules.specs.declared.records.Request.{Request}
use Rattle.rules.specs.declared.records.Request.TheVariants.{Reset, Status, Send, Poll}
use Rattle.rules.specs.declared.telegram.Telegram.{Telegram}
use Rattle.std.proofs.lemmas.Option.{same_Some}
use Rattle.std.specs.List.{AllZip, AllByRecursion}

abbrev Off : Link → Station → Type 0
Off l s = (l.set ≡ false) ⊎ (s.reader.link.set ≡ false)

pub record Stayed (l : Link) (s t : Station) : Type 0 where
  pub off : Off l t
  pub nothing : NothingMoved s t

-- one step, at one reader: a reset is done, or what was off stays so and nothing moves
data Onward (k l : Link) (s t : Station) : Type 0 where
  grows : t.down.resets ≡ s.down.resets + 1 → Onward k l s t
  stays : t.down.resets ≡ s.down.resets → (Off k s → Stayed l s t) → Onward k l s t

onward_same : (l : Link) (s : Station) → Onward l l s s
onward_same l s = stays refl (λ o. record { off = o; nothing = record { entered = refl; handed = refl } })

-- ## the end and the beginning of an exchange

linked_same : (k l : Link) (s t : Station) → (k.set ≡ false → l.set ≡ false) → t.reader ≡ s.reader → t.down.resets ≡ s.down.resets
    → t.down.entered ≡ s.down.entered → t.up.handed ≡ s.up.handed → Onward k l s t
linked_same k l s t f r d e h = stays d (λ o. record { off = go o; nothing = record { entered = e; handed = ap offers_handed h } })
  where
    go : Off k s → Off l t
    go (inl q) = inl (f q)
    go (inr q) = inr (ap (λ z. z.link.set) r ∙ q)

-- where the resets do not grow, an unset link stays unset
unset_stays : (q : Request) (e : Ending) (l : Link) (d : Down) → (ended_down q e d).resets ≡ d.resets → l.set ≡ false → (link_after q e l).set ≡ false
unfolding link_after
unset_stays q e l d i h = grind arith

resets_ended : (q : Request) (e : Ending) (d : Down) → ((ended_down q e d).resets ≡ d.resets) ⊎ ((ended_down q e d).resets ≡ d.resets + 1)
resets_ended q e d = grind arith

entered_ended : (q : Request) (e : Ending) (d : Down) → (ended_down q e d).entered ≡ d.entered
entered_ended q e d = grind arith

onward_ended : (n : ℕ) (q : Request) (e : Ending) (l : Link) (s : Station) → Onward l (link_after q e l) s (ended n q e s)
onward_ended n q e l s = go (resets_ended q e s.down)
  where
    go : ((ended_down q e s.down).resets ≡ s.down.resets) ⊎ ((ended_down q e s.down).resets ≡ s.down.resets + 1) → Onward l (link_after q e l) s (ended n q e s)
    go (inl i) = linked_same l (link_after q e l) s (ended n q e s) (unset_stays q e l s.down i) refl i (entered_ended q e s.down) refl
    go (inr i) = grows i

onward_asked : (q : Request) (l : Link) (s : Station) → Onward l (link_asked q l) s (books.asked q s)
onward_asked Reset l s = linked_same l _ s _ (λ q. refl) refl refl refl refl
onward_asked Status l s = linked_same l _ s _ (λ q. q) refl refl refl refl
onward_asked (Send m) l s = linked_same l _ s _ (λ q. q) refl refl refl refl
onward_asked (Poll c) l s = linked_same l _ s _ (λ q. q) refl refl refl refl

-- ## calls at a reader

onward_offer : (l : Link) (s : Station) (o : rd.Offered) → Offers s.reader o → Onward l l s (books.offered o s)
onward_offer l s (rd.declined f) h = onward_same l s
onward_offer l s (rd.accepted c m r) (accepts First m' p e) = stays refl (λ o. record { off = o; nothing = record { entered = refl; handed = refl } })
onward_offer l s (rd.accepted c m r) (accepts Second m' p e) = stays refl (λ o. record { off = o; nothing = record { entered = refl; handed = refl } })

onward_collect : (l : Link) (s : Station) → Onward l l s (books.collected s)
onward_collect l s = stays refl (λ o. record { off = go o; nothing = record { entered = refl; handed = refl } })
  where
    go : Off l s → Off l (books.collected s)
    go (inl q) = inl q
    go (inr q) = inr (ap (λ z. z.set) (collect_view s.reader.inbox.records s).1 ∙ q)

onward_restart : (l : Link) (s : Station) → Onward l l s (books.restarted s)
onward_restart l s = stays refl (λ o. record { off = inr refl; nothing = record { entered = refl; handed = marks_offers (rd.marked Doubtful s.reader.out) s.up.handed } })

-- ## a reader hears

after_resets : (n : ℕ) (r : Result Turn Fault) (s : Station) → (after n r s).down.resets ≡ s.down.resets
after_resets n (Err f) s = refl
after_resets n (Ok t) s = refl

both_set : {A : Type 0} (l : Link) (s : Station) → l.set ≡ true → s.reader.link.set ≡ true → Off l s → A
both_set l s p q (inl e) = absurd (true≢false (sym p ∙ e))
both_set l s p q (inr e) = absurd (true≢false (sym q ∙ e))

module _ (n : ℕ) (l : Link) (s : Station) (b : Bool) where
  abbrev Held : Result Turn Fault → Type 0
  Held r = Stayed l s (after n r s)

  held_count : (q : Request) (j : Task) → Mode (address_of s) l (view s) (open_for q b) → Counted q → Off l s
      → Held (rd.count s.reader.link.set (beq b s.reader.link.next) j s.reader)
  held_count q j (fresh c p k r e h u) d o = both_set l s p r o
  held_count q j (taken c p k r e a x u) d o = both_set l s p r o
  held_count q j (gone c p k r) d o = subst Held (sym (count_gone s.reader b j r).1) (record { off = o; nothing = record { entered = refl; handed = refl } })
  held_count Reset j (resetting p) d o = absurd d
  held_count Status j (asking p) d o = absurd d

  held : (q : Request) → Mode (address_of s) l (view s) (open_for q b) → (t : Telegram) → t ≡ request_telegram q b (address_of s) → Off l s → Held (hear_telegram t s.reader)
  held Reset m t e o =
      subst Held (sym (ap (λ x. hear_telegram x s.reader) e ∙ hears_reset s.reader b))
      (record { off = inl (unset_of l s b n m); nothing = record { entered = refl; handed = marks_offers (rd.marked Doubtful s.reader.out) s.up.handed } })
  held Status m t e o =
      subst Held (sym (ap (λ x. hear_telegram x s.reader) e ∙ hears_status s.reader b)) (record { off = o; nothing = record { entered = refl; handed = refl } })
  held (Send x) m t e o = subst Held (sym (ap (λ y. hear_telegram y s.reader) e ∙ hears_send s.reader b x)) (held_count (Send x) (take x) m tt o)
  held (Poll x) m t e o = subst Held (sym (ap (λ y. hear_telegram y s.reader) e ∙ hears_poll s.reader b x)) (held_count (Poll x) (give x) m tt o)

module _ (w : World) (i : Inv w) (s : Station) (k : ℕ) (b : Burst) (lim : OnWay (address_of s) k b w) where
  abbrev ln : Link
  ln = link_at w.concentrator.links (address_of s)

  onward_live : (x : Option Exchange) (f : Live) → Stands w.concentrator.links x f w.bursts s → alive (address_of s) b.telegram ≡ true
      → Onward ln ln s (after b.number (hear_telegram b.telegram s.reader) s)
  onward_live None f p d = heard_none w.concentrator.links w.bursts k b lim.0 lim.1 s lim.2 d f p
  onward_live (Some x) f p d =
      let q = heard_request w.concentrator.links w.bursts k b lim.0 lim.1 s lim.2 d x f p in
      stays (after_resets b.number (hear_telegram b.telegram s.reader) s)
      (λ o. held b.number ln s x.bit x.request q.pair.mode b.telegram (telegram_of q.pair.flying) o)

  onward_hear : Stands w.concentrator.links w.concentrator.exchange i.state.live w.bursts s
      → Onward ln ln s (after b.number (hear_telegram b.telegram s.reader) s)
  onward_hear p = go (alive (address_of s) b.telegram) refl
    where
      go : (z : Bool) → alive (address_of s) b.telegram ≡ z → Onward ln ln s (after b.number (hear_telegram b.telegram s.reader) s)
      go true d = onward_live w.concentrator.exchange i.state.live p d
      go false d = subst (λ r. Onward ln ln s (after b.number r s)) (sym (dead_refused s.reader b.telegram d).1) (onward_same ln s)

-- ## one step, at every reader

record On (j k : List Link) (s t : Station) : Type 0 where
  same : address_of t ≡ address_of s
  on : Onward (link_at j (address_of s)) (link_at k (address_of s)) s t

abbrev Steps : World → World → Type 0
Steps v w = AllZip (On v.concentrator.links w.concentrator.links) v.stations w.stations

on_same : (l : List Link) (s : Station) → On l l s s
on_same l s = record { same = refl; on = onward_same (link_at l (address_of s)) s }

-- where no link and no reader changes
steps_same : (w : World) → Steps w w
steps_same w = each_same (On w.concentrator.links w.concentrator.links) (on_same w.concentrator.links) w.stations

abbrev Any : Station → Type 0
Any s = Unit {0}

any : (l : List Station) → AllByRecursion Any l
any [] = tt
any (s ∷ l) = (tt, any l)

module _ (w : World) where
  steps_at : (a : ℕ) (f : Station → Station) → ((s : Station) → address_of (f s) ≡ address_of s) → ((s : Station) (l : Link) → Onward l l s (f s)) → Steps w (line.changed a f w)
  steps_at a f same h =
      each_changed (On w.concentrator.links w.concentrator.links) Any a f w.stations
      (λ s e p. record { same = same s; on = h s (link_at w.concentrator.links (address_of s)) }) (λ s e p. on_same w.concentrator.links s) (any w.stations)

  -- a change of one link and its reader
  steps_changed : (a : ℕ) (y : Link → Link) (f : Station → Station) → length w.concentrator.links ≡ 32 → Known a → AllByRecursion (λ s. Known (address_of s)) w.stations
      → ((s : Station) → address_of (f s) ≡ address_of s) → ((l : Link) (s : Station) → Onward l (y l) s (f s))
      → AllZip (On w.concentrator.links (change_link w.concentrator.links a (y (link_at w.concentrator.links a)))) w.stations (change a f w.stations)
  steps_changed a y f table ka known same h =
      each_changed (On j k) (λ s. Known (address_of s)) a f w.stations
      (λ s e p.
      let c = eqb-true (address_of s) a e in
      record {
        same = same s;
        on = subst (λ z. Onward (link_at j (address_of s)) z s (f s))
            (sym (changed s p ∙ ap (λ z. cond z (y (link_at j a)) (link_at j (address_of s))) (turned_round (address_of s) a true e) ∙ ap (λ b. y (link_at j b)) (sym c)))
            (h (link_at j (address_of s)) s);
      })
      (λ s e p. record {
        same = refl;
        on = subst (λ z. Onward (link_at j (address_of s)) z s s)
            (sym (changed s p ∙ ap (λ z. cond z (y (link_at j a)) (link_at j (address_of s))) (turned_round (address_of s) a false e)))
            (onward_same (link_at j (address_of s)) s);
      }) known
    where
      j : List Link
      j = w.concentrator.links

      k : List Link
      k = change_link j a (y (link_at j a))

      changed : (s : Station) → Known (address_of s) → link_at k (address_of s) ≡ cond (eqb a (address_of s)) (y (link_at j a)) (link_at j (address_of s))
      changed s ks = link_changed j a (y (link_at j a)) table ka (address_of s) ks

module _ (w : World) (i : Inv w) where
  all_known : AllByRecursion (λ s. Known (address_of s)) w.stations
  all_known = all_map (Stands w.concentrator.links w.concentrator.exchange i.state.live w.bursts) (λ s. Known (address_of s)) w.stations (λ s p. p.known) i.state.each

  open_known : (x : Exchange) → w.concentrator.exchange ≡ Some x → Known x.station
  open_known x e = (subst (λ z. State w.concentrator.links z w.bursts w.stations) e i.state).known

  steps_ends : (n : ℕ) (x : Exchange) (e : Ending) (f : Flags) → w.concentrator.exchange ≡ Some x
      → AllZip (On w.concentrator.links (co.closing x e f w.concentrator).after.links) w.stations (change x.station (ended n x.request e) w.stations)
  steps_ends n x e f h =
      steps_changed w x.station (link_after x.request e) (ended n x.request e) i.table (open_known x h) all_known (λ s. refl) (onward_ended n x.request e)

  steps_requested : (r : Result co.Sent Fault) → Asked w.concentrator r → Steps w (requested r w)
  steps_requested (Err f) h = steps_same w
  steps_requested (Ok y) (opened a q ka e u f p) = steps_changed w a (link_asked q) (books.asked q) i.table ka all_known (λ s. refl) (onward_asked q)

  steps_timed : (r : Result co.Timed Fault) → Timing w.concentrator r → Steps w (timed r w)
  steps_timed (Err f) h = steps_same w
  steps_timed (Ok y) (repeats x e) = steps_same w
  steps_timed (Ok y) (doubts x e) = steps_ends 0 x Doubted co.no_flags e

  steps_concluded : (n k : ℕ) (b : Burst) (t : Result Telegram Fault) (r : Result co.Ended Fault) → Ends w.concentrator t r → Steps w (concluded n r (leaves 0 k b w))
  steps_concluded n k b t (Err f) h = steps_same w
  steps_concluded n k b t (Ok y) (closes {t = t'} x e q v) = steps_ends n x e (co.flags_of t') q

  steps_arrival : (l : List Arrival) → Steps w (line.with_concentrator (co.arrivals_left l w.concentrator) (fetched l w.stations) w)
  steps_arrival [] = steps_same w
  steps_arrival (m ∷ l) = steps_at w m.station _ (λ s. refl) (λ s l. stays refl (λ o. record { off = o; nothing = record { entered = refl; handed = refl } }))

  steps_report : (l : List Report) → Steps w (line.with_concentrator (co.reports_left l w.concentrator) w.stations w)
  steps_report [] = steps_same w
  steps_report (m ∷ l) = steps_same w

  -- a reader hears
  steps_answered : (n a k : ℕ) (b : Burst) (s : Station) → found a w.stations ≡ Some s → address_of s ≡ a → (r : Result Turn Fault) → Turns s.reader r
      → Onward (link_at w.concentrator.links (address_of s)) (link_at w.concentrator.links (address_of s)) s (after n r s) → Steps w (answered n r s (leaves a k b w))
  steps_answered n a k b s e c (Err f) t o = steps_same w
  steps_answered n a k b s e c (Ok y) t o =
      each_changed (On w.concentrator.links w.concentrator.links) (λ q. found (address_of q) w.stations ≡ Some q) (address_of s) (λ q. turned n y s) w.stations
      (λ q z p. subst (λ u. On w.concentrator.links w.concentrator.links u (turned n y s))
      (same_Some _ _ (sym e ∙ ap (λ b. found b w.stations) (sym c ∙ sym (eqb-true (address_of q) (address_of s) z)) ∙ p))
      (record { same = turn_address s.reader (Ok y) t; on = o })) (λ q z p. on_same w.concentrator.links q) (own_found w.stations i.apart)

module _ {X : Type 0} (F : Ghosts X) (exact : VerdictLaw F.frame F.verdict) (guarded : GuardLaw F.WIDTH F.GUARD F.frame) where
  steps_hears : (w : World) (i : Inv w) (short : Bool) (a k : ℕ) (b : Burst) (heard : List ℕ) → OnWay a k b w → SaysWell b → HeardAs F b heard
      → (o : Option Station) → found a w.stations ≡ o → Steps w (line.hears_at F o short b.number heard (leaves a k b w))
  steps_hears w i short a k b heard lim v d None e = steps_same w
  steps_hears w i short a k b heard lim v d (Some s) e =
      let p = all_found (Stands w.concentrator.links w.concentrator.exchange i.state.live w.bursts) a w.stations s e i.state.each in
      steps_answered w i b.number a k b s e p.1 (rd.hear short (telegram_read (F.verdict heard)) s.reader) (turns s.reader short (telegram_read (F.verdict heard)))
      (go short (telegram_read (F.verdict heard)) refl (subst (λ c. OnWay c k b w) (sym p.1) lim) p.0)
    where
      go : (short : Bool) (r : Result Telegram Fault) → telegram_read (F.verdict heard) ≡ r → OnWay (address_of s) k b w
          → Stands w.concentrator.links w.concentrator.exchange i.state.live w.bursts s
          → Onward (link_at w.concentrator.links (address_of s)) (link_at w.concentrator.links (address_of s)) s (after b.number (rd.hear short r s.reader) s)
      go true r q l p = onward_same (link_at w.concentrator.links (address_of s)) s
      go false (Err f) q l p = onward_same (link_at w.concentrator.links (address_of s)) s
      go false (Ok t) q l p =
          subst (λ z. Onward (link_at w.concentrator.links (address_of s)) (link_at w.concentrator.links (address_of s)) s (after b.number (hear_telegram z s.reader) s))
          (sym (same_telegram F exact guarded b heard v d t q)) (onward_hear w i s k b l p)

  steps : (e : Event) (w : World) → ValidWorld w → Limit F e w → Inv w → Steps w (step F e w)
  steps (line.requests short a q) w ok lim i = steps_requested w i _ (asks w.concentrator a short q lim)
  steps (line.times_out short) w ok lim i = steps_timed w i _ (times w.concentrator short)
  steps (line.concentrator_hears k b heard) w ok lim i = steps_concluded w i b.number k b _ _ (hears w.concentrator (telegram_read (F.verdict heard)))
  steps (line.reader_hears short a k b heard) w ok lim i =
      steps_hears w i short a k b heard lim.0 (burst_valid w.bursts k b lim.0.0 lim.0.1 ok.bursts) lim.1 (found a w.stations) refl
  steps (line.loses e k b) w ok lim i = steps_same w
  steps line.loses_all w ok lim i = steps_same w
  steps (line.offers a class os) w ok lim i =
      steps_at w a _ (λ s. (offer_view s _ (offers s.reader class os lim)).1) (λ s l. onward_offer l s _ (offers s.reader class os lim))
  steps (line.collects a) w ok lim i = steps_at w a _ (λ s. (collect_view s.reader.inbox.records s).0) (λ s l. onward_collect l s)
  steps (line.restarts a) w ok lim i = steps_at w a _ (λ s. refl) (λ s l. onward_restart l s)
  steps line.fetches_arrival w ok lim i = steps_arrival w i w.concentrator.arrivals.records
  steps line.fetches_report w ok lim i = steps_report w i w.concentrator.reports.records
  steps line.surveys w ok lim i = steps_same w

  -- ## over a run

  pub record Since (j k : List Link) (s t : Station) : Type 0 where
    pub same : address_of t ≡ address_of s
    pub more : s.down.resets ≤ t.down.resets
    pub barred : t.down.resets ≡ s.down.resets → Off (link_at j (address_of s)) s → Stayed (link_at k (address_of s)) s t

  since_step : (j k l : List Link) (s t u : Station) → Since j k s t → On k l t u → Since j l s u
  since_step j k l s t u h o = go o.on
    where
      go : Onward (link_at k (address_of t)) (link_at l (address_of t)) t u → Since j l s u
      go (grows e) = record { same = o.same ∙ h.same; more = omega (arith, h.more, e); barred = λ q f. absurd (never q) }
        where
          never : u.down.resets ≡ s.down.resets → ⊥
          never q = omega (arith, h.more, e, q)
      go (stays e f) = record {
        same = o.same ∙ h.same;
        more = omega (arith, h.more, e);
        barred = λ q g.
            let a = h.barred (sym e ∙ q) g in
            let b = f (subst (λ c. Off (link_at k c) t) (sym h.same) a.off) in
            record {
              off = subst (λ c. Off (link_at l c) u) h.same b.off;
              nothing = record { entered = b.nothing.entered ∙ a.nothing.entered; handed = b.nothing.handed ∙ a.nothing.handed };
            };
      }

  since_same : (j : List Link) (s : Station) → Since j j s s
  since_same j s = record { same = refl; more = omega arith; barred = λ q o. record { off = o; nothing = record { entered = refl; handed = refl } } }

  pub since_run : {v w : World} → ValidWorld v → Inv v → Run F v w → AllZip (Since v.concentrator.links w.concentrator.links) v.stations w.stations
  since_run {v} ok i begin = each_same (Since v.concentrator.links v.concentrator.links) (since_same v.concentrator.links) v.stations
  since_run {v} ok i (then {w = w} r e lim) =
      each_then (Since v.concentrator.links w.concentrator.links) (On w.concentrator.links (step F e w).concentrator.links) (Since v.concentrator.links (step F e w).concentrator.links)
      (λ s t u. since_step v.concentrator.links w.concentrator.links (step F e w).concentrator.links s t u) v.stations w.stations (step F e w).stations
      (since_run ok i r) (steps e w (valid_run F r ok) lim (inv_run F exact guarded r ok i))

  -- what the statement says of it
  pub nothing_moves : (v w : World) → ValidWorld v → Inv v → Run F v w → (a : ℕ) (s t : Station) → found a v.stations ≡ Some s → found a w.stations ≡ Some t
      → Unset v.concentrator s → t.down.resets ≡ s.down.resets → NothingMoved s t
  nothing_moves v w ok i r a s t e f u q =
      ((each_found (Since v.concentrator.links w.concentrator.links) (λ x y h. h.same) a v.stations w.stations s t (since_run ok i r) e f).barred q u).nothing
