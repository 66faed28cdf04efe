-- The theorem of the two ends.
use Rattle.std.proofs.Common.{◌≡◌, ℕ, Bool, true, false, cond, eqb, ◌⊎◌, List, Some, None, Option, refl, subst, inl, inr, eqb-true}
use Rattle.account.proofs.Barred.{nothing_moves}
use Rattle.account.proofs.Invariant.{Inv, inv_new, inv_run}
use Rattle.account.proofs.Pair.{Live, Sync, open_for, send_in, shut, sync_of, view}
use Rattle.account.proofs.Room.{room_run}
use Rattle.account.proofs.State.{Stands, open_at, to_case}
use Rattle.account.proofs.States.{handed_states, waiting_states}
use Rattle.account.proofs.Stations.{address_of, all_found}
use Rattle.account.proofs.Tied.{Books, Landed, Tied, books_new, books_run}
use Rattle.account.proofs.Valid.{new_valid, valid_run}
use Rattle.account.specs.Account.{Account, OpenTo, TwoEndsOver, Unset, link_to, open_send, sent_by}
use Rattle.account.specs.Books.{Station, found}
use Rattle.account.specs.Ledger.{Requested}
use Rattle.account.specs.Line.{Burst, World}
use Rattle.frame.specs.Laws.{GuardLaw, VerdictLaw}
use Rattle.frame.specs.declared.Format.{Ghosts}
use Rattle.rules.specs.Concentrator.{Concentrator}
use Rattle.rules.specs.declared.records.Exchange.{Exchange}

-- the send that is open to a reader, as the invariant and as the statement say it
send_same : (x : Option Exchange) (a : ℕ) → send_in (open_at x a) ≡ open_send x a
send_same None a = refl
send_same (Some x) a = go (eqb x.station a)
  where
    go : (z : Bool) → send_in (cond z (open_for x.request x.bit) shut) ≡ cond z (sent_by x.request) None
    go true = refl
    go false = refl

-- with no exchange open to it, the two ends are at one
at_rest : (k : Concentrator) (s : Station) (x : Option Exchange) → k.exchange ≡ x → (OpenTo k s → ⊥) → (f : Live) (l : List Burst) → Stands k.links x f l s → Sync (link_to k s) (view s)
at_rest k s None e n f l p = sync_of p.pair.mode
at_rest k s (Some x) e n f l p = go (eqb x.station (address_of s)) refl
  where
    go : (z : Bool) → eqb x.station (address_of s) ≡ z → Sync (link_to k s) (view s)
    go true q = absurd (n (x, e, eqb-true x.station (address_of s) q))
    go false q = sync_of (to_case x (address_of s) (link_to k s) f l (view s) false q p).pair.mode

bits : (k : Concentrator) (s : Station) → Sync (link_to k s) (view s) → (y z : Bool) → (link_to k s).set ≡ y → s.reader.link.set ≡ z → Unset k s ⊎ ((link_to k s).next ≡ s.reader.link.next)
bits k s h false z p q = inl (inl p)
bits k s h true false p q = inl (inr q)
bits k s h true true p q = inr (h p q).0

account : (w : World) → Inv w → Books w → (a : ℕ) (s : Station) → found a w.stations ≡ Some s → Account w.concentrator s
account w i b a s e =
    let p = (all_found (Stands w.concentrator.links w.concentrator.exchange i.state.live w.bursts) a w.stations s e i.state.each).0 in
    let t = (all_found (λ s. Tied s × Landed w.concentrator.arrivals.records s) a w.stations s e b.all).0 in
    record {
      sends = record {
        numbered = t.0.sent;
        accounted = p.pair.downs;
        kept = t.0.inbox;
        requests = subst (λ m. Requested m s.down.sends) (send_same w.concentrator.exchange (address_of s)) p.pair.requests;
      };
      offers = record {
        numbered = t.0.offered;
        each = t.0.each;
        waits = t.0.waits;
        waiting_so = waiting_states s.up t.0.offered t.0.each;
        handed_so = handed_states s.up t.0.offered t.0.each;
        out = p.pair.outs;
        accounted = p.pair.ups;
        kept = t.1;
      };
      bits = λ n. bits w.concentrator s (at_rest w.concentrator s w.concentrator.exchange refl n i.state.live w.bursts p) (link_to w.concentrator s).set s.reader.link.set refl refl;
    }

module _ {X : Type 0} (F : Ghosts X) (exact : VerdictLaw F.frame F.verdict) (guarded : GuardLaw F.WIDTH F.GUARD F.frame) where
  pub two_ends : TwoEndsOver F
  two_ends r i j readers apart w run =
      let valid = valid_run F run (new_valid r i j readers apart) in
      let inv = inv_run F exact guarded run (new_valid r i j readers apart) (inv_new r i j readers apart) in
      let books = books_run F run refl (books_new r i j readers) in (
        room_run F run refl,
        λ a s e. (account w inv books a s e, λ later t on f u q. nothing_moves F exact guarded w later valid inv on a s t e f u q),
      )
