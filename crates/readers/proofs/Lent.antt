-- The reader of an address, when it is lent: which one it is, and what the readers are after it was called.
use Rattle.std.proofs.Common.{◌≡◌, ℕ, zero, suc, ◌<◌, Bool, true, false, cond, not, eqb, List, [], ◌∷◌, map, length, get_or, set, Some, None, Option, sym, refl, ap, ◌∙◌, subst, ap₂, arith, IfSome, MatchOption}
use Rattle.account.specs.Books as account
use Rattle.account.specs.Books.{change}
use Rattle.readers.proofs.Addresses.{change_none}
use Rattle.readers.specs.Pairs.{Changes, Paired, addresses}
use Rattle.readers.specs.Readers.{ShowsReader, at, kept, place_of, replaced, station_at}
use Rattle.station.specs.Shown.{Ready, ShownChange, books_of, reader_of}
use Rattle.station.specs.declared.Station.{Station}
use Rattle.std.proofs.lemmas.Bool.{eq-eqb, eqb-true, ne_eqb, true≢false}
use Rattle.std.specs.List.{AllByRecursion, AllWithin, HoldsAt}
use Rattle.std.specs.Option.{option_map}
use Rattle.std.proofs.lemmas.Option.{none-some, same_Some}

module _ {F : Type 0} (a : ℕ) where
  abbrev is_here : Station F → Bool
  is_here x = eqb (reader_of x).address a

  -- ## its place

  abbrev pub Here : Station F → Type 0
  Here x = (reader_of x).address ≡ a

  abbrev pub Elsewhere : Station F → Type 0
  Elsewhere x = (reader_of x).address ≡ a → ⊥

  first_place : (l : List (Station F)) (i : ℕ) → i < length l → HoldsAt Here l i → AllWithin Elsewhere l 0 i → place_of a (map kept l) ≡ Some i
  first_place [] i h y n = absurd (omega arith)
  first_place (x ∷ l) zero h y n = ap (λ z. cond z (Some 0) (option_map suc (place_of a (map kept l)))) (eq-eqb _ a (y x))
  first_place (x ∷ l) (suc i) h y n =
      ap₂ (λ z o. cond z (Some 0) (option_map suc o)) (ne_eqb _ a (n 0 x (omega arith) (omega arith)))
      (first_place l i (omega arith) (λ d. y d) (λ k d lo hi. n (suc k) d (omega arith) (omega arith)))

  no_place : (l : List (Station F)) → AllWithin Elsewhere l 0 (length l) → place_of a (map kept l) ≡ None
  no_place [] n = refl
  no_place (x ∷ l) n =
      ap₂ (λ z o. cond z (Some 0) (option_map suc o)) (ne_eqb _ a (n 0 x (omega arith) (omega arith)))
      (no_place l (λ k d lo hi. n (suc k) d (omega arith) (omega arith)))

  -- what a search by address answers
  pub place_found :
      (l : List (Station F)) (r : Option ℕ) →
      MatchOption r (AllWithin Elsewhere l 0 (length l)) (λ i. (i < length l) × HoldsAt Here l i × AllWithin Elsewhere l 0 i) →
      r ≡ place_of a (map kept l)
  place_found l None n = sym (no_place l n)
  place_found l (Some i) h = sym (first_place l i h.0 h.1 h.2)

  pub lent_at :
      (l : List (Station F)) (i : ℕ) → place_of a (map kept l) ≡ Some i →
      ((x : Station F) → x ≡ get_or l i x → station_at a l ≡ Some x) × ((w : Station F) → set l i w ≡ replaced a w l)
  lent_at [] i e = absurd (none-some _ e)
  lent_at (y ∷ l) i e = go (is_here y) (place_of a (map kept l)) e (λ j d. lent_at l j d)
    where
      go : (z : Bool) (o : Option ℕ) → cond z (Some 0) (option_map suc o) ≡ Some i
          → ((j : ℕ) → o ≡ Some j → ((x : Station F) → x ≡ get_or l j x → station_at a l ≡ Some x) × ((w : Station F) → set l j w ≡ replaced a w l))
          → ((x : Station F) → x ≡ get_or (y ∷ l) i x → cond z (Some y) (station_at a l) ≡ Some x) × ((w : Station F) → set (y ∷ l) i w ≡ cond z (w ∷ l) (y ∷ replaced a w l))
      go true o d k =
          subst (λ n. ((x : Station F) → x ≡ get_or (y ∷ l) n x → Some y ≡ Some x) × ((w : Station F) → set (y ∷ l) n w ≡ w ∷ l)) (same_Some _ _ d) (λ x q. ap Some (sym q), λ w. refl)
      go false None d k = absurd (none-some _ d)
      go false (Some j) d k =
          let p = k j refl in
          subst (λ n. ((x : Station F) → x ≡ get_or (y ∷ l) n x → station_at a l ≡ Some x) × ((w : Station F) → set (y ∷ l) n w ≡ y ∷ replaced a w l)) (same_Some _ _ d)
          (λ x q. p.0 x q, λ w. ap (λ r. y ∷ r) (p.1 w))

  pub lent_none : (l : List (Station F)) → place_of a (map kept l) ≡ None → (station_at a l ≡ None) × ((w : Station F) → l ≡ replaced a w l)
  lent_none [] e = (refl, λ w. refl)
  lent_none (y ∷ l) e = go (is_here y) (place_of a (map kept l)) e (λ d. lent_none l d)
    where
      go : (z : Bool) (o : Option ℕ) → cond z (Some 0) (option_map suc o) ≡ None
          → (o ≡ None → (station_at a l ≡ None) × ((w : Station F) → l ≡ replaced a w l))
          → (cond z (Some y) (station_at a l) ≡ None) × ((w : Station F) → y ∷ l ≡ cond z (w ∷ l) (y ∷ replaced a w l))
      go true o d k = absurd (none-some _ (sym d))
      go false None d k = let p = k refl in (p.0, λ w. ap (λ r. y ∷ r) (p.1 w))
      go false (Some j) d k = absurd (none-some _ (sym d))

  -- ## the reader that is lent

  -- the one of that address, as plain data
  pub kept_at : (l : List (Station F)) → option_map kept (station_at a l) ≡ at a (map kept l)
  kept_at [] = refl
  kept_at (y ∷ l) = go (is_here y) (kept_at l)
    where
      go : (z : Bool) → option_map kept (station_at a l) ≡ at a (map kept l) → option_map kept (cond z (Some y) (station_at a l)) ≡ cond z (Some (kept y)) (at a (map kept l))
      go true k = refl
      go false k = k

  pub lent_here : (l : List (Station F)) (x : Station F) → Some x ≡ station_at a l → at a (map kept l) ≡ Some (kept x)
  lent_here l x e = sym (kept_at l) ∙ ap (option_map kept) (sym e)

  pub none_here : (l : List (Station F)) → None ≡ station_at a l → at a (map kept l) ≡ None
  none_here l e = sym (kept_at l) ∙ ap (option_map kept) (sym e)

  replaced_changed :
      (l : List (Station F)) (x w : Station F) (f : account.Station → account.Station) → station_at a l ≡ Some x → ShownChange x w f →
      Changes ShowsReader (map kept l) (map kept (replaced a w l)) (change a f)
  replaced_changed [] x w f e k ys apart p = absurd (none-some _ e)
  replaced_changed (y ∷ l) x w f e k [] apart p = absurd p
  replaced_changed (y ∷ l) x w f e k (s ∷ ys) apart p = go (is_here y) refl e (λ d. replaced_changed l x w f d k ys apart.2 p.1)
    where
      go : (z : Bool) → is_here y ≡ z → cond z (Some y) (station_at a l) ≡ Some x
          → (station_at a l ≡ Some x → Paired ShowsReader (map kept (replaced a w l)) (change a f ys))
          → Paired ShowsReader (map kept (cond z (w ∷ l) (y ∷ replaced a w l))) (cond (eqb s.reader.address a) (f s) s ∷ change a f ys)
      go true is d r =
          let there : eqb s.reader.address a ≡ true = ap (λ r. eqb r.address a) (sym p.0.0) ∙ is in
          let others = subst (λ b. AllByRecursion (λ c. eqb c b ≡ false) (addresses ys)) (eqb-true s.reader.address a there) apart.1 in
          let lent : ShownChange y w f = subst (λ u. ShownChange u w f) (sym (same_Some _ _ d)) k in (
            subst (λ z. ShowsReader (kept w) (cond z (f s) s)) (sym there) (lent s p.0),
            subst (Paired ShowsReader (map kept l)) (sym (change_none a f ys others)) p.1,
          )
      go false is d r =
          let there : eqb s.reader.address a ≡ false = ap (λ r. eqb r.address a) (sym p.0.0) ∙ is in
          (subst (λ z. ShowsReader (kept y) (cond z (f s) s)) (sym there) p.0, r d)

  -- after it was called
  pub lent_changed :
      (l m : List (Station F)) (x w : Station F) (f : account.Station → account.Station) → Some x ≡ station_at a l → m ≡ replaced a w l → ShownChange x w f →
      Changes ShowsReader (map kept l) (map kept m) (change a f)
  lent_changed l m x w f e q k = subst (λ n. Changes ShowsReader (map kept l) (map kept n) (change a f)) (sym q) (replaced_changed l x w f (sym e) k)

  still_changed :
      (l : List (Station F)) (f : account.Station → account.Station) → None ≡ station_at a l → Changes ShowsReader (map kept l) (map kept l) (change a f)
  still_changed [] f e [] apart p = p
  still_changed [] f e (s ∷ ys) apart p = absurd p
  still_changed (y ∷ l) f e [] apart p = absurd p
  still_changed (y ∷ l) f e (s ∷ ys) apart p = go (is_here y) refl (sym e) (λ d. still_changed l f (sym d) ys apart.2 p.1)
    where
      go : (z : Bool) → is_here y ≡ z → cond z (Some y) (station_at a l) ≡ None
          → (station_at a l ≡ None → Paired ShowsReader (map kept l) (change a f ys))
          → Paired ShowsReader (kept y ∷ map kept l) (cond (eqb s.reader.address a) (f s) s ∷ change a f ys)
      go true is d r = absurd (none-some _ (sym d))
      go false is d r =
          let there : eqb s.reader.address a ≡ false = ap (λ r. eqb r.address a) (sym p.0.0) ∙ is in
          (subst (λ z. ShowsReader (kept y) (cond z (f s) s)) (sym there) p.0, r d)

  -- where there is none
  pub none_changed :
      (l m : List (Station F)) (f : account.Station → account.Station) → None ≡ station_at a l → m ≡ l → Changes ShowsReader (map kept l) (map kept m) (change a f)
  none_changed l m f e q = subst (λ n. Changes ShowsReader (map kept l) (map kept n) (change a f)) (sym q) (still_changed l f e)

  replaced_same : (l : List (Station F)) (x w : Station F) → station_at a l ≡ Some x → kept w ≡ kept x → map kept (replaced a w l) ≡ map kept l
  replaced_same [] x w e q = refl
  replaced_same (y ∷ l) x w e q = go (is_here y) e (λ d. replaced_same l x w d q)
    where
      go : (z : Bool) → cond z (Some y) (station_at a l) ≡ Some x → (station_at a l ≡ Some x → map kept (replaced a w l) ≡ map kept l) → map kept (cond z (w ∷ l) (y ∷ replaced a w l)) ≡ kept y ∷ map kept l
      go true d r = ap (λ k. k ∷ map kept l) (q ∙ ap kept (sym (same_Some _ _ d)))
      go false d r = ap (λ t. kept y ∷ t) (r d)

  replaced_now : (l : List (Station F)) (x w : Station F) → station_at a l ≡ Some x → kept w ≡ kept x → station_at a (replaced a w l) ≡ Some w
  replaced_now [] x w e q = absurd (none-some _ e)
  replaced_now (y ∷ l) x w e q = go (is_here y) refl e (λ d. replaced_now l x w d q)
    where
      go : (z : Bool) → is_here y ≡ z → cond z (Some y) (station_at a l) ≡ Some x → (station_at a l ≡ Some x → station_at a (replaced a w l) ≡ Some w) → station_at a (cond z (w ∷ l) (y ∷ replaced a w l)) ≡ Some w
      go true is d r =
          let here : is_here w ≡ true = ap (λ k. eqb k.reader.address a) (q ∙ ap kept (sym (same_Some _ _ d))) ∙ is in
          ap (λ z. cond z (Some w) (station_at a l)) here
      go false is d r = ap (λ z. cond z (Some y) (station_at a (replaced a w l))) is ∙ r d

  module _ (l m : List (Station F)) (x w : Station F) (e : Some x ≡ station_at a l) (q : m ≡ replaced a w l) where
    -- after a call that changed nothing of what it shows
    pub lent_same : reader_of w ≡ reader_of x → books_of w ≡ books_of x → map kept m ≡ map kept l
    lent_same p b = ap (map kept) q ∙ replaced_same l x w (sym e) (ap₂ (λ r k. record { reader = r; books = k }) p b)

    -- after a call that was not made
    pub lent_unmade : (z : Bool) (u : _) (v : _) → reader_of w ≡ cond z (reader_of x) u → books_of w ≡ cond z (books_of x) v → not z ≡ false → map kept m ≡ map kept l
    lent_unmade true u v p b n = lent_same p b
    lent_unmade false u v p b n = absurd (true≢false n)

    -- before a call that needs room, and after the one that made it
    pub lent_ready : IfSome (station_at a l) Ready → Ready x
    lent_ready k = subst (λ o. IfSome o Ready) (sym e) k

    pub ready_now : reader_of w ≡ reader_of x → books_of w ≡ books_of x → Ready w → IfSome (station_at a m) Ready
    ready_now p b k =
        let there : station_at a m ≡ Some w = ap (station_at a) q ∙ replaced_now l x w (sym e) (ap₂ (λ r n. record { reader = r; books = n }) p b) in
        subst (λ o. IfSome o Ready) (sym there) k
