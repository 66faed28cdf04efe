-- Each accepted offer has one state: it waits, or it was handed out, and no number stands in two places.
use Rattle.std.proofs.Common.{◌≡◌, ℕ, ◌+◌, ◌≤◌, Bool, true, false, cond, eqb, List, [], ◌∷◌, ◌++◌, map, reverse, length, refl, ap, ◌∙◌, subst, arith}
use mathlib.Core.List.{reverse-cons}
use Rattle.account.proofs.Stations.{all_map, own, turned_round}
use Rattle.account.specs.Account.{of_class, offers_handed, same_class}
use Rattle.account.specs.Books.{Up, offer_state, waiting}
use Rattle.account.specs.Ledger.{Numbered}
use Rattle.account.specs.declared.books.HandOut.{HandOut}
use Rattle.account.specs.declared.books.Item.{Item}
use Rattle.account.specs.declared.books.Offer.{Offer}
use Rattle.account.specs.declared.books.OfferState.TheVariants.{Waiting}
use Rattle.rules.specs.declared.records.Class.{Class}
use Rattle.rules.specs.declared.records.Class.TheVariants.{First, Second}
use Rattle.std.proofs.lemmas.Bool.Decides.{nat_tests}
use Rattle.std.specs.List.{AllByRecursion}

-- not of this number
abbrev Other : ℕ → Item → Type 0
Other n i = eqb i.number n ≡ false

abbrev OtherOffer : ℕ → Offer → Type 0
OtherOffer n o = Other n o.item

-- no two of one number
abbrev Differ : List Item → Type 0
Differ [] = Unit {0}
Differ (i ∷ l) = AllByRecursion (Other i.number) l × Differ l

abbrev DifferOffers : List Offer → Type 0
DifferOffers [] = Unit {0}
DifferOffers (o ∷ l) = AllByRecursion (OtherOffer o.item.number) l × DifferOffers l

-- ## lists

all_split : (P : Item → Type 0) (p q : List Item) → AllByRecursion P (p ++ q) → AllByRecursion P p × AllByRecursion P q
all_split P [] q h = (tt, h)
all_split P (i ∷ p) q h = let r = all_split P p q h.1 in ((h.0, r.0), r.1)

all_back : (P : Item → Type 0) (l : List Item) → AllByRecursion P (reverse l) → AllByRecursion P l
all_back P [] h = tt
all_back P (i ∷ l) h =
    let r = all_split P (reverse l) (i ∷ []) (subst (AllByRecursion P) (reverse-cons i l) h) in
    (r.1.0, all_back P l r.0)

differ_split : (p q : List Item) → Differ (p ++ q) → AllByRecursion (λ i. AllByRecursion (Other i.number) q) p × Differ q
differ_split [] q h = (tt, h)
differ_split (i ∷ p) q h = let r = differ_split p q h.1 in (((all_split (Other i.number) p q h.0).1, r.0), r.1)

-- ## the offers of a class

class_all : (P : Item → Type 0) (c : Class) (l : List Offer) → AllByRecursion (λ o. P o.item) l → AllByRecursion P (of_class c l)
class_all P c [] h = tt
class_all P c (o ∷ l) h = go (same_class c o.class) (class_all P c l h.1)
  where
    go : (z : Bool) → AllByRecursion P (of_class c l) → AllByRecursion P (cond z (o.item ∷ of_class c l) (of_class c l))
    go true r = (h.0, r)
    go false r = r

class_differ : (c : Class) (l : List Offer) → DifferOffers l → Differ (of_class c l)
class_differ c [] h = tt
class_differ c (o ∷ l) h = go (same_class c o.class) (class_differ c l h.1)
  where
    go : (z : Bool) → Differ (of_class c l) → Differ (cond z (o.item ∷ of_class c l) (of_class c l))
    go true r = (class_all (Other o.item.number) c l h.0, r)
    go false r = r

-- one of class 1 and one of class 2 are two
abbrev ApartIn : List Item → List Item → Type 0
ApartIn l k = AllByRecursion (λ i. AllByRecursion (Other i.number) k) l

apart_round : (i : Item) (l : List Item) → AllByRecursion (Other i.number) l → AllByRecursion (λ j. Other j.number i) l
apart_round i l h = all_map (Other i.number) (λ j. Other j.number i) l (λ j e. turned_round j.number i.number false e) h

apart_more : (j : Item) (l k : List Item) → AllByRecursion (λ i. Other i.number j) l → ApartIn l k → ApartIn l (j ∷ k)
apart_more j [] k h p = tt
apart_more j (i ∷ l) k h p = ((h.0, p.0), apart_more j l k h.1 p.1)

classes_apart : (l : List Offer) → DifferOffers l → ApartIn (of_class First l) (of_class Second l)
classes_apart [] h = tt
classes_apart (o ∷ l) h = go o o.class (classes_apart l h.1) h.0
  where
    go : (o : Offer) (c : Class) → ApartIn (of_class First l) (of_class Second l) → AllByRecursion (OtherOffer o.item.number) l
        → ApartIn (cond (same_class First c) (o.item ∷ of_class First l) (of_class First l)) (cond (same_class Second c) (o.item ∷ of_class Second l) (of_class Second l))
    go o First r f = (class_all (Other o.item.number) Second l f, r)
    go o Second r f = apart_more o.item (of_class First l) (of_class Second l) (apart_round o.item (of_class First l) (class_all (Other o.item.number) First l f)) r

apart_swap : (l k : List Item) → ApartIn l k → ApartIn k l
apart_swap [] k h = all_of_nothing k
  where
    all_of_nothing : (k : List Item) → AllByRecursion (λ i. Unit {0}) k
    all_of_nothing [] = tt
    all_of_nothing (i ∷ k) = (tt, all_of_nothing k)
apart_swap (i ∷ l) k h = apart_more i k l (apart_round i k h.0) (apart_swap l k h.1)

-- what holds of both classes holds of all
both_classes : (P : Item → Type 0) (l : List Offer) → AllByRecursion P (of_class First l) → AllByRecursion P (of_class Second l) → AllByRecursion (λ o. P o.item) l
both_classes P [] f s = tt
both_classes P (o ∷ l) f s = go o.class f s (λ f s. both_classes P l f s)
  where
    go : (c : Class) → AllByRecursion P (cond (same_class First c) (o.item ∷ of_class First l) (of_class First l)) → AllByRecursion P (cond (same_class Second c) (o.item ∷ of_class Second l) (of_class Second l))
        → (AllByRecursion P (of_class First l) → AllByRecursion P (of_class Second l) → AllByRecursion (λ o. P o.item) l) → P o.item × AllByRecursion (λ o. P o.item) l
    go First f s r = (f.0, r f.1 s)
    go Second f s r = (s.0, r f s.1)

both_differ : (l : List Offer) → Differ (of_class First l) → Differ (of_class Second l) → ApartIn (of_class First l) (of_class Second l) → DifferOffers l
both_differ [] f s a = tt
both_differ (o ∷ l) f s a = go o.class f s a (λ f s a. both_differ l f s a)
  where
    tails : (j : Item) (p k : List Item) → ApartIn p (j ∷ k) → AllByRecursion (λ i. Other i.number j) p × ApartIn p k
    tails j [] k h = (tt, tt)
    tails j (i ∷ p) k h = let r = tails j p k h.1 in ((h.0.0, r.0), (h.0.1, r.1))

    go : (c : Class) → Differ (cond (same_class First c) (o.item ∷ of_class First l) (of_class First l)) → Differ (cond (same_class Second c) (o.item ∷ of_class Second l) (of_class Second l))
        → ApartIn (cond (same_class First c) (o.item ∷ of_class First l) (of_class First l)) (cond (same_class Second c) (o.item ∷ of_class Second l) (of_class Second l))
        → (Differ (of_class First l) → Differ (of_class Second l) → ApartIn (of_class First l) (of_class Second l) → DifferOffers l) → AllByRecursion (OtherOffer o.item.number) l × DifferOffers l
    go First f s a r = (both_classes (Other o.item.number) l f.0 a.0, r f.1 s a.1)
    go Second f s a r =
        let t = tails o.item (of_class First l) (of_class Second l) a in
        (both_classes (Other o.item.number) l (all_map (λ i. Other i.number o.item) (Other o.item.number) (of_class First l) (λ i e. turned_round o.item.number i.number false e) t.0) s.0, r f s.1 t.1)

-- ## numbers

numbered_small : (l : List Offer) → Numbered (map (λ o. o.item) l) → AllByRecursion (λ o. o.item.number ≤ length l) l
numbered_small [] h = tt
numbered_small (o ∷ l) h =
    (omega (arith, h.0, lib.ListN.length-map l (λ o. o.item)), all_map (λ p. p.item.number ≤ length l) (λ p. p.item.number ≤ length (o ∷ l)) l (λ p e. omega arith) (numbered_small l h.1))

numbered_differ : (l : List Offer) → Numbered (map (λ o. o.item) l) → DifferOffers l
numbered_differ [] h = tt
numbered_differ (o ∷ l) h = (
  all_map (λ p. p.item.number ≤ length l) (OtherOffer o.item.number) l (λ p e. less p.item.number o.item.number (length l) e (h.0 ∙ ap (λ n. n + 1) (lib.ListN.length-map l (λ o. o.item))))
      (numbered_small l h.1),
  numbered_differ l h.1,
)
  where
    less : (m n k : ℕ) → m ≤ k → n ≡ k + 1 → eqb m n ≡ false
    less m n k h e = grind (arith, nat_tests)

-- ## states

not_handed : (n : ℕ) (l : List HandOut) → AllByRecursion (OtherOffer n) (offers_handed l) → offer_state n l ≡ Waiting
not_handed n [] h = refl
not_handed n (x ∷ l) h = ap (λ z. cond z x.state (offer_state n l)) h.0 ∙ not_handed n l h.1

own_state : (l : List HandOut) → DifferOffers (offers_handed l) → AllByRecursion (λ h. offer_state h.offer.item.number l ≡ h.state) l
own_state [] d = tt
own_state (x ∷ l) d =
    (ap (λ z. cond z x.state (offer_state x.offer.item.number l)) (own x.offer.item.number), later l d.0 (own_state l d.1))
  where
    later : (k : List HandOut) → AllByRecursion (OtherOffer x.offer.item.number) (offers_handed k) → AllByRecursion (λ h. offer_state h.offer.item.number l ≡ h.state) k
        → AllByRecursion (λ h. offer_state h.offer.item.number (x ∷ l) ≡ h.state) k
    later [] e p = tt
    later (y ∷ k) e p =
        (ap (λ z. cond z x.state (offer_state y.offer.item.number l)) (turned_round y.offer.item.number x.offer.item.number false e.0) ∙ p.0, later k e.1 p.1)

module _ (u : Up) (numbered : Numbered (map (λ o. o.item) u.offered))
    (each : (c : Class) → of_class c u.offered ≡ reverse (waiting c u) ++ of_class c (offers_handed u.handed)) where
  abbrev handed_of : Class → List Item
  handed_of c = of_class c (offers_handed u.handed)

  offered_differ : DifferOffers u.offered
  offered_differ = numbered_differ u.offered numbered

  split : (c : Class) → ApartIn (reverse (waiting c u)) (handed_of c) × Differ (handed_of c)
  split c = differ_split (reverse (waiting c u)) (handed_of c) (subst Differ (each c) (class_differ c u.offered offered_differ))

  -- the offers of one class against those of the other
  across : (c d : Class) → ApartIn (of_class c u.offered) (of_class d u.offered)
      → ApartIn (waiting c u) (handed_of d) × ApartIn (handed_of c) (handed_of d)
  across c d h =
      let k : ApartIn (reverse (waiting c u) ++ handed_of c) (of_class d u.offered) = subst (λ l. ApartIn l (of_class d u.offered)) (each c) h in
      let p = all_split (λ i. AllByRecursion (Other i.number) (of_class d u.offered)) (reverse (waiting c u)) (handed_of c) k in (
        all_map (λ i. AllByRecursion (Other i.number) (of_class d u.offered)) (λ i. AllByRecursion (Other i.number) (handed_of d)) (waiting c u) only (all_back (λ i. AllByRecursion (Other i.number) (of_class d u.offered)) (waiting c u) p.0),
        all_map (λ i. AllByRecursion (Other i.number) (of_class d u.offered)) (λ i. AllByRecursion (Other i.number) (handed_of d)) (handed_of c) only p.1,
      )
    where
      only : (i : Item) → AllByRecursion (Other i.number) (of_class d u.offered) → AllByRecursion (Other i.number) (handed_of d)
      only i h = (all_split (Other i.number) (reverse (waiting d u)) (handed_of d) (subst (AllByRecursion (Other i.number)) (each d) h)).1

  apart : ApartIn (of_class First u.offered) (of_class Second u.offered)
  apart = classes_apart u.offered offered_differ

  waits_so : (l : List Item) → ApartIn l (handed_of First) → ApartIn l (handed_of Second) → AllByRecursion (λ i. offer_state i.number u.handed ≡ Waiting) l
  waits_so [] f s = tt
  waits_so (i ∷ l) f s = (not_handed i.number u.handed (both_classes (Other i.number) (offers_handed u.handed) f.0 s.0), waits_so l f.1 s.1)

  pub waiting_states : (c : Class) → AllByRecursion (λ i. offer_state i.number u.handed ≡ Waiting) (waiting c u)
  waiting_states First =
      waits_so u.waiting1 (all_back (λ i. AllByRecursion (Other i.number) (handed_of First)) u.waiting1 (split First).0) (across First Second apart).0
  waiting_states Second =
      waits_so u.waiting2 (across Second First (apart_swap (of_class First u.offered) (of_class Second u.offered) apart)).0
      (all_back (λ i. AllByRecursion (Other i.number) (handed_of Second)) u.waiting2 (split Second).0)

  pub handed_states : AllByRecursion (λ h. offer_state h.offer.item.number u.handed ≡ h.state) u.handed
  handed_states = own_state u.handed (both_differ (offers_handed u.handed) (split First).1 (split Second).1 (across First Second apart).1)
