-- The reader of an address: the one in memory, its place, and its partner on the line.
use Rattle.std.proofs.Common.{◌≡◌, ℕ, suc, ◌<◌, Bool, true, false, cond, eqb, List, [], ◌∷◌, map, length, get_or, Some, None, Option, sym, refl, ap, ◌∙◌, subst, arith, MatchOption}
use Rattle.account.specs.Books as account
use Rattle.account.specs.Books.{change, found}
use Rattle.readers.proofs.Addresses.{none_there}
use Rattle.readers.specs.Pairs.{Paired, addresses}
use Rattle.readers.specs.Readers.{Kept, ShowsReader, at, place, place_of}
use Rattle.std.proofs.lemmas.Bool.{eqb-true}
use Rattle.std.specs.Option.{option_map}
use Rattle.std.specs.List.{AllByRecursion}
use Rattle.std.proofs.lemmas.Option.{none-some, same_Some}

-- ## the place of an address

pub place_some : (a : ℕ) (l : List ℕ) (i : ℕ) → place a l ≡ Some i → (i < length l) × (get_or l i 0 ≡ a)
place_some a [] i e = absurd (none-some _ e)
place_some a (b ∷ l) i e = go (eqb b a) refl (place a l) e (λ j. place_some a l j)
  where
    go : (z : Bool) → eqb b a ≡ z → (o : Option ℕ) → cond z (Some 0) (option_map suc o) ≡ Some i → ((j : ℕ) → o ≡ Some j → (j < length l) × (get_or l j 0 ≡ a)) → (i < length (b ∷ l)) × (get_or (b ∷ l) i 0 ≡ a)
    go true is o d k = subst (λ n. (n < length (b ∷ l)) × (get_or (b ∷ l) n 0 ≡ a)) (same_Some _ _ d) (omega arith, eqb-true b a is)
    go false is None d k = absurd (none-some _ d)
    go false is (Some j) d k = let q = k j refl in subst (λ n. (n < length (b ∷ l)) × (get_or (b ∷ l) n 0 ≡ a)) (same_Some _ _ d) (omega (arith, q.0), q.1)

place_none : (a : ℕ) (l : List ℕ) → place a l ≡ None → AllByRecursion (λ b. eqb b a ≡ false) l
place_none a [] e = tt
place_none a (b ∷ l) e = go (eqb b a) refl (place a l) e (λ d. place_none a l d)
  where
    go : (z : Bool) → eqb b a ≡ z → (o : Option ℕ) → cond z (Some 0) (option_map suc o) ≡ None → (o ≡ None → AllByRecursion (λ c. eqb c a ≡ false) l) → AllByRecursion (λ c. eqb c a ≡ false) (b ∷ l)
    go true is o d k = absurd (none-some _ (sym d))
    go false is None d k = (is, k refl)
    go false is (Some j) d k = absurd (none-some _ (sym d))

abbrev address_of : Kept → ℕ
address_of x = x.reader.address

-- ## the readers on the line

-- the reader in memory, and the one on the line
abbrev pub Partners : ℕ → Option Kept → List account.Station → Type 0
Partners a None ys = found a ys ≡ None
Partners a (Some x) ys = (s : account.Station) × (found a ys ≡ Some s) × ShowsReader x s

pub partners : (a : ℕ) (xs : List Kept) (ys : List account.Station) → Paired ShowsReader xs ys → Partners a (at a xs) ys
partners a [] [] p = refl
partners a [] (y ∷ ys) p = absurd p
partners a (x ∷ xs) [] p = absurd p
partners a (x ∷ xs) (y ∷ ys) p = go (eqb x.reader.address a) (ap (λ r. eqb r.address a) (sym p.0.0)) (partners a xs ys p.1)
  where
    later : (o : Option Kept) → eqb y.reader.address a ≡ false → Partners a o ys → Partners a o (y ∷ ys)
    later None e q = ap (λ z. cond z (Some y) (found a ys)) e ∙ q
    later (Some k) e q = (q.0, ap (λ z. cond z (Some y) (found a ys)) e ∙ q.1, q.2)

    go : (z : Bool) → eqb y.reader.address a ≡ z → Partners a (at a xs) ys → Partners a (cond z (Some x) (at a xs)) (y ∷ ys)
    go true e q = (y, ap (λ z. cond z (Some y) (found a ys)) e, p.0)
    go false e q = later (at a xs) e q

-- there is none on the line where there is none in memory
pub no_partner : (a : ℕ) (xs : List Kept) → None ≡ place_of a xs → (ys : List account.Station) → Paired ShowsReader xs ys → AllByRecursion (λ b. eqb b a ≡ false) (addresses ys)
no_partner a xs e ys p = none_there ShowsReader xs ys a p (go xs (place_none a (map address_of xs) (sym e)))
  where
    go : (l : List Kept) → AllByRecursion (λ b. eqb b a ≡ false) (map address_of l) → AllByRecursion (λ x. (s : account.Station) → ShowsReader x s → eqb s.reader.address a ≡ false) l
    go [] h = tt
    go (x ∷ l) h = (λ s k. ap (λ r. eqb r.address a) (sym k.0) ∙ h.0, go l h.1)

-- what is read of the reader of an address, if there is one, is so of its partner
pub read_found :
    {X : Type 0} (now : X → Kept) (Q : X → Type 0) (n : Kept → ℕ) (f : Option account.Station → ℕ) (o : Option X) (r : ℕ) (a : ℕ) (xs : List Kept) (ys : List account.Station) →
    Paired ShowsReader xs ys →
    option_map now o ≡ at a xs →
    MatchOption o (r ≡ f None) Q →
    ((x : X) → Q x → r ≡ n (now x)) →
    ((k : Kept) (s : account.Station) → ShowsReader k s → n k ≡ f (Some s)) →
    r ≡ f (found a ys)
read_found now Q n f o r a xs ys p e told reads shows = go o (subst (λ k. Partners a k ys) (sym e) (partners a xs ys p)) told
  where
    go : (z : _) → Partners a (option_map now z) ys → MatchOption z (r ≡ f None) Q → r ≡ f (found a ys)
    go None q t = t ∙ ap f (sym q)
    go (Some x) q t = reads x t ∙ shows (now x) q.0 q.2 ∙ ap f (sym q.1)
