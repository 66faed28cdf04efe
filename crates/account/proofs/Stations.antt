-- Lists of readers: what holds of each, found by address, after a change of one.
use Rattle.std.proofs.Common.{◌≡◌, ℕ, Bool, true, false, cond, eqb, List, [], ◌∷◌, ◌++◌, Some, sym, refl, ap, ◌∙◌, subst, arith, eq-eqb, eqb-true}
use Rattle.account.specs.Books.{Station, found, change, newest_send, newest_sent}
use Rattle.std.proofs.lemmas.Bool.Decides.{nat_tests}
use Rattle.std.proofs.lemmas.Option.{none-some, same_Some}
use Rattle.std.specs.List.{AllZip, AllByRecursion}

abbrev pub address_of : Station → ℕ
address_of s = s.reader.address

pub own : (a : ℕ) → eqb a a ≡ true
own a = eq-eqb a a refl

pub turned_round : (a b : ℕ) (z : Bool) → eqb a b ≡ z → eqb b a ≡ z
turned_round a b z e = grind (arith, nat_tests)

pub all_of : {X : Type 0} (P : X → Type 0) (l : List X) → ((x : X) → P x) → AllByRecursion P l
all_of P [] h = tt
all_of P (x ∷ l) h = (h x, all_of P l h)

pub all_map : {X : Type 0} (P Q : X → Type 0) (l : List X) → ((x : X) → P x → Q x) → AllByRecursion P l → AllByRecursion Q l
all_map P Q [] h p = tt
all_map P Q (x ∷ l) h p = (h x p.0, all_map P Q l h p.1)

pub all_both : {X : Type 0} (P Q : X → Type 0) (l : List X) → AllByRecursion P l → AllByRecursion Q l → AllByRecursion (λ x. P x × Q x) l
all_both P Q [] p q = tt
all_both P Q (x ∷ l) p q = ((p.0, q.0), all_both P Q l p.1 q.1)

pub all_append : {X : Type 0} (P : X → Type 0) (l : List X) (x : X) → AllByRecursion P l → P x → AllByRecursion P (l ++ (x ∷ []))
all_append P [] x p q = (q, tt)
all_append P (y ∷ l) x p q = (p.0, all_append P l x p.1 q)

-- a change of the reader of an address
pub all_changed : (P Q : Station → Type 0) (a : ℕ) (f : Station → Station) (l : List Station)
    → ((s : Station) → eqb (address_of s) a ≡ true → P s → Q (f s)) → ((s : Station) → eqb (address_of s) a ≡ false → P s → Q s)
    → AllByRecursion P l → AllByRecursion Q (change a f l)
all_changed P Q a f [] g h p = tt
all_changed P Q a f (s ∷ l) g h p = (go (eqb (address_of s) a) refl, all_changed P Q a f l g h p.1)
  where
    go : (z : Bool) → eqb (address_of s) a ≡ z → Q (cond z (f s) s)
    go true e = g s e p.0
    go false e = h s e p.0

-- the reader that is found is one of them, and has the address
pub all_found : (P : Station → Type 0) (a : ℕ) (l : List Station) (s : Station) → found a l ≡ Some s → AllByRecursion P l → P s × (address_of s ≡ a)
all_found P a [] s e p = absurd (none-some _ e)
all_found P a (t ∷ l) s e p = go (eqb (address_of t) a) refl e (λ r. all_found P a l s r p.1)
  where
    go : (z : Bool) → eqb (address_of t) a ≡ z → cond z (Some t) (found a l) ≡ Some s → (found a l ≡ Some s → P s × (address_of s ≡ a)) → P s × (address_of s ≡ a)
    go true q r k = subst (λ x. P x × (address_of x ≡ a)) (same_Some _ _ r) (p.0, eqb-true (address_of t) a q)
    go false q r k = k r

-- no two of them share an address
abbrev Other : ℕ → Station → Type 0
Other b t = eqb (address_of t) b ≡ false

abbrev pub Distinct : List Station → Type 0
Distinct [] = Unit {0}
Distinct (s ∷ l) = AllByRecursion (λ t. eqb (address_of t) (address_of s) ≡ false) l × Distinct l

pub distinct_changed : (a : ℕ) (f : Station → Station) (l : List Station) → ((s : Station) → eqb (address_of s) a ≡ true → address_of (f s) ≡ address_of s)
    → Distinct l → Distinct (change a f l)
distinct_changed a f [] h d = tt
distinct_changed a f (s ∷ l) h d = (go (eqb (address_of s) a) refl, distinct_changed a f l h d.1)
  where
    rest : AllByRecursion (Other (address_of s)) (change a f l)
    rest = all_changed (Other (address_of s)) (Other (address_of s)) a f l (λ t e p. subst (λ b. eqb b (address_of s) ≡ false) (sym (h t e)) p) (λ t e p. p) d.0

    go : (z : Bool) → eqb (address_of s) a ≡ z → AllByRecursion (Other (address_of (cond z (f s) s))) (change a f l)
    go true e = subst (λ b. AllByRecursion (Other b) (change a f l)) (sym (h s e)) rest
    go false e = rest

-- each is found under its address
pub own_found : (l : List Station) → Distinct l → AllByRecursion (λ s. found (address_of s) l ≡ Some s) l
own_found [] d = tt
own_found (s ∷ l) d = (
  ap (λ z. cond z (Some s) (found (address_of s) l)) (own (address_of s)),
  all_map (λ t. (eqb (address_of t) (address_of s) ≡ false) × (found (address_of t) l ≡ Some t)) (λ t. found (address_of t) (s ∷ l) ≡ Some t) l
      (λ t p. ap (λ z. cond z (Some s) (found (address_of t) l)) (turned_round (address_of t) (address_of s) false p.0) ∙ p.1)
      (all_both (λ t. eqb (address_of t) (address_of s) ≡ false) (λ t. found (address_of t) l ≡ Some t) l d.0 (own_found l d.1)),
)

-- so the newest send to an address is the newest of the reader that has it
pub own_number : (a : ℕ) (l : List Station) → Distinct l → AllByRecursion (λ s. eqb (address_of s) a ≡ true → newest_send (found a l) ≡ newest_sent s.down.sends) l
own_number a l d =
    all_map (λ s. found (address_of s) l ≡ Some s) (λ s. eqb (address_of s) a ≡ true → newest_send (found a l) ≡ newest_sent s.down.sends) l
    (λ s p e. ap (λ b. newest_send (found b l)) (sym (eqb-true (address_of s) a e)) ∙ ap newest_send p) (own_found l d)

-- ## the same readers at two moments

module _ (R : Station → Station → Type 0) where
  pub each_found : ((s t : Station) → R s t → address_of t ≡ address_of s) → (a : ℕ) (k l : List Station) (s t : Station) → AllZip R k l
      → found a k ≡ Some s → found a l ≡ Some t → R s t
  each_found h a [] [] s t p d e = absurd (none-some _ d)
  each_found h a [] (y ∷ l) s t p d e = absurd p
  each_found h a (x ∷ k) [] s t p d e = absurd p
  each_found h a (x ∷ k) (y ∷ l) s t p d e =
      go (eqb (address_of x) a) d (subst (λ z. cond z (Some y) (found a l) ≡ Some t) (ap (λ b. eqb b a) (h x y p.0)) e) (λ d e. each_found h a k l s t p.1 d e)
    where
      go : (z : Bool) → cond z (Some x) (found a k) ≡ Some s → cond z (Some y) (found a l) ≡ Some t → (found a k ≡ Some s → found a l ≡ Some t → R s t) → R s t
      go true d e r = subst (λ u. R u t) (same_Some _ _ d) (subst (R x) (same_Some _ _ e) p.0)
      go false d e r = r d e

  pub each_same : ((s : Station) → R s s) → (l : List Station) → AllZip R l l
  each_same h [] = tt
  each_same h (s ∷ l) = (h s, each_same h l)

  pub each_changed : (P : Station → Type 0) (a : ℕ) (f : Station → Station) (l : List Station)
      → ((s : Station) → eqb (address_of s) a ≡ true → P s → R s (f s)) → ((s : Station) → eqb (address_of s) a ≡ false → P s → R s s)
      → AllByRecursion P l → AllZip R l (change a f l)
  each_changed P a f [] g h p = tt
  each_changed P a f (s ∷ l) g h p = (go (eqb (address_of s) a) refl, each_changed P a f l g h p.1)
    where
      go : (z : Bool) → eqb (address_of s) a ≡ z → R s (cond z (f s) s)
      go true e = g s e p.0
      go false e = h s e p.0

  pub each_then : (S T : Station → Station → Type 0) → ((s t u : Station) → R s t → S t u → T s u) → (k l m : List Station) → AllZip R k l → AllZip S l m → AllZip T k m
  each_then S T h [] [] [] p q = tt
  each_then S T h [] [] (z ∷ m) p q = absurd q
  each_then S T h [] (y ∷ l) m p q = absurd p
  each_then S T h (x ∷ k) [] m p q = absurd p
  each_then S T h (x ∷ k) (y ∷ l) [] p q = absurd q
  each_then S T h (x ∷ k) (y ∷ l) (z ∷ m) p q = (h x y z p.0 q.0, each_then S T h k l m p.1 q.1)
