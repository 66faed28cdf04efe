-- The bursts on the way to an end, of which at most one can move anything there.
use Rattle.std.proofs.Common.{◌≡◌, ℕ, zero, suc, ◌<◌, Bool, true, false, cond, ◌&&◌, eqb, List, [], ◌∷◌, ◌++◌, map, length, get_or, set, replicate, Err, sym, refl, ap, ◌∙◌, append-nil, arith, get_or-set_other}
use borrow.Author.Tests.{eqb-false}
use Rattle.account.proofs.Pair.{Word, alive_back}
use Rattle.account.specs.Line.{Burst, NoneTo, gone, lost_everywhere, on_way}
use Rattle.fault.specs.declared.Fault.{Fault}
use Rattle.fault.specs.Causes.{fault}
use Rattle.fault.specs.declared.Cause.TheVariants.{WrongSender, OtherAddress}
use Rattle.frame.specs.Controls.{bit}
use Rattle.rules.specs.Concentrator.{request_telegram, verdict}
use Rattle.rules.specs.Reader.{Reader, hear_telegram}
use Rattle.rules.specs.declared.records.Exchange.{Exchange}
use Rattle.rules.specs.declared.records.Request.{Request}
use Rattle.rules.specs.declared.telegram.Telegram.{Telegram}
use Rattle.rules.specs.declared.telegram.Telegram.TheVariants.{Single, Fixed, Variable}
use Rattle.std.proofs.lemmas.Bool.Decides.{nat_tests}

-- is it for a reader
abbrev pub alive : ℕ → Telegram → Bool
alive a Single = false
alive a (Fixed c x) = bit 64 c.octet && eqb x a
alive a (Variable c x m) = bit 64 c.octet && eqb x a

abbrev pub word : Burst → Word
word b = record { telegram = b.telegram; number = b.number }

-- the bursts on the way to an end that pass a test
abbrev pub keep : (Telegram → Bool) → ℕ → List Burst → List Word
keep t e [] = []
keep t e (b ∷ l) = cond (on_way e b && t b.telegram) (word b ∷ keep t e l) (keep t e l)

-- a burst that is written
abbrev pub new_burst : Word → Burst
new_burst x = record { telegram = x.telegram; number = x.number; ways = replicate 33 true }

-- ## the ways of a burst

all_true : (n e : ℕ) → e < n → get_or (replicate n true) e false ≡ true
all_true zero e h = let w : ⊥ = omega arith in absurd w
all_true (suc n) zero h = refl
all_true (suc n) (suc e) h = all_true n e (omega arith)

pub all_false : (n e : ℕ) → get_or (replicate n false) e false ≡ false
all_false zero e = refl
all_false (suc n) zero = refl
all_false (suc n) (suc e) = all_false n e

set_false : (l : List Bool) (e : ℕ) → get_or (set l e false) e false ≡ false
set_false [] e = refl
set_false (x ∷ l) zero = refl
set_false (x ∷ l) (suc e) = set_false l e

pub gone_own : (e : ℕ) (b : Burst) → on_way e (gone e b) ≡ false
gone_own e b = set_false b.ways e

pub gone_other : (e c : ℕ) (b : Burst) → eqb e c ≡ false → on_way c (gone e b) ≡ on_way c b
gone_other e c b h = get_or-set_other b.ways e c false false (λ q. eqb-false e c h (sym q))

-- ## what is kept

module _ (t : Telegram → Bool) (e : ℕ) where
  -- of one more burst
  keep_written : (b : Burst) (l : List Burst) → keep t e (l ++ (b ∷ [])) ≡ keep t e l ++ keep t e (b ∷ [])
  keep_written b [] = refl
  keep_written b (c ∷ l) = let ih = keep_written b l in grind arith

  kept_if : (b : Burst) (l : List Burst) (z : Bool) → on_way e b && t b.telegram ≡ z → keep t e (b ∷ l) ≡ cond z (word b ∷ keep t e l) (keep t e l)
  kept_if b l z h = ap (λ y. cond y (word b ∷ keep t e l) (keep t e l)) h

  pub written_dead : (x : Word) (l : List Burst) → t x.telegram ≡ false → keep t e (l ++ (new_burst x ∷ [])) ≡ keep t e l
  written_dead x l h =
      keep_written (new_burst x) l ∙ ap (λ y. keep t e l ++ y) (kept_if (new_burst x) [] false (dead (get_or (replicate 33 true) e false))) ∙ append-nil (keep t e l)
    where
      dead : (z : Bool) → z && t x.telegram ≡ false
      dead true = h
      dead false = refl

  pub written_live : (x : Word) (l : List Burst) → e < 33 → t x.telegram ≡ true → keep t e l ≡ [] → keep t e (l ++ (new_burst x ∷ [])) ≡ x ∷ []
  written_live x l b h k =
      keep_written (new_burst x) l ∙ ap (λ y. y ++ keep t e (new_burst x ∷ [])) k ∙ kept_if (new_burst x) [] true (ap (λ z. z && t x.telegram) (all_true 33 e b) ∙ h)

  -- none on the way: none kept
  pub none_kept : (l : List Burst) → NoneTo e l → keep t e l ≡ []
  none_kept [] h = refl
  none_kept (b ∷ l) h = kept_if b l false (ap (λ z. z && t b.telegram) h.0) ∙ none_kept l h.1

  pub lost_kept : (l : List Burst) → keep t e (map lost_everywhere l) ≡ []
  lost_kept [] = refl
  lost_kept (b ∷ l) = kept_if (lost_everywhere b) (map lost_everywhere l) false (ap (λ z. z && t b.telegram) (all_false 33 e)) ∙ lost_kept l

  -- one that moves nothing here leaves
  pub left_dead : (l : List Burst) (k : ℕ) (b : Burst) → get_or l k b ≡ b → t b.telegram ≡ false → keep t e (set l k (gone e b)) ≡ keep t e l
  left_dead [] k b h d = refl
  left_dead (c ∷ l) zero b h d =
      kept_if (gone e b) l false (ap (λ z. z && t b.telegram) (gone_own e b)) ∙ sym (kept_if c l false (not_kept (on_way e c)))
    where
      not_kept : (z : Bool) → z && t c.telegram ≡ false
      not_kept true = ap (λ y. t y.telegram) h ∙ d
      not_kept false = refl
  left_dead (c ∷ l) (suc k) b h d = ap (λ y. cond (on_way e c && t c.telegram) (word c ∷ y) y) (left_dead l k b h d)

  -- one that may move something leaves
  pub record Left (l : List Burst) (k : ℕ) (b : Burst) : Type 0 where
    pub front : List Word
    pub back : List Word
    pub before : keep t e l ≡ front ++ (word b ∷ back)
    pub after : keep t e (set l k (gone e b)) ≡ front ++ back

  left_more : (c : Burst) (l : List Burst) (k : ℕ) (b : Burst) → Left l k b → (z : Bool) → on_way e c && t c.telegram ≡ z → Left (c ∷ l) (suc k) b
  left_more c l k b h true q = record {
    front = word c ∷ h.front;
    back = h.back;
    before = kept_if c l true q ∙ ap (λ y. word c ∷ y) h.before;
    after = kept_if c (set l k (gone e b)) true q ∙ ap (λ y. word c ∷ y) h.after;
  }
  left_more c l k b h false q = record {
    front = h.front;
    back = h.back;
    before = kept_if c l false q ∙ h.before;
    after = kept_if c (set l k (gone e b)) false q ∙ h.after;
  }

  pub left : (l : List Burst) (k : ℕ) (b : Burst) → k < length l → get_or l k b ≡ b → on_way e b ≡ true → t b.telegram ≡ true → Left l k b
  left [] k b n h o d = let w : ⊥ = omega arith in absurd w
  left (c ∷ l) zero b n h o d = record {
    front = [];
    back = keep t e l;
    before = kept_if c l true (ap (λ y. on_way e y && t y.telegram) h ∙ ap (λ z. z && t b.telegram) o ∙ d) ∙ ap (λ y. word y ∷ keep t e l) h;
    after = kept_if (gone e b) l false (ap (λ z. z && t b.telegram) (gone_own e b));
  }
  left (c ∷ l) (suc k) b n h o d = left_more c l k b (left l k b (omega arith) h o d) (on_way e c && t c.telegram) refl

  -- the one that may move something is the only one
  only_split : (u : List Word) (x : Word) (q : List Word) (y : Word) → u ++ (x ∷ q) ≡ y ∷ [] → (y ≡ x) × (u ++ q ≡ [])
  only_split [] x q y h = (cc, cc)
  only_split (z ∷ []) x q y h = (cc, cc)
  only_split (z ∷ (v ∷ u)) x q y h = (cc, cc)

  none_split : (u : List Word) (x : Word) (q : List Word) → u ++ (x ∷ q) ≡ [] → ◌≡◌ {A = ℕ} 0 1
  none_split [] x q h = cc
  none_split (y ∷ u) x q h = cc

  module _ (l : List Burst) (k : ℕ) (b : Burst) (n : k < length l) (h : get_or l k b ≡ b) (o : on_way e b ≡ true) where
    pub only_left : t b.telegram ≡ true → (y : Word) → keep t e l ≡ y ∷ [] → (y ≡ word b) × (keep t e (set l k (gone e b)) ≡ [])
    only_left d y q =
        let s = left l k b n h o d in
        let p = only_split s.front (word b) s.back y (sym s.before ∙ q) in
        (p.0, s.after ∙ p.1)

    pub none_left : {A : Type 0} → t b.telegram ≡ true → keep t e l ≡ [] → A
    none_left d q =
        let s = left l k b n h o d in
        let z = none_split s.front (word b) s.back (sym s.before ∙ q) in
        let w : ⊥ = omega arith in
        absurd w

    -- taking any burst away leaves none where there was none
    pub still_none : keep t e l ≡ [] → keep t e (set l k (gone e b)) ≡ []
    still_none q = go (t b.telegram) refl
      where
        go : (z : Bool) → t b.telegram ≡ z → keep t e (set l k (gone e b)) ≡ []
        go true d = none_left d q
        go false d = left_dead l k b h d ∙ q

-- one leaves another end
pub left_elsewhere : (t : Telegram → Bool) (c e : ℕ) (l : List Burst) (k : ℕ) (b : Burst) → eqb e c ≡ false → get_or l k b ≡ b → keep t c (set l k (gone e b)) ≡ keep t c l
left_elsewhere t c e [] k b q h = refl
left_elsewhere t c e (d ∷ l) zero b q h =
    ap (λ z. cond (z && t b.telegram) (word b ∷ keep t c l) (keep t c l)) (gone_other e c b q) ∙ ap (λ y. cond (on_way c y && t y.telegram) (word y ∷ keep t c l) (keep t c l)) (sym h)
left_elsewhere t c e (d ∷ l) (suc k) b q h = ap (λ y. cond (on_way c d && t d.telegram) (word d ∷ y) y) (left_elsewhere t c e l k b q h)

-- ## what is not for an end, it refuses

abbrev refusal : Telegram → Fault
refusal Single = fault WrongSender 0
refusal (Fixed c x) = cond (bit 64 c.octet) (fault OtherAddress 0) (fault WrongSender 0)
refusal (Variable c x m) = cond (bit 64 c.octet) (fault OtherAddress 0) (fault WrongSender 0)

pub dead_refused : (r : Reader) (t : Telegram) → alive r.address t ≡ false → (f : Fault) × (hear_telegram t r ≡ Err f)
unfolding hear_telegram
dead_refused r t e = (refusal t, grind arith)

pub dead_wrong : (x : Exchange) (t : Telegram) → alive_back t ≡ false → verdict x t ≡ Err (fault WrongSender 0)
unfolding verdict
dead_wrong x t e = grind (arith, nat_tests)

-- an answer moves no reader; a request moves the concentrator not, and of the readers its own
pub answer_dead : (a : ℕ) (t : Telegram) → alive_back t ≡ true → alive a t ≡ false
answer_dead a t e = grind arith

pub request_alive : (s a : ℕ) (b : Bool) (q : Request) → alive a (request_telegram q b s) ≡ eqb s a
request_alive s a b q = grind arith

pub request_dead : (s : ℕ) (b : Bool) (q : Request) → alive_back (request_telegram q b s) ≡ false
request_dead s b q = grind arith
