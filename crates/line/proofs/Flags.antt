-- The marks of one burst, a flag for each end.
use Rattle.std.proofs.Common.{◌≡◌, ℕ, zero, suc, ◌+◌, ◌<◌, ◌≤◌, Bool, true, false, List, [], ◌∷◌, get_or, take, set, replicate, refl, ap, arith}
use Rattle.line.specs.Ways.{trues}
use Rattle.std.proofs.lemmas.Bool.{false≢true, true≢false}

pub cleared : (ws : List Bool) (e : ℕ) → get_or (set ws e false) e false ≡ false
cleared [] e = refl
cleared (w ∷ ws) zero = refl
cleared (w ∷ ws) (suc e) = cleared ws e

pub take_cleared : (n : ℕ) (ws : List Bool) (e : ℕ) → e < n → take n (set ws e false) ≡ set (take n ws) e false
take_cleared zero ws e h = absurd (omega arith)
take_cleared (suc n) [] e h = refl
take_cleared (suc n) (w ∷ ws) zero h = refl
take_cleared (suc n) (w ∷ ws) (suc e) h = ap (λ l. w ∷ l) (take_cleared n ws e (omega arith))

pub one_less : (ws : List Bool) (e : ℕ) → get_or ws e false ≡ true → trues (set ws e false) + 1 ≡ trues ws
unfolding trues
one_less [] e h = absurd (false≢true h)
one_less (w ∷ ws) zero h = rw h (omega arith)
one_less (w ∷ ws) (suc e) h = let less = one_less ws e h in omega arith

pub all_true : (n : ℕ) → trues (replicate n true) ≡ n
unfolding trues
all_true zero = refl
all_true (suc n) = let rest = all_true n in omega arith

pub most_true : (n : ℕ) (ws : List Bool) → trues (take n ws) ≤ n
unfolding trues
most_true zero ws = omega arith
most_true (suc n) [] = omega arith
most_true (suc n) (true ∷ ws) = let rest = most_true n ws in omega arith
most_true (suc n) (false ∷ ws) = let rest = most_true n ws in omega arith

pub none_marked : (ws : List Bool) → trues ws ≡ 0 → (e : ℕ) → get_or ws e false ≡ false
unfolding trues
none_marked [] h e = refl
none_marked (true ∷ ws) h e = absurd (omega arith)
none_marked (false ∷ ws) h zero = refl
none_marked (false ∷ ws) h (suc e) = none_marked ws (omega arith) e

pub none_true : (ws : List Bool) → ((e : ℕ) → get_or ws e false ≡ false) → trues ws ≡ 0
unfolding trues
none_true [] h = refl
none_true (true ∷ ws) h = absurd (true≢false (h 0))
none_true (false ∷ ws) h = let rest = none_true ws (λ e. h (suc e)) in omega arith
