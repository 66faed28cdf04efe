-- Laws of `round`: its length, one record more at its end, one record less at its front.
use Rattle.std.proofs.Common.{◌≡◌, ℕ, suc, ◌+◌, ◌-◌, ◌<◌, ◌≤◌, eqb, ltb, List, [], ◌∷◌, ◌++◌, length, get_or, take, drop, set, sym, ap, ◌∙◌, ⊎_elim, arith}
use Rattle.std.proofs.lemmas.List.{length-set, length-take, length-drop, length-append, get_or_append_left, set-append_left, set-append_right, take-set-le, take_more_set, take-append-le, drop-set-lt, drop-set-add, drop_more, drop_at}
use Rattle.std.proofs.lemmas.Bool.{cases_lt, cases_eq, lt-ltb, le-ltb, eq-eqb, ne_eqb, cond-true, cond-false}
use Rattle.queue.specs.Ring.{next_slot, slot_after, round}

pub length_round : {A : Type 0} (xs : List A) (h n : ℕ) → h ≤ length xs → n ≤ length xs → length (round xs h n) ≡ n
length_round xs h n a b = simp (length-take, length-drop, length-append) (omega arith)

-- the slots twice over, after a write to one of them
set_twice : {A : Type 0} (xs : List A) (at : ℕ) (x : A) → at < length xs → set xs at x ++ set xs at x ≡ set (set (xs ++ xs) at x) (length xs + at) x
set_twice xs at x a =
    let e : length xs + at - length xs ≡ at = omega arith in
    sym
    (ap (λ ys. set ys (length xs + at) x) (set-append_left xs xs at x a)
    ∙ set-append_right (set xs at x) xs (length xs) (length xs + at) x (length-set xs at x) (omega arith)
    ∙ ap (λ i. set xs at x ++ set xs i x) e)

-- a write to the slot after `n` slots from `h` on, where no step went past the last slot
grown_below : {A : Type 0} (xs : List A) (h n : ℕ) (x : A) → n < length xs → h + n < length xs → round (set xs (h + n) x) h (n + 1) ≡ round xs h n ++ x ∷ []
grown_below xs h n x b w =
    let e : length xs + (h + n) ≡ h + (n + length xs) = omega arith in
    let l : n < length (drop h (xs ++ xs)) = simp (length-drop, length-append) (omega arith) in
    ap (λ ys. take (n + 1) (drop h ys)) (set_twice xs (h + n) x w ∙ ap (λ i. set (set (xs ++ xs) (h + n) x) i x) e)
    ∙ ap (take (n + 1)) (drop-set-add h (set (xs ++ xs) (h + n) x) (n + length xs) x)
    ∙ take-set-le (n + 1) (drop h (set (xs ++ xs) (h + n) x)) (n + length xs) x (omega arith)
    ∙ ap (take (n + 1)) (drop-set-add h (xs ++ xs) n x)
    ∙ take_more_set (drop h (xs ++ xs)) n x l

-- the same, where the steps went on at the first slot
grown_above : {A : Type 0} (xs : List A) (h n : ℕ) (x : A) → h < length xs → n < length xs → length xs ≤ h + n → round (set xs (h + n - length xs) x) h (n + 1) ≡ round xs h n ++ x ∷ []
grown_above xs h n x a b w =
    let e : length xs + (h + n - length xs) ≡ h + n = omega arith in
    let l : n < length (drop h (xs ++ xs)) = simp (length-drop, length-append) (omega arith) in
    ap (λ ys. take (n + 1) (drop h ys)) (set_twice xs (h + n - length xs) x (omega arith) ∙ ap (λ i. set (set (xs ++ xs) (h + n - length xs) x) i x) e)
    ∙ ap (take (n + 1)) (drop-set-add h (set (xs ++ xs) (h + n - length xs) x) n x)
    ∙ ap (λ ys. take (n + 1) (set ys n x)) (drop-set-lt h (xs ++ xs) (h + n - length xs) x (omega arith))
    ∙ take_more_set (drop h (xs ++ xs)) n x l

pub grown : {A : Type 0} (xs : List A) (h n : ℕ) (x : A) → h < length xs → n < length xs → round (set xs (slot_after h n (length xs)) x) h (n + 1) ≡ round xs h n ++ x ∷ []
grown xs h n x a b =
    ⊎_elim
    (λ (w : h + n < length xs). ap (λ at. round (set xs at x) h (n + 1)) (cond-true (ltb (h + n) (length xs)) _ _ (lt-ltb (h + n) (length xs) w)) ∙ grown_below xs h n x b w)
    (λ (w : length xs ≤ h + n). ap (λ at. round (set xs at x) h (n + 1)) (cond-false (ltb (h + n) (length xs)) _ _ (le-ltb (h + n) (length xs) w)) ∙ grown_above xs h n x a b w)
    (cases_lt (h + n) (length xs))

-- what follows the record of the slot `h`
rest : {A : Type 0} (xs : List A) (h n : ℕ) → h < length xs → n < length xs → take n (drop (h + 1) (xs ++ xs)) ≡ round xs (next_slot h (length xs - 1)) n
rest xs h n a b =
    ⊎_elim
    (λ (w : h ≡ length xs - 1).
    ap (take n) (drop_at xs xs (h + 1) (omega arith)) ∙ sym (take-append-le n xs xs (omega arith))
    ∙ ap (λ i. round xs i n) (sym (cond-true (eqb h (length xs - 1)) 0 (h + 1) (eq-eqb h (length xs - 1) w))))
    (λ (w : h ≡ length xs - 1 → ⊥). ap (λ i. round xs i n) (sym (cond-false (eqb h (length xs - 1)) 0 (h + 1) (ne_eqb h (length xs - 1) w))))
    (cases_eq h (length xs - 1))

pub shrunk : {A : Type 0} (xs : List A) (h n : ℕ) (d : A) → h < length xs → n ≤ length xs → 0 < n → round xs h n ≡ get_or xs h d ∷ round xs (next_slot h (length xs - 1)) (n - 1)
shrunk xs h n d a b p =
    let l : h < length (xs ++ xs) = simp length-append (omega arith) in
    let e : n ≡ suc (n - 1) = omega arith in
    ap (λ m. round xs h m) e
    ∙ ap (take (suc (n - 1))) (drop_more (xs ++ xs) h d l)
    ∙ ap (λ y. y ∷ take (n - 1) (drop (h + 1) (xs ++ xs))) (get_or_append_left xs xs d h a)
    ∙ ap (λ q. get_or xs h d ∷ q) (rest xs h (n - 1) a (omega arith))
