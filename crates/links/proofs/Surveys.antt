-- A survey on its way: what the buffer has once the stations below one have been looked at.
use Rattle.std.proofs.Common.{◌≡◌, ℕ, suc, ◌+◌, ◌-◌, ◌<◌, ◌≤◌, true, false, cond, ◌&&◌, eqb, ltb, List, [], ◌∷◌, ◌++◌, length, take, drop, set, sym, refl, ap, ◌∙◌, arith}
use Rattle.rules.specs.Links.{link_at}
use Rattle.rules.specs.Survey.{is_set, occurrences, set_count}
use Rattle.rules.specs.declared.link.Link.{Link}
use Rattle.std.proofs.lemmas.List.{drop-drop, drop-set-lt, take_more_set}
use Rattle.std.proofs.lemmas.Bool.Decides.{nat_tests}

pub record Partly (links : List Link) (before : List ℕ) (station : ℕ) (after : List ℕ) (count : ℕ) : Type 0 where
  pub low : count < station
  pub counted : count ≡ set_count (station - 1) links
  pub once : (a : ℕ) → occurrences a (take count after) ≡ cond (is_set links a && ltb a station) 1 0
  pub rest : drop count after ≡ drop count before

occurrences_push : (a x : ℕ) (xs : List ℕ) → occurrences a (xs ++ x ∷ []) ≡ occurrences a xs + cond (eqb x a) 1 0
occurrences_push a x [] = grind (arith, nat_tests)
occurrences_push a x (y ∷ ys) = let ih = occurrences_push a x ys in grind (arith, nat_tests)

-- one station more counts if its link is set
count_more : (links : List Link) (s : ℕ) → 1 ≤ s → set_count (s + 1 - 1) links ≡ cond (is_set links s) (set_count (s - 1) links + 1) (set_count (s - 1) links)
unfolding set_count
count_more links s l =
    let e : s + 1 - 1 ≡ suc (s - 1) = omega arith in
    let f : suc (s - 1) ≡ s = omega arith in
    ap (λ n. set_count n links) e
    ∙ ap (λ n. cond (is_set links n) (set_count (s - 1) links + 1) (set_count (s - 1) links)) f

pub partly_none : (links : List Link) (b : List ℕ) → Partly links b 1 b 0
unfolding set_count
partly_none links b = record { low = omega arith; counted = refl; once = λ a. grind (arith, nat_tests); rest = refl }

drop_next : (xs ys : List ℕ) (n : ℕ) → drop n xs ≡ drop n ys → drop (n + 1) xs ≡ drop (n + 1) ys
drop_next xs ys n e = sym (drop-drop 1 n xs) ∙ ap (drop 1) e ∙ drop-drop 1 n ys

-- a station whose link is set goes behind those before it
pub partly_set : (links : List Link) (b : List ℕ) (s : ℕ) (after : List ℕ) (count : ℕ) → 1 ≤ s → s ≤ 32 → count < length after → (link_at links s).set ≡ true → Partly links b s after count → Partly links b (s + 1) (set after count s) (count + 1)
partly_set links b s after count l h room e p =
    let t = take_more_set after count s room in
    let own : is_set links s ≡ true = grind (arith, nat_tests) in
    record {
      low = let i = p.low in omega arith;
      counted = ap (λ n. n + 1) p.counted ∙ sym (count_more links s l ∙ ap (λ y. cond y (set_count (s - 1) links + 1) (set_count (s - 1) links)) own);
      once = λ a. ap (occurrences a) t ∙ occurrences_push a s (take count after) ∙ ap (λ n. n + cond (eqb s a) 1 0) (p.once a) ∙ grind (arith, nat_tests);
      rest = drop-set-lt (count + 1) after count s (omega arith) ∙ drop_next after b count p.rest;
    }

-- one whose link is not set leaves the buffer
pub partly_unset : (links : List Link) (b : List ℕ) (s : ℕ) (after : List ℕ) (count : ℕ) → 1 ≤ s → (link_at links s).set ≡ false → Partly links b s after count → Partly links b (s + 1) after count
partly_unset links b s after count l e p =
    let own : is_set links s ≡ false = grind (arith, nat_tests) in
    record {
      low = let i = p.low in omega arith;
      counted = p.counted ∙ sym (count_more links s l ∙ ap (λ y. cond y (set_count (s - 1) links + 1) (set_count (s - 1) links)) own);
      once = λ a. p.once a ∙ grind (arith, nat_tests);
      rest = p.rest;
    }
