-- Lemmas on the words of a text: blanks before them, and the first of them.
use Rattle.std.proofs.Common.{◌≡◌, ℕ, suc, Bool, unwrap_or, true, false, eqb, List, [], ◌∷◌, length, drop, sym, refl, ap, ◌∙◌, inl, inr, one-add, arith, true-eqb}
use Rattle.console.specs.Words.{after_word, blank, first_word, not_empty, onto, parts_of, unblanked, words_of}
use Rattle.std.proofs.lemmas.Bool.{cases_Bool}
use Rattle.std.proofs.lemmas.Bool.Decides.{nat_tests}
use Rattle.std.proofs.lemmas.List.Sums.{prefix_len-le-length}
use Rattle.std.specs.List.{before_first, position, position_or_len}

-- a search that finds nothing counts every byte
pub first_or_end : (test : ℕ → Bool) (text : List ℕ) → unwrap_or (position test text) (length text) ≡ position_or_len test text
first_or_end test text = grind (arith, nat_tests, prefix_len-le-length)

-- blanks in front are no part of a word
no_blanks : (text : List ℕ) → words_of (unblanked text) ≡ words_of text
no_blanks [] = refl
no_blanks (byte ∷ bytes) =
    elim (cases_Bool (blank byte)) [
      | inl e ↦ rw (e, one-add) (no_blanks bytes)
      | inr e ↦ simp e
    ]

-- the bytes up to the first blank
abbrev run : List ℕ → List ℕ
run text = before_first blank text

-- what follows them
abbrev behind : List ℕ → List ℕ
behind text = drop (position_or_len blank text) text

-- a text that is empty or begins with a blank begins with an empty part
parted : (text : List ℕ) → parts_of (behind text) ≡ [] ∷ drop 1 (parts_of (behind text))
parted [] = refl
parted (byte ∷ bytes) =
    elim (cases_Bool (blank byte)) [
      | inl e ↦ simp e
      | inr e ↦ simp (e, one-add) (parted bytes)
    ]

-- the bytes up to the first blank are the first part
first_part : (text : List ℕ) → parts_of text ≡ run text ∷ drop 1 (parts_of (behind text))
first_part [] = refl
first_part (byte ∷ bytes) =
    elim (cases_Bool (blank byte)) [
      | inl e ↦ simp e
      | inr e ↦ simp (e, one-add) (ap (onto byte) (first_part bytes))
    ]

-- a first part that is not empty is the first word
joined : (w rest : List ℕ) (parts : List (List ℕ)) → eqb (length w) 0 ≡ false → parts_of rest ≡ [] ∷ parts → not_empty (w ∷ parts) ≡ w ∷ words_of rest
joined [] rest parts e p = cc
joined (byte ∷ bytes) rest parts e p = ap (λ l. (byte ∷ bytes) ∷ l) (sym (ap not_empty p))

one_word : (text : List ℕ) → eqb (length (run text)) 0 ≡ false → words_of text ≡ run text ∷ words_of (behind text)
one_word text e = ap not_empty (first_part text) ∙ joined (run text) (behind text) (drop 1 (parts_of (behind text))) e (parted text)

absurd : {A : Type 0} {x y : A} (n : ℕ) → eqb (suc n) 0 ≡ true → x ≡ y
absurd n e = let z : suc n ≡ 0 = true-eqb (suc n) 0 (sym e) in let f : ⊥ = omega arith in elim f [ ]

-- without a first word there are only blanks
only_blanks : (text : List ℕ) → eqb (length (first_word text)) 0 ≡ true → unblanked text ≡ []
only_blanks [] e = refl
only_blanks (byte ∷ bytes) e =
    elim (cases_Bool (blank byte)) [
      | inl b ↦ simp (b, one-add) (only_blanks bytes (simp (b, one-add) at e))
      | inr b ↦ absurd _ (simp (b, one-add) at e)
    ]

pub next_word :
    (text w rest : List ℕ) →
    w ≡ first_word text →
    rest ≡ after_word text →
    false ≡ eqb (length w) 0 →
    words_of text ≡ w ∷ words_of rest
next_word text w rest p q e =
    let some : eqb (length (first_word text)) 0 ≡ false = ap (λ l. eqb (length l) 0) (sym p) ∙ sym e in
    sym (no_blanks text) ∙ one_word (unblanked text) some ∙ cc

pub last_word :
    (text w rest : List ℕ) →
    w ≡ first_word text →
    rest ≡ after_word text →
    true ≡ eqb (length w) 0 →
    (words_of text ≡ []) × (rest ≡ [])
last_word text w rest p q e =
    let none : unblanked text ≡ [] = only_blanks text (ap (λ l. eqb (length l) 0) (sym p) ∙ sym e) in
    (sym (no_blanks text) ∙ ap words_of none, q ∙ ap behind none)
