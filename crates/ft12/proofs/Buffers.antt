-- Buffers and records of octets, as the loops and the parts of a frame fill them.
use Rattle.std.proofs.Common.{◌≡◌, ℕ, ◌+◌, ◌%◌, List, [], ◌∷◌, ◌++◌, length, length-append, ap, ◌∙◌, ap₂, arith}
use Rattle.frame.specs.Contents.{variable}
use Rattle.frame.specs.Writing.{encoded_at}
use Rattle.frame.proofs.Symbols.{encoded_next}
use Rattle.ft12.specs.Frames.{check_of, octets_of}
use Rattle.ft12.specs.Symbols.{symbol_of}
use Rattle.std.proofs.lemmas.List.Sums.{sum_by-append}

check_joined : (c a : ℕ) (us : List ℕ) → (check_of (c ∷ a ∷ []) + check_of us) % 256 ≡ check_of (c ∷ a ∷ us)
check_joined c a us = let s = sum_by-append (λ x. x) (c ∷ a ∷ []) us in omega (arith, s)

-- the three parts of a variable frame
pub variable_encoded :
    (c a l s t r p q : ℕ) (us b b1 b2 b3 : List ℕ) →
    l ≡ length us + 2 →
    t ≡ check_of (c ∷ a ∷ []) →
    r ≡ check_of us →
    s ≡ (t + r) % 256 →
    b1 ≡ encoded_at symbol_of 0 (0x68 ∷ l ∷ l ∷ 0x68 ∷ c ∷ a ∷ []) b →
    p ≡ 6 →
    b2 ≡ encoded_at symbol_of p us b1 →
    q ≡ p + length us →
    b3 ≡ encoded_at symbol_of q (s ∷ 0x16 ∷ []) b2 →
    b3 ≡ encoded_at symbol_of 0 (octets_of (variable c a us)) b
variable_encoded c a l s t r p q us b b1 b2 b3 el et er es e1 ep e2 eq e3 =
    let h = 0x68 ∷ l ∷ l ∷ 0x68 ∷ c ∷ a ∷ [] in
    let tail = s ∷ 0x16 ∷ [] in
    let f2 : b2 ≡ encoded_at symbol_of 0 (h ++ us) b = e2 ∙ ap (encoded_at symbol_of p us) e1 ∙ encoded_next symbol_of h us b 0 p (omega arith) ep in
    let f3 : b3 ≡ encoded_at symbol_of 0 ((h ++ us) ++ tail) b =
    e3 ∙ ap (encoded_at symbol_of q tail) f2 ∙ encoded_next symbol_of (h ++ us) tail b 0 q (omega arith) (simp length-append (omega arith))
    in
    let check : s ≡ check_of (c ∷ a ∷ us) = es ∙ ap₂ (λ x y. (x + y) % 256) et er ∙ check_joined c a us in
    let os : (h ++ us) ++ tail ≡ octets_of (variable c a us) =
    ap₂ (λ x y. 0x68 ∷ x ∷ x ∷ 0x68 ∷ c ∷ a ∷ us ++ (y ∷ 0x16 ∷ [])) el check
    in
    f3 ∙ ap (λ z. encoded_at symbol_of 0 z b) os
