-- The record of user octets.
use Rattle.std.proofs.Common.{◌≡◌, ℕ, ◌-◌, min, List, ◌++◌, length, take, drop, replicate, ap, ◌∙◌, ap₂, arith}
use Rattle.std.proofs.lemmas.List.{drop-replicate, take_min}

-- the first k octets, or all where there are fewer, over k zeros
pub front_padded :
    (k n : ℕ) (os f : List ℕ) → n ≡ min k (length os) → f ≡ take n os → f ++ drop n (replicate k 0) ≡ take k os ++ replicate (k - length os) 0
front_padded k n os f e t =
    ap₂ ◌++◌ (t ∙ ap (λ i. take i os) e ∙ take_min k os) (drop-replicate n k 0 ∙ ap (λ i. replicate i 0) (omega arith))
