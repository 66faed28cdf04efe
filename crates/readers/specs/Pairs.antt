-- Readers in memory and the readers on the line that they stand for.
use Rattle.std.specs.Prelude.{◌≡◌, ℕ, true, false, List, [], ◌∷◌, map, ◌==◌}
use Rattle.account.specs.Books.{Station}
use Rattle.rules.specs.Messages.{within}
use Rattle.std.specs.List.{AllByRecursion}

-- each with the one at its place, and as many of them
abbrev pub Paired : {A B : Type 0} → (A → B → Type 0) → List A → List B → Type 0
Paired R [] [] = Unit {0}
Paired R [] (y ∷ ys) = ⊥
Paired R (x ∷ xs) [] = ⊥
Paired R (x ∷ xs) (y ∷ ys) = R x y × Paired R xs ys

-- the addresses of readers on the line
abbrev pub addresses : List Station → List ℕ
addresses l = map (λ s. s.reader.address) l

-- each 1 to 32, and none twice
abbrev pub Spaced : List ℕ → Type 0
Spaced [] = Unit {0}
Spaced (a ∷ l) = (within 1 32 a ≡ true) × AllByRecursion (λ b. (b == a) ≡ false) l × Spaced l

module _ {S : Type 0} (Shows : S → Station → Type 0) where
  -- whatever readers at distinct addresses they showed before, they show these after
  abbrev pub Changes : List S → List S → (List Station → List Station) → Type 0
  Changes xs xs' f = (ys : List Station) → Spaced (addresses ys) → Paired Shows xs ys → Paired Shows xs' (f ys)

  -- whatever readers at distinct addresses they show, this is true of those
  abbrev pub Tells : List S → (List Station → Type 0) → Type 0
  Tells xs P = (ys : List Station) → Spaced (addresses ys) → Paired Shows xs ys → P ys
