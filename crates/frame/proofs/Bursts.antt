-- Bursts: their checks, and the octets that are taken from their symbols.
use Rattle.std.proofs.Common.{◌≡◌, ℕ, ◌+◌, ◌<◌, ◌≤◌, Bool, true, false, cond, not, Option, None, Some, Result, Ok, List, [], ◌∷◌, ◌++◌, map, length, get_or, take, set, Err, sym, refl, ap, ◌∙◌, ap₂, arith}
use Rattle.fault.specs.Causes.{fault}
use Rattle.fault.specs.declared.Cause.TheVariants.{BrokenSymbol}
use Rattle.fault.specs.declared.Fault.{Fault}
use Rattle.frame.specs.Verdicts.{line_checked, must, symbols_checked}
use Rattle.std.specs.List.{position_from}
use Rattle.std.proofs.lemmas.List.{append_assoc, map_more, take_all, take_more, take_more_set}
use Rattle.std.proofs.lemmas.Bool.Decides.{nat_tests}

-- the fault of the first broken symbol, if there is one
abbrev pub broken_at : Option ℕ → Result (Unit {0}) Fault
broken_at None = Ok tt
broken_at (Some i) = Err (fault BrokenSymbol i)

pub symbols_position :
    (sound : ℕ → Bool) (i : ℕ) (b : List ℕ) → symbols_checked sound i b ≡ broken_at (position_from (λ s. not (sound s)) i b)
symbols_position sound i [] = refl
symbols_position sound i (s ∷ b) =
    elim (sound s) as (λ t. must t (fault BrokenSymbol i) (symbols_checked sound (i + 1) b) ≡ broken_at (cond (not t) (Some i) (position_from (λ s. not (sound s)) (i + 1) b))) [
      | true ↦ symbols_position sound (i + 1) b
      | false ↦ refl
    ]

pub line_is :
    (sound : ℕ → Bool) (longest : ℕ) (b : List ℕ) →
    1 ≤ length b →
    length b ≤ longest →
    line_checked sound longest b ≡ symbols_checked sound 0 b
line_is sound longest b h k = grind (arith, nat_tests)

-- one more octet, taken from its symbol by f
pub decode_more :
    (f : ℕ → ℕ) (os b : List ℕ) (i x : ℕ) →
    i < length b →
    i < length os →
    x ≡ f (get_or b i 0) →
    take i os ≡ map f (take i b) →
    take (i + 1) (set os i x) ≡ map f (take (i + 1) b)
decode_more f os b i x hb ho is e =
    take_more_set os i x ho ∙ ap₂ (λ z y. z ++ y ∷ []) e is ∙ sym (map_more f b i 0 hb)

-- the last two of a list
pub last_two : (t : List ℕ) (l : ℕ) → length t ≡ l + 2 → t ≡ take l t ++ (get_or t l 0 ∷ get_or t (l + 1) 0 ∷ [])
last_two t l h =
    sym (take_all (l + 1 + 1) t (omega arith)) ∙
    take_more t (l + 1) 0 (omega arith) ∙
    ap (λ z. z ++ (get_or t (l + 1) 0 ∷ [])) (take_more t l 0 (omega arith)) ∙
    append_assoc (take l t) (get_or t l 0 ∷ []) (get_or t (l + 1) 0 ∷ [])
