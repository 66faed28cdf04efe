-- The survey of the links that are set. Its order is free.
use Rattle.std.specs.Prelude.{◌≡◌, ℕ, zero, suc, ◌+◌, Bool, cond, ◌&&◌, List, [], ◌∷◌, length, take, drop, Ok, Result, ◌==◌, nat_le}
use Rattle.fault.specs.Causes.{fault}
use Rattle.fault.specs.declared.Cause.TheVariants.{ShortBuffer}
use Rattle.fault.specs.declared.Fault.{Fault}
use Rattle.frame.specs.Verdicts.{must}
use Rattle.rules.specs.Links.{link_at}
use Rattle.rules.specs.Messages.{within}
use Rattle.rules.specs.declared.link.Link.{Link}

-- how often a number stands in a list
abbrev pub occurrences : ℕ → List ℕ → ℕ
occurrences a [] = 0
occurrences a (x ∷ xs) = cond (x == a) (occurrences a xs + 1) (occurrences a xs)

-- a station whose link is set
abbrev pub is_set : List Link → ℕ → Bool
is_set links a = within 1 32 a && (link_at links a).set

-- how many of the stations 1 to n have their link set
unfoldable pub set_count : ℕ → List Link → ℕ
set_count zero links = 0
set_count (suc n) links = cond (is_set links (suc n)) (set_count n links + 1) (set_count n links)

-- 20 if there are under 32 places, else how many links are set
abbrev pub survey_answer : List Link → ℕ → Result ℕ Fault
survey_answer links places = must (nat_le 32 places) (fault ShortBuffer 0) (Ok (set_count 32 links))

-- the first count places have each station whose link is set once and nothing else; the rest is as it was
pub record Surveyed (links : List Link) (before after : List ℕ) (count : ℕ) : Type 0 where
  pub once : (a : ℕ) → occurrences a (take count after) ≡ cond (is_set links a) 1 0
  pub rest : drop count after ≡ drop count before
  pub places : length (take count after) ≡ count
