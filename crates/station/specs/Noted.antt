-- What was handed out, told from how many of each class wait.
use Rattle.std.specs.Prelude.{ℕ, cond, length, Some, None, Option, nat_lt}
use Rattle.rules.specs.Reader.{Reader, class_queue}
use Rattle.rules.specs.declared.records.Class.{Class}
use Rattle.rules.specs.declared.records.Class.TheVariants.{First, Second}

-- how many of a class wait at a reader
abbrev pub waits : Class → Reader → ℕ
waits c r = length (class_queue c r).records

-- the class of which fewer wait than did before
abbrev pub shorter : ℕ → ℕ → Reader → Option Class
shorter first second r = cond (nat_lt (waits First r) first) (Some First) (cond (nat_lt (waits Second r) second) (Some Second) None)
