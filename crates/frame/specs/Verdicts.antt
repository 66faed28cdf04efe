-- The order of checks, and the checks of every burst.
use Rattle.std.specs.Prelude.{ℕ, ◌+◌, Bool, cond, List, [], ◌∷◌, length, Ok, Err, Result, nat_le}
use Rattle.fault.specs.Causes.{fault}
use Rattle.fault.specs.declared.Cause.TheVariants.{EmptyBurst, LongBurst, BrokenSymbol}
use Rattle.fault.specs.declared.Fault.{Fault}

-- the fault, unless the test holds; then what follows
abbrev pub must : {A : Type 0} → Bool → Fault → Result A Fault → Result A Fault
must test f rest = cond test rest (Err f)

-- what follows, unless there was a fault before it
abbrev pub after : {A : Type 0} → Result (Unit {0}) Fault → Result A Fault → Result A Fault
after (Ok u) rest = rest
after (Err f) rest = Err f

-- 3 at the first broken symbol, whose places count from i
abbrev pub symbols_checked : (ℕ → Bool) → ℕ → List ℕ → Result (Unit {0}) Fault
symbols_checked sound i [] = Ok tt
symbols_checked sound i (s ∷ ss) = must (sound s) (fault BrokenSymbol i) (symbols_checked sound (i + 1) ss)

-- 1 if the burst is empty, 2 if it is over the longest, then 3
abbrev pub line_checked : (ℕ → Bool) → ℕ → List ℕ → Result (Unit {0}) Fault
line_checked sound longest b =
    must (nat_le 1 (length b)) (fault EmptyBurst 0) (
    must (nat_le (length b) longest) (fault LongBurst 0) (
    symbols_checked sound 0 b))
