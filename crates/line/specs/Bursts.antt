-- A burst in memory as plain data.
use Rattle.std.specs.Prelude.{ℕ, List, map, take, vec_items}
use Rattle.line.specs.Ways.{Flight, as_sent}
use Rattle.line.specs.declared.burst.Burst.{Burst}

-- a burst on a line with so many ends: the marks of other ends mean nothing
abbrev pub flight : ℕ → Burst → Flight
flight ends b = record { sent = as_sent (vec_items b.symbols) b.number; ways = take ends b.ways }

-- every burst
abbrev pub flights : ℕ → List Burst → List Flight
flights ends bs = map (flight ends) bs
