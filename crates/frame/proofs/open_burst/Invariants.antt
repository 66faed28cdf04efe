use Rattle.std.proofs.Common.{◌≡◌, map, length, take}
use Rattle.frame.proofs.open_burst.Given as goal

abbrev pub invariant-loop-i : goal.invariant-loop-i
invariant-loop-i g l = (take l.i l.octets ≡ map g.A.SymbolCode.octet_in (take l.i l.burst)) × (length l.octets ≡ length l.initial.octets)
