use Rattle.std.proofs.Common.{◌≡◌, ◌+◌, ◌++◌, map, take, drop}
use Rattle.frame.proofs.encode_at.Given as goal

abbrev pub invariant-loop-i : goal.invariant-loop-i
invariant-loop-i g l =
    l.buffer ≡ take l.place l.initial.buffer ++ (map g.A.SymbolCode.symbol_for (take l.i l.octets) ++ drop (l.place + l.i) l.initial.buffer)
