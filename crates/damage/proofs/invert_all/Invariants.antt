use Rattle.std.proofs.Common.{take}
use Rattle.damage.proofs.Flips.{Inverting}
use Rattle.damage.proofs.invert_all.Given as goal

abbrev pub invariant-loop-flip : goal.invariant-loop-flip
invariant-loop-flip l = Inverting l.sent l.heard (take l.flip-index l.flips)
