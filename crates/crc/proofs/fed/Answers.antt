use Rattle.std.proofs.Common.{arith}
use Rattle.crc.specs.Check.{remainder, bring_down}
use Rattle.crc.proofs.Register.{entries, by_table}
use Rattle.crc.proofs.fed.Goals as goal

pub returns : goal.returns
unfolding entries remainder bring_down
returns c = by_table c.args.register c.args.octet (omega arith) (omega arith)
