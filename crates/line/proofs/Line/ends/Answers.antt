use Rattle.std.proofs.Common.{refl}
use Rattle.line.proofs.Line.ends.Goals as goal
use Rattle.line.proofs.Lines.{apart}

pub returns : goal.returns
returns c = record { value = refl; apart = apart c.args.self.now }
