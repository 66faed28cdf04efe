use Rattle.account.proofs.TwoEnds.{two_ends}
use Rattle.account.proofs.two_ends_hold.Goals as goal

pub returns : goal.returns
returns g c = two_ends g.F.Format g.met.F.Format.exact g.met.F.Format.guarded
