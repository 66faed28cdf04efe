use Rattle.account.proofs.Sample.{comes_through}
use Rattle.account.proofs.messages_come_through.Goals as goal

pub returns : goal.returns
returns g c = comes_through g.F.Format g.met.F.Format.size g.met.F.Format.exact
