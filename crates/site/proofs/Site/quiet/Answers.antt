use Rattle.std.proofs.Common.{refl}
use Rattle.site.proofs.Events.{stands_quiet}
use Rattle.site.proofs.Site.quiet.Goals as goal

pub returns : goal.returns
returns g c w st = stands_quiet g.F.Format _ _ w st refl refl (λ ys apart p. p) c.quiet.ensures.after
