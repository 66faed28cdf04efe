use Rattle.std.proofs.Common.{refl, arith}
use Rattle.site.proofs.Site.lose_at_concentrator.Goals as goal
use Rattle.site.proofs.Steps.{losses_lead}
use Rattle.site.specs.Sites.{seen}

pub returns : goal.returns
returns g c =
    let s = c.lose.ensures in
    record { answer = s.answer; steps = losses_lead g.F.Format (seen c.args.self.now) _ 0 0 c.args.k _ s.answer s.moved (λ w st. (refl, omega arith)) }
