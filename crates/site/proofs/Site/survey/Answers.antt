use Rattle.std.proofs.Common.{refl}
use Rattle.site.proofs.Events.{stands_surveyed}
use Rattle.site.proofs.Site.survey.Goals as goal

pub returns : goal.returns
returns g c =
    let s = c.survey.ensures in
    record { answer = s.answer; written = s.written; steps = λ w st. stands_surveyed g.F.Format _ _ w st refl refl refl (λ ys apart p. p) }
