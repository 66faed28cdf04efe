use Rattle.std.proofs.Common.{refl}
use Rattle.site.proofs.Events.{report_taken}
use Rattle.site.proofs.Site.fetch_report.Goals as goal

pub returns : goal.returns
returns g c =
    let s = c.fetch_report.ensures in
    record { answer = s.answer; steps = λ w st. report_taken g.F.Format _ _ w st refl refl s.moved (λ ys apart p. p) }
