use Rattle.std.proofs.Common.{sym, refl, ap, ◌∙◌, ap₂}
use Rattle.rules.specs.Concentrator.{new_concentrator}
use Rattle.site.proofs.Events.{stands_new}
use Rattle.site.proofs.Site.begin.Goals as goal
use Rattle.site.specs.Troubles.{told}

pub returns : goal.returns
returns g c =
    let n = c.args.plan.repetitions in
    record {
      answer = ap told c.in_ok-check.ensures;
      stands = stands_new g.F.Format _ n c.args.plan.arrivals c.args.plan.reports
          (c.over.ensures.begun ∙ ap₂ (λ a b. new_concentrator n a b) (sym c.in_ok-arrivals.arrivals.ok.0 ∙ c.in_ok-arrivals.ensures.len) (sym c.in_ok-reports.reports.ok.0 ∙ c.in_ok-reports.ensures.len))
          c.new.ensures c.new-2.ensures.made refl;
    }
