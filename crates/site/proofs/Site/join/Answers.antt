use Rattle.std.proofs.Common.{sym, ap, ◌∙◌}
use Rattle.site.proofs.Placed.{is_none}
use Rattle.site.proofs.Site.join.Goals as goal
use Rattle.site.proofs.Steps.{joins_come}
use Rattle.site.specs.Sites.{seen, with_line, with_readers}
use Rattle.readers.specs.Readers.{readers}

pub returns : goal.returns
returns g c =
    let m = seen c.args.self.now in
    let xs = readers c.join.new.self in
    let k = joins_come g.F.Format m _ c.args.plan xs
    (sym c.if-not-is_open.ensures) (is_none c.find.result c.if-is_some.ensures ∙ c.find.ensures.place) c.in_ok-check.ensures c.in_ok-join.ensures
    (ap (λ v. with_line v (with_readers xs m)) c.join-2.ensures.after) in
    record { answer = k.0; stands = k.1 }
