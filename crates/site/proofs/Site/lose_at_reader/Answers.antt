use Rattle.std.proofs.Common.{suc, cond, Ok, Err, ap, ◌∙◌}
use Rattle.line.specs.Ways.{arrived, on_way}
use Rattle.site.proofs.Placed.{end_placed, placed}
use Rattle.site.proofs.Site.lose_at_reader.Goals as goal
use Rattle.site.proofs.Steps.{losses_lead, reader_end}
use Rattle.site.specs.Sites.{at_end, seen, with_line}
use Rattle.site.specs.declared.trouble.Trouble.TheVariants.{NotOnWay}

pub returns : goal.returns
returns g c =
    let m = seen c.args.self.now in
    let s = c.lose.ensures in
    let k = c.args.k in
    let end = c.in_ok-end.end in
    let found = placed c.end_of.result end c.in_ok-end.ensures.value ∙ c.end_of.ensures in
    let q = end_placed _ end found in
    record {
      answer = s.answer ∙ ap (λ o. at_end o (λ e. cond (on_way e k m.line) (Ok tt) (Err NotOnWay))) found;
      steps = losses_lead g.F.Format m _ (suc q.0) c.args.address k _ (s.answer ∙ ap (λ e. cond (on_way e k m.line) (Ok tt) (Err NotOnWay)) q.2)
          (s.moved ∙ ap (λ e. cond (on_way e k m.line) (with_line (arrived e k m.line) m) m) q.2) (λ w st. reader_end g.F.Format m w st c.args.address q.0 q.1);
    }
