use Rattle.std.proofs.Common.{◌≡◌, length, take, ap, ◌∙◌}
use Rattle.line.specs.Lines.{room, view}
use Rattle.line.specs.Ways.{View, as_sent, launched}
use Rattle.site.proofs.Site.launch.Goals as goal
use Rattle.site.specs.Sites.{seen, with_line}
use Rattle.std.proofs.lemmas.List.{length_push}
use Rattle.std.proofs.lemmas.Bool.{cond-true}

pub returns : goal.returns
returns g c =
    let s = c.args.self.now in
    let n = c.args.number in
    let v = view s.line in
    let went : view c.launch.new.self ≡ launched (as_sent (take c.args.count c.args.symbols.items) n) v =
    c.launch.ensures.after ∙
    cond-true (room s.line) (launched (as_sent c.truncate.new.self.items n) v) v c.requires ∙
    ap (λ l. launched (as_sent l n) v) c.truncate.ensures.items in
    record {
      answer = c.count.ensures ∙ ap (λ (z : View). length z.bursts) went ∙ length_push v.bursts _;
      moved = ap (λ z. with_line z (seen s)) went;
    }
