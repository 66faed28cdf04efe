use Rattle.std.proofs.Common.{sym, ◌∙◌}
use Rattle.line.proofs.Line.count.Goals as goal
use Rattle.line.specs.Bursts.{flight}
use Rattle.std.proofs.lemmas.List.{length-map}

pub returns : goal.returns
returns c =
    let l = c.args.self.now in
    c.len.ensures ∙ l.bursts.ok.0 ∙ sym (length-map l.bursts.items (flight l.ends))
