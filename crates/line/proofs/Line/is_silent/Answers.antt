use Rattle.std.proofs.Common.{drop, sym, ◌∙◌}
use Rattle.line.proofs.Line.is_silent.Goals as goal
use Rattle.line.proofs.Ways.{no_pairs, silence}
use Rattle.line.specs.Bursts.{flights}
use Rattle.std.proofs.lemmas.Bool.{eq-eqb, eqb-true}

pub returns : goal.returns
returns c =
    let l = c.args.self.now in
    let fs = drop l.quiet (flights l.ends l.bursts.items) in
    (λ t. silence fs (sym l.counted ∙ eqb-true l.pending 0 t), λ s. eq-eqb l.pending 0 (l.counted ∙ no_pairs fs s))
