use Rattle.std.proofs.Common.{◌≡◌, length, sym, refl, ap, ◌∙◌, arith}
use Rattle.line.proofs.Line.quiet.Goals as goal
use Rattle.line.proofs.Ways.{lost_all}
use Rattle.line.specs.Bursts.{flight, flights}
use Rattle.line.specs.Lines.{view}
use Rattle.line.specs.Ways.{pairs, way}
use Rattle.std.proofs.lemmas.List.{drop_all, length-map}

pub invariant_of-self : goal.invariant_of-self
unfolding pairs
invariant_of-self c =
    let l = c.args.self.now in
    let n = c.len-self.result in
    let fs = flights l.ends l.bursts.items in
    let long = length-map l.bursts.items (flight l.ends) in
    record { most = l.most; past = omega arith; counted = sym (ap pairs (drop_all n fs (omega (arith, l.bursts.ok.0)))) }

pub returns : goal.returns
returns c =
    let l = c.args.self.now in
    let fs = flights l.ends l.bursts.items in
    let long = length-map l.bursts.items (flight l.ends) in
    let all : c.len-self.result ≡ length fs = omega (arith, l.bursts.ok.0) in
    let after = ap (λ n. record { bursts = fs; quiet = n; ends = l.ends }) all in
    record {
      after = after;
      silent = λ e. ap (way e) after ∙ lost_all (view l) e;
      room = refl;
    }
