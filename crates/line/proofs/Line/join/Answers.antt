use Rattle.std.proofs.Common.{◌+◌, drop, refl, ap, ◌∙◌, inl, inr, arith}
use Rattle.line.proofs.Line.join.Goals as goal
use Rattle.line.proofs.Line.join.Goals.{then-len-gt0-via-else-len-gt0+then-self-ge-MOST_ENDS, then-len-gt0-via-then-len-gt0}
use Rattle.line.proofs.Lines.{no_flights, none_sent, opened, shut}
use Rattle.line.specs.Bursts.{flight, flights}
use Rattle.line.specs.Lines.{view}
use Rattle.line.specs.Ways.{pairs}
use Rattle.std.proofs.lemmas.List.{length-map}

pub returns-then-len-gt0 : goal.returns-then-len-gt0
returns-then-len-gt0 c =
    let l = c.args.self.now in
    let long = length-map l.bursts.items (flight l.ends) in
    elim c.then-len-gt0.branch [
      | then-len-gt0-via-then-len-gt0 w ↦
          let s = shut (view l) (inl (omega (arith, w.if-len-gt0.true, c.len.ensures, l.bursts.ok.0))) in
          record { answer = s.0; after = s.1; silent = tt; refused = refl }
      | then-len-gt0-via-else-len-gt0+then-self-ge-MOST_ENDS w ↦
          let s = shut (view l) (inr w.if-self-ge-MOST_ENDS.true) in
          record { answer = s.0; after = s.1; silent = tt; refused = refl }
    ]

pub invariant_of-self : goal.invariant_of-self
invariant_of-self c =
    let l = c.args.self.now in
    let none = no_flights l.ends (l.ends + 1) l.bursts.items (omega (arith, l.bursts.ok.0)) in
    record { most = omega arith; past = l.past; counted = l.counted ∙ ap (λ fs. pairs (drop l.quiet fs)) none }

pub returns : goal.returns
returns c =
    let l = c.args.self.now in
    let bs = l.bursts.items in
    let none = no_flights (l.ends + 1) l.ends bs (omega (arith, l.bursts.ok.0)) in
    let long = length-map bs (flight l.ends) in
    let long' = length-map bs (flight (l.ends + 1)) in
    let s = opened (view l) (omega (arith, l.bursts.ok.0)) c.if-self-ge-MOST_ENDS.false in
    record {
      answer = s.0;
      after = ap (λ fs. record { bursts = fs; quiet = l.quiet; ends = l.ends + 1 }) none ∙ s.1;
      silent = none_sent (record { bursts = flights (l.ends + 1) bs; quiet = l.quiet; ends = l.ends + 1 }) (omega (arith, l.bursts.ok.0));
      refused = tt;
    }
