use Rattle.std.proofs.Common.{length, sym, ap, arith}
use Rattle.line.proofs.Line.new.Goals as goal
use Rattle.line.proofs.Lines.{none_sent}
use Rattle.line.specs.Bursts.{flight, flights}
use Rattle.line.specs.Ways.{pairs}
use Rattle.std.proofs.lemmas.List.{length-map}

pub invariant_of-result : goal.invariant_of-result
unfolding pairs
invariant_of-result c = record { most = omega arith; past = omega arith; counted = sym (ap (λ bs. pairs (flights 1 bs)) c.new.ensures.items) }

pub returns : goal.returns
returns c =
    let bs = c.new.result.items in
    let none = ap length c.new.ensures.items in
    let long = length-map bs (flight 1) in
    record {
      made = ap (λ xs. record { bursts = flights 1 xs; quiet = 0; ends = 1 }) c.new.ensures.items;
      silent = none_sent (record { bursts = flights 1 bs; quiet = 0; ends = 1 }) (omega arith);
    }
