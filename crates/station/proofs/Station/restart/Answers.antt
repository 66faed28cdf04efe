use Rattle.std.proofs.Common.{ap, ◌∙◌}
use Rattle.books.specs.Calls.{marked_seen}
use Rattle.books.specs.Seen.{seen}
use Rattle.station.proofs.Station.restart.Goals as goal
use Rattle.station.proofs.Steps.{restarted-step}

pub returns : goal.returns
returns g c =
    let x = c.args.self.now in
    let e = c.restart-mark.ensures in
    let noted = c.marked.ensures ∙ ap (λ k. marked_seen k (seen x.books)) e.answer in
    record {
      answer = e.answer;
      moved = e.moved;
      kept = e.kept;
      noted = noted;
      shown = restarted-step x (record { reader = c.restart-mark.new.self; books = c.marked.new.self }) e.moved noted;
    }
