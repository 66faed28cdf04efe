use Rattle.links.proofs.Surveys.{Partly}
use Rattle.links.proofs.table.LinkTable.survey.Given as goal

abbrev pub invariant-loop-station : goal.invariant-loop-station
invariant-loop-station l = Partly l.self.records l.initial.buffer l.station l.buffer l.count
