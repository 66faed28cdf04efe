use Rattle.std.proofs.Common.{sym, ap, ◌∙◌, arith}
use Rattle.links.proofs.Surveys.{partly_none, partly_set, partly_unset}
use Rattle.links.proofs.table.LinkTable.survey.Goals as goal
use Rattle.links.proofs.table.LinkTable.survey.Goals.{then-get, else-get}

pub loop-station-init : goal.loop-station-init
loop-station-init c = partly_none c.args.self.now.records c.args.buffer.now

pub loop-station-preserved : goal.loop-station-preserved
loop-station-preserved c =
    let links = c.args.self.now.records in
    let b = c.args.buffer.now in
    let l = c.loop-station in
    elim c.if-get.branch [
      | then-get w ↦ rw (w.buffer-is, w.count-is) (partly_set links b l.station l.buffer l.count (omega arith) (omega arith) (omega arith) (ap (λ k. k.set) (sym c.get.ensures) ∙ w.if-get.true) l.invariant)
      | else-get w ↦ rw (w.buffer-is, w.count-is) (partly_unset links b l.station l.buffer l.count (omega arith) (ap (λ k. k.set) (sym c.get.ensures) ∙ w.if-get.false) l.invariant)
    ]
