use Rattle.std.proofs.Common.{ℕ, ◌<◌, length, sym, ◌∙◌, arith}
use Rattle.frame.proofs.Bursts.{decode_more}
use Rattle.frame.proofs.Verdicts.{line_ok}
use Rattle.frame.proofs.open_burst.Goals as goal
use Rattle.std.proofs.lemmas.List.{length-replicate, length-set}

pub loop-i-preserved : goal.loop-i-preserved
loop-i-preserved g c =
    let b = c.args.burst.now in
    let line = line_ok g.A.Alphabet.sound g.row.LONGEST b (sym c.in_ok-check_burst.ensures) in
    let room : c.loop-i.i < length c.loop-i.octets = omega (arith, line.1, length-replicate {A = ℕ}) in (
      decode_more g.A.SymbolCode.octet_in c.loop-i.octets b c.loop-i.i c.decode.result c.loop-i-test.true room c.decode.ensures c.loop-i.invariant.0,
      length-set c.loop-i.octets c.loop-i.i _ ∙ c.loop-i.invariant.1,
    )
