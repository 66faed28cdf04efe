use Rattle.std.proofs.Common.{◌+◌, ◌≤◌, length, take, arith}
use Rattle.frame.proofs.Symbols.{encode_more}
use Rattle.frame.proofs.encode_at.Goals as goal
use Rattle.std.proofs.Math.Nat.{min-le_left}
use Rattle.std.proofs.lemmas.List.{length-take}

pub loop-i-preserved : goal.loop-i-preserved
loop-i-preserved g c =
    let os = take c.min.result c.args.octets.now in
    let n = length c.args.octets.now in
    let room : c.args.place + length os ≤ length c.args.buffer.now =
    omega (arith, length-take c.min.result c.args.octets.now, min-le_left c.min.result n, min-le_left c.saturating_sub-room.result n)
    in
    encode_more g.A.SymbolCode.symbol_for os c.args.buffer.now c.loop-i.buffer c.args.place c.loop-i.i c.encode.result c.loop-i-test.true room c.encode.ensures c.loop-i.invariant
