use Rattle.std.proofs.Common.{◌≡◌, ◌+◌, ◌*◌, min, drop}
use Rattle.ft3.proofs.Records.{Read}
use Rattle.ft3.proofs.reading.read_variable.Given as goal

abbrev pub invariant-loop-i : goal.invariant-loop-i
invariant-loop-i l =
    let i = l.i-iterator.count in
    record {
      size : l.i-iterator.iter.size ≡ 18;
      read : Read (drop 7 l.octets) l.count l.opened l.i-iterator.iter.rest.now (min l.count (16 * i)) (7 + 18 * i);
    }
