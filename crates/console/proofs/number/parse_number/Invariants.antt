use Rattle.std.proofs.Common.{◌≡◌, ◌≤◌, drop}
use Rattle.console.proofs.number.parse_number.Given as goal
use Rattle.console.specs.Numbers.{limited, value_after}

abbrev pub invariant-loop-byte : goal.invariant-loop-byte
invariant-loop-byte l = (l.value ≤ 65536) × (limited l.most (value_after l.radix l.value (drop l.byte-index l.word)) ≡ limited l.most (value_after l.radix 0 l.word))
