use Rattle.std.proofs.Common.{refl}
use Rattle.crc.specs.Check.{bring_down, remainder, bits, check, sealed}
use Rattle.crc.proofs.published_checks.Goals as goal

pub returns : goal.returns
unfolding sealed check bits remainder bring_down
returns c = record { vectors = (refl, refl); digits = c.block_check.ensures.checked; reset = c.block_check-2.ensures.checked }
