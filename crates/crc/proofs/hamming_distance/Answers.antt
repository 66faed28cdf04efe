use Rattle.crc.proofs.Sealed.{least_six}
use Rattle.crc.proofs.hamming_distance.Goals as goal

pub returns : goal.returns
returns c = least_six
