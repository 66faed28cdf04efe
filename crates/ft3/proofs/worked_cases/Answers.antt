use Rattle.std.proofs.Common.{refl}
use Rattle.crc.specs.Check.{bits, bring_down, check, remainder, sealed}
use Rattle.ft3.specs.Laws as laws
use Rattle.ft3.proofs.worked_cases.Goals as goal

pub returns : goal.returns
unfolding sealed check bits remainder bring_down
returns c =
    record {
      single = refl;
      reset = refl;
      send = refl;
      longest_frame = laws.most_octets;
      over = laws.too_long;
      start_alone = refl;
      reset_spoilt = refl;
      send_cut = refl;
    }
