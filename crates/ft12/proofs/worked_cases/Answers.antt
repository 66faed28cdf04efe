use Rattle.std.proofs.Common.{refl}
use lib.Count.{ones, ones_in}
use Rattle.ft12.specs.Exact.{too_long}
use Rattle.ft12.specs.Sizes.{longest_variable}
use Rattle.ft12.proofs.worked_cases.Goals as goal

pub returns : goal.returns
unfolding ones ones_in
returns c =
    record {
      octet_10 = refl;
      octet_E5 = refl;
      reset = refl;
      send = refl;
      no_user = refl;
      most_octets = longest_variable;
      over = too_long;
    }
