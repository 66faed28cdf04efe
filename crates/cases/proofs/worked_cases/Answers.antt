use Rattle.std.proofs.Common.{refl}
use Rattle.cases.proofs.worked_cases.Goals as goal
use lib.Count.{ones, ones_in}
use Rattle.rules.specs.Reader.{give_out, hear_telegram, repeat, take_in}
use Rattle.rules.specs.Concentrator.{link_after, verdict}

pub returns : goal.returns
unfolding ones ones_in give_out hear_telegram repeat take_in link_after verdict
returns c = record {
  ft12 = c.worked_cases.ensures;
  ft3 = c.worked_cases-2.ensures;
  repeated = record { first = refl; second = refl; once = refl };
  full = record { busy = refl; again = refl; empty = refl };
  last = refl;
  polls = record { first = refl; second = refl; settled = refl; which = refl };
  silent = record { reported = refl; unset = refl };
}
