use Rattle.std.proofs.Common.{◌<◌, arith}
use Rattle.std.proofs.ByRecursion.{All-from_get_or}
use Rattle.site.proofs.calls.are_octets.Goals as goal

pub returns : goal.returns
returns c = All-from_get_or (λ o. o < 256) c.args.octets.now 0 (λ i l. let fits = c.type_inv.octets i in omega arith)
