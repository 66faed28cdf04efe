use Rattle.std.proofs.Common.{◌∙◌}
use Rattle.queue.proofs.Held.{oldest_first}
use Rattle.queue.proofs.Queue.oldest.Goals as goal

pub returns-else-is_empty : goal.returns-else-is_empty
returns-else-is_empty g c = c.read.ensures ∙ oldest_first g.S.Slots.items c.args.self.now c.if-is_empty.ensures
