use Rattle.std.proofs.Common.{◌∙◌}
use Rattle.queue.proofs.Held.{capacity_sound, capacity_unsound}
use Rattle.queue.proofs.Queue.capacity.Goals as goal

pub returns-then-is_sound : goal.returns-then-is_sound
returns-then-is_sound g c = c.count.ensures ∙ capacity_sound g.S.Slots.items c.args.self.now c.if-is_sound.ensures

pub returns-else-is_sound : goal.returns-else-is_sound
returns-else-is_sound g c = capacity_unsound g.S.Slots.items c.args.self.now c.if-is_sound.ensures
