use Rattle.queue.proofs.Held.{len_sound, len_unsound}
use Rattle.queue.proofs.Queue.len.Goals as goal

pub returns-then-is_sound : goal.returns-then-is_sound
returns-then-is_sound g c = len_sound g.S.Slots.items c.args.self.now c.if-is_sound.ensures

pub returns-else-is_sound : goal.returns-else-is_sound
returns-else-is_sound g c = len_unsound g.S.Slots.items c.args.self.now c.if-is_sound.ensures
