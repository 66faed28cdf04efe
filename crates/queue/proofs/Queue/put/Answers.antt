use Rattle.std.proofs.Common.{Err, refl, ap, ◌∙◌, arith}
use Rattle.queue.specs.Ring.{capacity}
use Rattle.queue.proofs.Held.{has_room, refused_put, after_put}
use Rattle.queue.proofs.Queue.put.Goals as goal

pub returns-then-is_full : goal.returns-then-is_full
returns-then-is_full g c =
    let p = refused_put g.S.Slots.items c.args.self.now c.args.x c.if-is_full.ensures in
    record {
      answer = ap Err c.of.ensures ∙ p.0;
      held = p.1;
      room = refl {a = capacity g.S.Slots.items c.args.self.now};
      store = p.2;
      first = refl {a = c.args.self.now.first};
      refused = refl {a = c.args.self.now};
    }

pub slot_after-free-requires : goal.slot_after-free-requires
slot_after-free-requires g c =
    let h = has_room g.S.Slots.items c.args.self.now c.if-is_full.ensures in
    let k = c.count.ensures in
    (omega arith, (omega arith, omega arith))

pub overflow_add-self : goal.overflow_add-self
overflow_add-self g c =
    let h = has_room g.S.Slots.items c.args.self.now c.if-is_full.ensures in
    omega arith

pub returns : goal.returns
returns g c =
    let p = after_put g.S.Slots.items c.args.self.now _ c.args.x c.count.result c.slot_after-free.result c.if-is_full.ensures c.count.ensures c.slot_after-free.ensures c.write.ensures refl refl in
    record { answer = p.0; held = p.1; room = p.2; store = p.3; first = refl {a = c.args.self.now.first}; refused = tt }
