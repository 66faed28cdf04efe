use Rattle.std.proofs.Common.{None, Some, ◌≡◌, refl, arith, rules}
use Rattle.queue.specs.Ring.{capacity, contents}
use Rattle.queue.specs.Fifo.{oldest}
use Rattle.queue.proofs.Held.{some_oldest, has_record, refused_take, after_take}
use Rattle.queue.proofs.Queue.take.Goals as goal

pub returns-in_err-x : goal.returns-in_err-x
returns-in_err-x g c =
    let n : None ≡ oldest (contents g.S.Slots.items c.args.self.now) = search rules in
    let p = refused_take g.S.Slots.items c.args.self.now n in
    record {
      answer = search rules;
      held = p.1;
      room = refl {a = capacity g.S.Slots.items c.args.self.now};
      store = refl {a = c.args.self.now.slots};
      first = p.2;
      refused = search rules;
    }

pub slot_after-next-requires : goal.slot_after-next-requires
slot_after-next-requires g c =
    let s : Some c.in_ok-x.x ≡ oldest (contents g.S.Slots.items c.args.self.now) = search rules in
    let h = has_record g.S.Slots.items c.args.self.now (some_oldest _ _ s).0 in
    let w = h.0 in
    let k = c.count-count.ensures in
    (omega arith, (omega arith, omega arith))

pub overflow_sub-self : goal.overflow_sub-self
overflow_sub-self g c =
    let s : Some c.in_ok-x.x ≡ oldest (contents g.S.Slots.items c.args.self.now) = search rules in
    let h = has_record g.S.Slots.items c.args.self.now (some_oldest _ _ s).0 in
    omega arith

pub returns : goal.returns
returns g c =
    let s : Some c.in_ok-x.x ≡ oldest (contents g.S.Slots.items c.args.self.now) = search rules in
    let p = after_take g.S.Slots.items c.args.self.now _ c.in_ok-x.x c.count-count.result s c.count-count.ensures refl c.slot_after-next.ensures refl in
    record { answer = p.0; held = p.1; room = p.2; store = refl {a = c.args.self.now.slots}; first = p.3; refused = tt }
