use Rattle.std.proofs.Common.{vec_items, length, refl, ap, ◌∙◌}
use Rattle.concentrator.specs.View.{view}
use Rattle.rules.specs.Concentrator.{asking}
use Rattle.site.proofs.Site.request.Goals as goal
use Rattle.site.proofs.Steps.{filled, ready_sent, requests_come}
use Rattle.site.specs.Sites.{seen}

pub transmit-requires : goal.transmit-requires
transmit-requires g c =
    let p = c.in_ok-buffer.ensures in
    let s = c.request-sent.ensures in (
      p.room,
      ready_sent g.F.Format.frame _ c.args.station (asking c.args.asked) (seen c.prepare.new.self).concentrator (view vec_items vec_items c.request-sent.new.self) c.request-sent.result
          c.prepare.new.self.readers s.answer s.moved p.ready,
    )

pub returns : goal.returns
returns g c =
    let p = c.in_ok-buffer.ensures in
    let s = c.request-sent.ensures in
    let k = requests_come g.F.Format (seen c.args.self.now) (seen c.prepare.new.self) _ (seen c.transmit.new.self) c.args.places c.args.station (asking c.args.asked) c.are_octets_asked.ensures
    c.deref_mut.result.now _ c.request-sent.result c.transmit.result p.same (ap length c.deref_mut.ensures.value ∙ p.buffer) refl refl s.answer s.moved
    (filled c.in_ok-buffer.buffer.len c.request-sent.new.buffer _ (c.request-sent.auto.buffer ∙ c.deref_mut.ensures.len) ∙ s.written) c.transmit.ensures in
    record { answer = k.0; steps = k.1 }
