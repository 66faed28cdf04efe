use Rattle.std.proofs.Common.{◌≡◌, vec_items, ltb, length, Ok, Err, sym, refl, ap, ◌∙◌, subst}
use Rattle.account.specs.Line.{times_out}
use Rattle.concentrator.specs.View.{view}
use Rattle.site.proofs.Site.time_out.Goals as goal
use Rattle.site.proofs.Steps.{TimedSo, filled, time_outs_come}
use Rattle.site.specs.Shown.{Memory}
use Rattle.site.specs.Sites.{Leads, begun, seen}
use Rattle.site.specs.Troubles.{is_made}
use Rattle.site.specs.declared.trouble.Trouble.TheVariants.{Refused}
use Rattle.std.proofs.lemmas.Result.{err_from_is_err_and}

pub returns : goal.returns
returns g c =
    let F = g.F.Format in
    let p = c.in_ok-buffer.ensures in
    let s = c.time_out-timed.ensures in
    let m₁ = seen c.prepare.new.self in
    let m₂ : Memory = record { concentrator = view vec_items vec_items c.time_out-timed.new.self; readers = m₁.readers; line = m₁.line; started = m₁.started } in
    let silent = c.if-not-is_silent.ensures.0 refl in
    let k = time_outs_come F (seen c.args.self.now) m₁ m₂ (seen c.repeat.new.self) c.args.places silent c.exchange-exchange.result c.exchange-exchange.ensures
    c.deref_mut.result.now _ c.time_out-timed.result (Ok c.repeat.result) p.same (ap length c.deref_mut.ensures.value ∙ p.buffer) refl refl s.answer s.moved
    (filled c.in_ok-buffer.buffer.len c.time_out-timed.new.buffer _ (c.time_out-timed.auto.buffer ∙ c.deref_mut.ensures.len) ∙ s.written)
    (subst (TimedSo F c.exchange-exchange.result m₂ (seen c.repeat.new.self) _ (Ok c.repeat.result)) (sym c.in_ok-timed.was) (c.repeat.result, refl, c.repeat.ensures)) in
    record { silent = (λ _. silent, λ _. refl); answer = λ _. k.0; steps = k.1 }

pub returns-in_err-timed-clause-steps : goal.returns-in_err-timed-clause-steps
returns-in_err-timed-clause-steps g c =
    let F = g.F.Format in
    let p = c.in_ok-buffer.ensures in
    let s = c.time_out-timed.ensures in
    let m₁ = seen c.prepare.new.self in
    let m₂ : Memory = record { concentrator = view vec_items vec_items c.time_out-timed.new.self; readers = m₁.readers; line = m₁.line; started = m₁.started } in
    let silent = c.if-not-is_silent.ensures.0 refl in
    let k = time_outs_come F (seen c.args.self.now) m₁ m₂ (begun m₂) c.args.places silent c.exchange-exchange.result c.exchange-exchange.ensures
    c.deref_mut.result.now c.time_out-timed.new.buffer c.time_out-timed.result (Err (Refused c.in_err-timed.field-0.0)) p.same (ap length c.deref_mut.ensures.value ∙ p.buffer) refl refl s.answer s.moved
    s.written
    (subst (TimedSo F c.exchange-exchange.result m₂ (begun m₂) c.time_out-timed.new.buffer (Err (Refused c.in_err-timed.field-0.0))) (sym c.in_err-timed.was) (refl, refl)) in
    let r = c.from_residual-in_err-timed.result in
    let q = err_from_is_err_and r c.from_residual-in_err-timed.ensures.1 in
    let is : r ≡ Err (Refused c.in_err-timed.field-0.0) = q.1 ∙ ap Err q.2 in
    subst (λ z. Leads F (is_made z) (seen c.args.self.now) (begun m₂) (λ w. times_out (ltb c.args.places F.LONGEST))) (sym is) k.1
