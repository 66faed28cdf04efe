use Rattle.std.proofs.Common.{◌-◌, vec_items, sym, refl, ap, ◌∙◌, subst}
use Rattle.account.specs.Line.{concentrator_hears}
use Rattle.concentrator.specs.View.{view}
use Rattle.line.specs.Ways.{on_way, sent_at}
use Rattle.rules.specs.Concentrator.{hear}
use Rattle.rules.specs.Exchanges.{heard_after, heard_answer}
use Rattle.rules.specs.Telegrams.{telegram_read}
use Rattle.site.proofs.Site.hear_at_concentrator.Goals as goal
use Rattle.site.proofs.Steps.{heard_is, hearings_come, told_so}
use Rattle.site.specs.Shown.{Memory, burst_of}
use Rattle.site.specs.Sites.{Leads, seen, symbols_of}
use Rattle.site.specs.Troubles.{is_made, told}

pub returns : goal.returns
returns g c =
    let F = g.F.Format in
    let k = c.args.k in
    let m = seen c.args.self.now in
    let m₁ = seen c.make_ready.new.self in
    let m₂ : Memory = record { concentrator = view vec_items vec_items c.hear-outcome.new.self; readers = m₁.readers; line = m₁.line; started = m₁.started } in
    let m' = seen c.conclude.new.self in
    let r = c.conclude.result in
    let heard = c.in_ok-heard.heard.items in
    let on = sym c.if-not-is_on_way.ensures in
    let p = c.in_ok-heard.ensures in
    let s = c.hear-outcome.ensures in
    let v = c.deref.ensures.value in
    let came = hearings_come F g.met.F.Format.size m m₁ m₂ m' k heard c.exchange-exchange.result c.exchange-exchange.ensures c.hear-outcome.result r
    c.make_ready.ensures.same refl refl
    (s.answer ∙ ap (λ l. heard_answer (hear (telegram_read (F.verdict l)) m₁.concentrator)) v)
    (s.moved ∙ ap (λ l. heard_after (hear (telegram_read (F.verdict l)) m₁.concentrator) m₁.concentrator) v)
    on p.damaged c.conclude.ensures in
    let symbols = symbols_of (sent_at k m.line) in
    let damage = c.args.damage.now in
    record {
      answer = told_so r (heard_answer (hear (telegram_read (F.verdict heard)) m.concentrator)) (on_way 0 k m.line) _ heard
          (λ l. told (heard_answer (hear (telegram_read (F.verdict l)) m.concentrator))) came.0 refl on p.answer;
      steps = subst (λ l. Leads F (is_made r) m m' (λ w. concentrator_hears (k - 1) (burst_of k w) l)) (heard_is F.WIDTH F.GUARD damage.cut (vec_items damage.flips) symbols heard p.answer) came.1;
    }
