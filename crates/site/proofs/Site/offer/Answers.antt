use Rattle.std.proofs.Common.{cond, Some, Err, ap, ◌∙◌}
use Rattle.account.specs.Books.{Station, offered}
use Rattle.readers.proofs.Lent.{lent_changed, lent_unmade}
use Rattle.readers.specs.Readers.{Kept, kept, readers}
use Rattle.rules.specs.Reader.{offer, offer_answer}
use Rattle.site.proofs.Placed.{placed_as}
use Rattle.site.proofs.Site.offer.Goals as goal
use Rattle.site.proofs.Steps.{offers_come}
use Rattle.site.specs.Sites.{seen}
use Rattle.station.specs.Refusals.{no_memory, told}
use Rattle.station.specs.declared.Refusal.TheVariants.{Memory}
use Rattle.std.specs.Option.{option_map}

pub returns : goal.returns
returns g c =
    let m = seen c.args.self.now in
    let l = c.args.self.now.readers.all.items in
    let a = c.args.address in
    let x = c.in_ok-station.station.now in
    let w = c.offer-answer.new.self in
    let st = c.in_ok-station.station in
    let held = c.in_ok-station.ensures.value in
    let value = placed_as c.get_mut.result st held (λ y. y.now) _ c.get_mut.ensures.value in
    let reader = placed_as c.get_mut.result st held (λ y. kept y.now) _ c.get_mut.ensures.reader in
    let s = c.offer-answer.ensures in
    let t = c.settle.ensures in
    let os = c.args.octets.now in
    let z = no_memory c.offer-answer.result in
    let f = λ (y : Kept). told (offer_answer (offer c.args.class os y.reader)) in
    let g' = λ (y : Station). cond z y (offered (offer c.args.class os y.reader) y) in
    let became = c.get_mut.follows.holds w in
    let k = offers_come g.F.Format m (seen c.settle.new.self) (readers (c.get_mut.follows.lender w)) a c.args.class os c.are_octets.ensures f c.offer-answer.result c.settle.result t.answer t.moved
    (lent_changed a l _ x w g' value became s.shown)
    (λ unmade. lent_unmade a l _ x w value became z _ _ s.moved s.noted unmade)
    (ap Some s.answer ∙ ap (option_map (λ y. cond z (Err Memory) (f y))) reader) in
    record { answer = k.0; steps = k.1 }
