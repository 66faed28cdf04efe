use Rattle.std.proofs.Common.{◌≡◌, Some, Err, sym, refl, ap, ◌∙◌, subst}
use Rattle.account.specs.Books.{collected}
use Rattle.account.specs.Line.{collects}
use Rattle.queue.specs.Fifo.{take_answer}
use Rattle.readers.proofs.Lent.{lent_changed}
use Rattle.readers.specs.Readers.{kept, readers}
use Rattle.site.proofs.Events.{stands_collected}
use Rattle.site.proofs.Placed.{placed_as}
use Rattle.site.proofs.Site.collect.Goals as goal
use Rattle.site.specs.Sites.{Leads, begun, fault_of, seen, with_readers}
use Rattle.site.specs.Troubles.{is_made}
use Rattle.site.specs.declared.trouble.Trouble.TheVariants.{Refused}
use Rattle.std.proofs.lemmas.Result.{err_from_is_err_and}
use Rattle.std.specs.Option.{option_map}

pub returns : goal.returns
returns g c =
    let l = c.args.self.now.readers.all.items in
    let a = c.args.address in
    let w = c.collect-collected.new.self in
    let st = c.in_ok-station.station in
    let held = c.in_ok-station.ensures.value in
    let value = placed_as c.get_mut.result st held (λ y. y.now) _ c.get_mut.ensures.value in
    let reader = placed_as c.get_mut.result st held (λ y. kept y.now) _ c.get_mut.ensures.reader in
    let s = c.collect-collected.ensures in
    record {
      answer = ap (λ z. fault_of (Some z)) (sym c.in_ok-collected.was ∙ s.answer) ∙ ap (λ o. fault_of (option_map (λ y. take_answer y.reader.inbox.records) o)) reader;
      steps = λ v st. stands_collected g.F.Format _ _ v st refl refl a refl
          (lent_changed a l _ c.in_ok-station.station.now w collected value (c.get_mut.follows.holds w) s.shown);
    }

pub returns-in_err-collected : goal.returns-in_err-collected
returns-in_err-collected g c =
    let m = seen c.args.self.now in
    let l = c.args.self.now.readers.all.items in
    let a = c.args.address in
    let w = c.collect-collected.new.self in
    let st = c.in_ok-station.station in
    let held = c.in_ok-station.ensures.value in
    let value = placed_as c.get_mut.result st held (λ y. y.now) _ c.get_mut.ensures.value in
    let reader = placed_as c.get_mut.result st held (λ y. kept y.now) _ c.get_mut.ensures.reader in
    let s = c.collect-collected.ensures in
    let m' = begun (with_readers (readers (c.get_mut.follows.lender w)) m) in
    let r = c.from_residual-in_err-collected.result in
    let q = err_from_is_err_and r c.from_residual-in_err-collected.ensures.1 in
    let is : r ≡ Err (Refused c.in_err-collected.field-0.0) = q.1 ∙ ap Err q.2 in
    record {
      answer = is ∙ ap (λ z. fault_of (Some z)) (sym c.in_err-collected.was ∙ s.answer) ∙ ap (λ o. fault_of (option_map (λ y. take_answer y.reader.inbox.records) o)) reader;
      steps = subst (λ z. Leads g.F.Format (is_made z) m m' (λ v. collects a)) (sym is) (λ v st. stands_collected g.F.Format m m' v st refl refl a refl
          (lent_changed a l _ c.in_ok-station.station.now w collected value (c.get_mut.follows.holds w) s.shown));
    }
