use Rattle.std.proofs.Common.{◌≡◌, Some, refl, ap, ◌∙◌, subst, MatchOption}
use Rattle.account.specs.Books.{restarted}
use Rattle.readers.proofs.Lent.{lent_changed}
use Rattle.rules.specs.Reader.{marked as mark_of, record_after}
use Rattle.rules.specs.declared.records.Mark.TheVariants.{Doubtful}
use Rattle.site.proofs.Events.{stands_restarted}
use Rattle.readers.specs.Readers.{kept}
use Rattle.site.proofs.Placed.{placed_as}
use Rattle.site.proofs.Site.restart.Goals as goal
use Rattle.site.specs.Sites.{always}
use Rattle.std.specs.Option.{option_map}

pub returns : goal.returns
returns g c =
    let l = c.args.self.now.readers.all.items in
    let a = c.args.address in
    let x = c.in_ok-station.station.now in
    let w = c.restart-mark.new.self in
    let st = c.in_ok-station.station in
    let held = c.in_ok-station.ensures.value in
    let value = placed_as c.get_mut.result st held (λ y. y.now) _ c.get_mut.ensures.value in
    let reader = placed_as c.get_mut.result st held (λ y. kept y.now) _ c.get_mut.ensures.reader in
    let s = c.restart-mark.ensures in
    let old = c.args.marked.now in
    let new = c.restart-mark.new.marked in
    record {
      answer = ap (λ z. always (Some z)) s.answer ∙ ap (λ o. always (option_map (λ y. mark_of Doubtful y.reader.out) o)) reader;
      kept = subst (λ o. MatchOption o (new ≡ old) (λ y. new ≡ record_after (mark_of Doubtful y.reader.out) y.reader.out old)) reader s.kept;
      steps = λ v st. stands_restarted g.F.Format _ _ v st refl refl a refl
          (lent_changed a l _ x w restarted value (c.get_mut.follows.holds w) s.shown);
    }
