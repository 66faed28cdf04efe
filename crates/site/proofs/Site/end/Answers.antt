use Rattle.std.proofs.Common.{cond, sym, refl, subst}
use Rattle.account.specs.Books.{change, ended}
use Rattle.readers.specs.Pairs.{Changes}
use Rattle.readers.specs.Readers.{ShowsReader, readers}
use Rattle.site.proofs.Site.end.Goals as goal
use Rattle.site.specs.Sites.{Concluded, ReadyFor, seen, with_readers}

pub returns-in-Some : goal.returns-in-Some
returns-in-Some g c =
    let s = c.args.self.now in
    let x = c.in-Some.exchange in
    let n = c.args.number in
    let ok = c.end.ensures.sure (subst (λ z. ReadyFor z s.readers) c.in-Some.is c.requires) in
    subst (λ z. Concluded z n c.args.outcome (seen s) (with_readers (readers c.end.new.self) (seen s))) (sym c.in-Some.is)
    (refl, λ e o. subst (λ z. Changes ShowsReader (readers s.readers) (readers c.end.new.self) (change x.station (λ y. cond z (ended n x.request e y) y))) ok (c.end.ensures.shown e o), refl, refl)
