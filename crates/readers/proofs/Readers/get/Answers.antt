use Rattle.std.proofs.Common.{sym, ap, ◌∙◌}
use Rattle.readers.proofs.Lent.{lent_at, lent_here, lent_none, none_here}
use Rattle.readers.proofs.Readers.get.Goals as goal
use Rattle.readers.specs.Readers.{kept}
use Rattle.std.specs.Option.{option_map}

pub returns : goal.returns
returns g c =
    let a = c.args.address in
    let l = c.args.self.now.all.items in
    let x = c.index.result.now in
    let p = lent_at a l c.in_ok-find.field-0 (sym c.in_ok-find.ensures.place) in
    sym (lent_here a l x (sym (p.0 x c.index.ensures)))

pub returns-in_err-find : goal.returns-in_err-find
returns-in_err-find g c =
    let a = c.args.address in
    let l = c.args.self.now.all.items in
    ap (option_map (λ x. kept x.now)) c.from_residual.ensures ∙ sym (none_here a l (sym (lent_none a l (sym c.in_err-find.ensures.place)).0))
