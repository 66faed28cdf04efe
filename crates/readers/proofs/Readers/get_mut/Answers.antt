use Rattle.std.proofs.Common.{refl, sym, ap, ◌∙◌}
use Rattle.readers.proofs.Lent.{lent_at, lent_here, lent_none, none_here}
use Rattle.readers.proofs.Readers.get_mut.Goals as goal
use Rattle.readers.specs.Readers.{kept}
use Rattle.std.specs.Option.{ghost_name_of, option_map}

pub returns : goal.returns
returns g c =
    let a = c.args.address in
    let l = c.args.self.now.all.items in
    let x = c.station_mut.result.now in
    let p = lent_at a l c.in_ok-place.place (sym c.in_ok-place.ensures.place) in
    let e = sym (p.0 x c.station_mut.ensures.value) in
    ((refl, p.1, refl), record { writes_back = tt; value = e; reader = sym (lent_here a l x e) })

pub returns-in_err-place : goal.returns-in_err-place
returns-in_err-place g c =
    let a = c.args.address in
    let l = c.args.self.now.all.items in
    let p = lent_none a l (sym c.in_err-place.ensures.place) in
    let e = c.from_residual.ensures in (
      (sym (ap ghost_name_of e), p.1, refl),
      record { writes_back = tt; value = ap (option_map (λ x. x.now)) e ∙ sym p.0; reader = ap (option_map (λ x. kept x.now)) e ∙ sym (none_here a l (sym p.0)) },
    )
