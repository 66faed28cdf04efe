use Rattle.std.proofs.Common.{[], ◌∷◌, ◌++◌, map, ap, ◌∙◌}
use Rattle.readers.specs.Readers.{kept}
use Rattle.std.proofs.lemmas.List.{map_push}
use Rattle.readers.proofs.Readers.join.Goals as goal

pub returns : goal.returns
returns g c =
    let x = c.in_ok-station.station in
    (kept x, ap (map kept) (c.push_reserved.ensures.items ∙ ap (λ l. l ++ x ∷ []) c.reserve.ensures.items) ∙ map_push kept c.args.self.now.all.items x, c.in_ok-station.ensures.shown)
