use Rattle.std.proofs.Common.{rules, tests}
use Rattle.readers.proofs.Lent.{Elsewhere, Here, place_found}
use Rattle.readers.proofs.Readers.find.Goals as goal
use Rattle.std.proofs.lemmas.Iterator.{IsFirst-from_position, YieldsList-from_slice}

pub returns-clause-place : goal.returns-clause-place
returns-clause-place g c =
    let l = c.args.self.now.all.items in
    let a = c.args.address in
    place_found a l c.position.result
    (IsFirst-from_position _ _ c.position.result (Here a) (Elsewhere a) c.position.ensures.ran (YieldsList-from_slice l cc) (λ x q k. search (rules, tests)) (λ x q k. search (rules, tests)))
