use Rattle.std.proofs.Common.{◌∙◌, rules, tests}
use Rattle.damage.proofs.Flips.{within_all}
use Rattle.damage.proofs.are_within.Goals as goal
use Rattle.damage.specs.Damages.{is_within}
use Rattle.std.proofs.lemmas.Iterator.{YieldsList-from_slice}
use Rattle.std.proofs.lemmas.Iterator.Search.{all_from_yields_List}

pub returns : goal.returns
returns c =
    let fs = c.args.flips.now in
    all_from_yields_List (is_within c.args.count c.args.width) _ _ c.all.result c.all.ensures.ran (YieldsList-from_slice fs cc) (λ x b q k. search (rules, tests)) ∙
    within_all c.args.count c.args.width fs
