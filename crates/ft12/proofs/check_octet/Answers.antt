use Rattle.std.proofs.Common.{◌≡◌, ◌+◌, ◌%◌, ◌∙◌, refl, arith, rules}
use Rattle.ft12.proofs.check_octet.Goals as goal
use Rattle.std.proofs.iter.runs.Made.{chains}
use Rattle.std.proofs.lemmas.List.Folds.{fold_along}
use Rattle.std.specs.List.{fold}

pub returns : goal.returns
returns c =
    let os = c.args.octets.now in
    let folded : c.fold.result ≡ fold (λ s x. (s + x) % 256) 0 os = search (rules, chains) in
    folded ∙ fold_along (λ s x. (s + x) % 256) (λ s x. s + x) (λ s t. s ≡ t % 256) (λ s t x e. omega arith) 0 0 os refl
