use Rattle.std.proofs.Common.{◌≡◌, ℕ, ◌≤◌, not, length, Err, rules, tests, sym, ap, ◌∙◌, arith}
use Rattle.frame.proofs.Bursts.{broken_at, line_is, symbols_position}
use Rattle.frame.proofs.check_burst.Goals as goal
use Rattle.frame.proofs.check_burst.Goals.{After-position}
use Rattle.frame.specs.Verdicts.{line_checked}
use Rattle.std.proofs.lemmas.Bool.Decides.{nat_tests}
use Rattle.std.proofs.lemmas.Iterator.{YieldsList-from_slice}
use Rattle.std.proofs.lemmas.Iterator.Adapters.{position_from-zero}
use Rattle.std.proofs.lemmas.Iterator.Search.{position_from_yields_List}

line : (g : _) (c : After-position g) → line_checked g.A.Alphabet.sound c.args.longest c.args.burst.now ≡ broken_at c.position.result
line g c =
    let b = c.args.burst.now in
    let sound = g.A.Alphabet.sound in
    let broken = λ (s : ℕ). not (sound s) in
    let found = position_from_yields_List broken _ _ c.position.result c.position.ensures.ran (YieldsList-from_slice b c.iter.ensures.rest) (λ x r q k. search (rules, tests)) ∙ position_from-zero broken b in
    let some : 1 ≤ length b = grind (arith, nat_tests) in
    line_is sound c.args.longest b some c.if-burst-longest.false ∙ symbols_position sound 0 b ∙ ap broken_at (sym found)

pub returns-in-Some : goal.returns-in-Some
returns-in-Some g c = ap Err c.at.ensures ∙ sym (line g (goal.at.returns-in-Some g c).After-position ∙ ap broken_at c.in-Some.is)

pub returns-in-None : goal.returns-in-None
returns-in-None g c = sym (line g (goal.at.returns-in-None g c).After-position ∙ ap broken_at c.in-None.is)
