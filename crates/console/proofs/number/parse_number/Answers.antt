use Rattle.std.proofs.Common.{◌≡◌, Some, get_or, sym, ◌∙◌, arith, rules}
use Rattle.console.proofs.Numbers.{number_is, one_digit, no_more}
use Rattle.console.specs.Numbers.{digit_of}
use Rattle.console.proofs.number.parse_number.Goals as goal

pub loop-byte-preserved : goal.loop-byte-preserved
loop-byte-preserved c =
    let some : digit_of c.args.radix (get_or c.args.word.now c.loop-byte.byte-index 0) ≡ Some c.in_ok-digit.digit = search rules in
    (omega arith, one_digit _ _ _ _ _ _ _ _ c.loop-byte-test.true some c.ranges.most.fits c.base.ensures c.min-value.ensures ∙ c.loop-byte.invariant.1)

pub returns : goal.returns
returns c =
    c.limit.ensures ∙ sym (number_is _ _ _ (sym c.if-is_empty.ensures) ∙ sym c.loop-byte.invariant.1 ∙ no_more _ _ _ _ _ c.loop-byte-test.false)
