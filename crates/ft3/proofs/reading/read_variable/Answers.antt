use Rattle.std.proofs.Common.{◌≡◌, ◌+◌, ◌*◌, drop, Err, sym, ap, ◌∙◌, arith}
use Rattle.frame.specs.Contents.{content_read, filled_record}
use Rattle.ft3.specs.Verdicts.{block_checked, variable_verdict}
use Rattle.ft3.proofs.Records.{ceiling, read_bad, read_next, variable_bad}
use Rattle.ft3.proofs.reading.read_variable.Goals as goal
use Rattle.std.proofs.lemmas.Result.{err_from_is_err_and}

pub returns-in_err-check_block : goal.returns-in_err-check_block
returns-in_err-check_block c =
    let os = c.args.octets.now in
    let n = c.args.count in
    let source = c.loop-i.i-iterator in
    let steps = c.in-Some.ensures.steps in
    let p = err_from_is_err_and c.from_residual.result c.from_residual.ensures.1 in
    let f = c.in_err-check_block.field-0.0 in
    let here : 7 + 18 * source.count ≡ 7 + c.in-Some.i * 18 = omega (arith, steps.1) in
    let bad : variable_verdict os n ≡ Err f =
    variable_bad os n f (omega (arith, ceiling n c.div_ceil.result c.div_ceil.ensures))
    (read_bad (drop 7 os) c.loop-i.opened source.iter.rest.now c.in-Some.block.now c.next.new.self.iter.rest.now n _ (7 + 18 * source.count) source.iter.size f
    c.loop-i.invariant.read c.loop-i.invariant.size steps.0.1.0 steps.0.1.1 steps.0.1.2 (ap (λ q. block_checked q c.in-Some.block.now) here ∙ sym c.in_err-check_block.ensures))
    in
    record { answer = p.1 ∙ ap Err p.2 ∙ ap content_read (sym bad); filled = ap (λ v. filled_record v c.args.user.now) (sym bad) }

pub loop-i-preserved : goal.loop-i-preserved
loop-i-preserved c =
    let source = c.loop-i.i-iterator in
    let steps = c.in-Some.ensures.steps in
    record {
      size = steps.0.0 ∙ c.loop-i.invariant.size;
      read = read_next (drop 7 c.args.octets.now) c.loop-i.opened source.iter.rest.now c.in-Some.block.now c.next.new.self.iter.rest.now c.copy_from_slice.new.self c.args.count source.count c.next.new.self.count c.in-Some.i source.iter.size
          c.loop-i.invariant.read c.requires.1.1 c.loop-i.invariant.size steps.0.1.0 steps.0.1.1 steps.0.1.2 steps.1 steps.2 (sym c.in_ok-check_block.ensures) c.copy_from_slice.ensures.after;
    }
