use Rattle.std.proofs.Common.{◌+◌, cond, get_or, take, Err, sym, ap, ◌∙◌, subst}
use Rattle.damage.proofs.Flips.{Inverting, given_before, inverting-more, inverting_none, may-invert, passed, refusal, refused}
use Rattle.damage.proofs.invert_all.Goals as goal
use Rattle.damage.specs.Damages.{differs, flipped, inverted, twice}
use Rattle.damage.specs.declared.Flip.{Flip}
use Rattle.std.proofs.lemmas.List.{take_all}
use Rattle.std.proofs.lemmas.Result.{err_from_is_err_and}

abbrev none : Flip
none = record { place = 0; bit = 0 }

pub loop-flip-init : goal.loop-flip-init
loop-flip-init c = inverting_none c.args.sent.now c.args.heard.now c.requires.0

pub invert-requires : goal.invert-requires
invert-requires c =
    may-invert c.args.sent.now c.loop-flip.heard c.args.flips.now c.loop-flip.flip-index none c.loop-flip-test.true c.loop-flip.invariant c.requires.1

pub returns-in_err-invert-clause-answer : goal.returns-in_err-invert-clause-answer
returns-in_err-invert-clause-answer c =
    let fs = c.args.flips.now in
    let f = get_or fs c.loop-flip.flip-index none in
    let told = refused (differs f c.loop-flip.heard c.args.sent.now) c.invert.result _ c.invert.ensures.answer c.in_err-invert.was in
    let again = given_before c.args.sent.now c.loop-flip.heard fs c.loop-flip.flip-index none c.loop-flip-test.true c.loop-flip.invariant told.0 in
    let p = err_from_is_err_and c.from_residual.result c.from_residual.ensures.1 in
    p.1 ∙ ap Err (p.2 ∙ told.1) ∙ sym (ap refusal again)

pub loop-flip-preserved : goal.loop-flip-preserved
loop-flip-preserved c =
    let fs = c.args.flips.now in
    let i = c.loop-flip.flip-index in
    let sent = c.args.sent.now in
    let heard = c.loop-flip.heard in
    let f = get_or fs i none in
    let off = passed (differs f heard sent) c.invert.result c.invert.ensures.answer c.in_ok-invert.was in
    let here = (may-invert sent heard fs i none c.loop-flip-test.true c.loop-flip.invariant c.requires.1).1.0 in
    subst (λ ss. Inverting sent ss (take (i + 1) fs)) (sym (c.invert.ensures.after ∙ ap (λ b. cond b heard (inverted f heard)) off)) (inverting-more sent heard fs i none c.loop-flip-test.true c.loop-flip.invariant here off)

pub returns : goal.returns
returns c =
    let fs = c.args.flips.now in
    let all = take_all c.loop-flip.flip-index fs c.loop-flip-test.false in
    let inv = c.loop-flip.invariant in
    record {
      answer = sym (ap refusal (sym (ap twice all) ∙ inv.once));
      after = inv.far ∙ ap (λ gs. flipped gs c.args.sent.now) all;
    }
