use Rattle.std.proofs.Common.{sym, refl, subst, arith}
use Rattle.line.proofs.Line.arrive.Goals as goal
use Rattle.line.proofs.Lines.{bound, counted_less, view_less}
use Rattle.line.proofs.Ways.{taken}
use Rattle.line.specs.Lines.{view}
use Rattle.line.specs.Ways.{Taken}
use Rattle.std.proofs.lemmas.Bool.{true≢false}

pub index_mut-requires : goal.index_mut-requires
index_mut-requires c = (bound c.args.self.now c.args.end c.args.k (sym c.if-not-is_on_way.ensures)).there

pub bounds-index_mut-end : goal.bounds-index_mut-end
bounds-index_mut-end c =
    let l = c.args.self.now in
    let here = (bound l c.args.end c.args.k (sym c.if-not-is_on_way.ensures)).joined in
    let most = l.most in
    omega arith

pub overflow_sub-self : goal.overflow_sub-self
overflow_sub-self c =
    let less = counted_less c.args.self.now c.args.end c.args.k c.index_mut.result.now (sym c.if-not-is_on_way.ensures) c.index_mut.ensures.value in
    omega arith

pub invariant_of-self : goal.invariant_of-self
invariant_of-self c =
    let l = c.args.self.now in
    let less = counted_less l c.args.end c.args.k c.index_mut.result.now (sym c.if-not-is_on_way.ensures) c.index_mut.ensures.value in
    record { most = l.most; past = l.past; counted = omega arith }

pub returns : goal.returns
returns c =
    let l = c.args.self.now in
    let e = c.args.end in
    let k = c.args.k in
    let on = sym c.if-not-is_on_way.ensures in
    let after = view_less l e k c.index_mut.result.now on c.index_mut.ensures.value in
    record {
      answer = c.if-not-is_on_way.ensures;
      after = after;
      taken = λ _. subst (Taken e k (view l)) (sym after) (taken e k (view l) on);
      refused = λ no. absurd (true≢false no);
      room = refl;
    }
