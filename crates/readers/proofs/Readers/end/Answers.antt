use Rattle.std.proofs.Common.{cond, is_ok, ap}
use Rattle.account.specs.Books.{Station, ended}
use Rattle.readers.proofs.Lent.{lent_changed, lent_ready, none_changed}
use Rattle.readers.proofs.Readers.end.Goals as goal

pub returns-in-Some : goal.returns-in-Some
returns-in-Some g c =
    let a = c.args.address in
    let l = c.args.self.now.all.items in
    let x = c.in-Some.station.now in
    let w = c.ended.new.self in
    let e = c.in-Some.ensures.value in
    let q = c.get_mut.follows.holds w in
    let s = c.ended.ensures in
    record {
      shown = λ k o. lent_changed a l _ x w (λ (y : Station). cond (is_ok c.ended.result) (ended c.args.number c.args.request k y) y) e q (s.shown k o);
      sure = λ k. s.sure (lent_ready a l _ x w e q k);
    }

pub returns-in-None-clause-shown : goal.returns-in-None-clause-shown
returns-in-None-clause-shown g c k o = none_changed c.args.address c.args.self.now.all.items _ _ c.in-None.ensures.value (ap (λ r. r.all.items) c.get_mut.follows.holds-at-none)
