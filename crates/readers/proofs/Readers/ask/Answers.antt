use Rattle.std.proofs.Common.{cond, is_ok, ap}
use Rattle.account.specs.Books.{Station, asked}
use Rattle.readers.proofs.Lent.{lent_changed, lent_ready, none_changed}
use Rattle.readers.proofs.Readers.ask.Goals as goal

pub returns-in-Some : goal.returns-in-Some
returns-in-Some g c =
    let a = c.args.address in
    let l = c.args.self.now.all.items in
    let x = c.in-Some.station.now in
    let w = c.asked.new.self in
    let e = c.in-Some.ensures.value in
    let q = c.get_mut.follows.holds w in
    let s = c.asked.ensures in
    record {
      shown = lent_changed a l _ x w (λ (y : Station). cond (is_ok c.asked.result) (asked c.args.request y) y) e q s.shown;
      sure = λ k. s.sure (lent_ready a l _ x w e q k);
    }

pub returns-in-None-clause-shown : goal.returns-in-None-clause-shown
returns-in-None-clause-shown g c = none_changed c.args.address c.args.self.now.all.items _ _ c.in-None.ensures.value (ap (λ r. r.all.items) c.get_mut.follows.holds-at-none)
