use Rattle.readers.proofs.Lent.{lent_same, ready_now}
use Rattle.readers.proofs.Readers.reserve.Goals as goal

pub returns-in-Some : goal.returns-in-Some
returns-in-Some g c =
    let a = c.args.address in
    let l = c.args.self.now.all.items in
    let x = c.in-Some.station.now in
    let w = c.reserve.new.self in
    let e = c.in-Some.ensures.value in
    let q = c.get_mut.follows.holds w in
    let s = c.reserve.ensures in
    record { same = lent_same a l _ x w e q s.moved s.noted; ready = λ ok. ready_now a l _ x w e q s.moved s.noted (s.ready ok) }
