use Rattle.std.proofs.Common.{◌≡◌, ℕ, ◌+◌, ◌<◌, ◌≤◌, true, false, ltb, Ok, Err, Result, OnOk, OnErr, MatchResult, ap, arith}
use Rattle.line.proofs.Line.reserve.Goals as goal
use Rattle.line.specs.Bursts.{flights}
use Rattle.std.proofs.lemmas.Bool.{le-ltb, lt-ltb}

-- room for one more, told from the lengths and the capacities before and after
room_told :
    {X Y : Type 0} (r : Result X Y) (n m n' m' : ℕ) →
    OnOk r (n' + 1 ≤ m') →
    OnErr r (m < n + 1) →
    MatchResult r (λ _. ltb n' m' ≡ true) (λ _. ltb n m ≡ false)
room_told (Ok x) n m n' m' h g = lt-ltb n' m' (omega (arith, h))
room_told (Err e) n m n' m' h g = le-ltb n m (omega (arith, g))

pub returns : goal.returns
returns c =
    let l = c.args.self.now in
    let v = c.reserve.new.self in
    record {
      room = room_told c.reserve.result l.bursts.len l.bursts.cap v.len v.cap c.reserve.ensures.ok c.reserve.ensures.full;
      same = ap (λ bs. record { bursts = flights l.ends bs; quiet = l.quiet; ends = l.ends }) c.reserve.ensures.items;
    }
