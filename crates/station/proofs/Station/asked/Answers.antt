use Rattle.std.proofs.Common.{is_ok, refl}
use Rattle.station.proofs.Station.asked.Goals as goal
use Rattle.station.proofs.Steps.{asked-step}

pub returns : goal.returns
returns g c =
    let x = c.args.self.now in
    let noted = c.asked.ensures.noted in
    record {
      moved = refl;
      noted = noted;
      shown = asked-step x (record { reader = x.reader; books = c.asked.new.self }) (is_ok c.asked.result) c.args.request refl noted;
      sure = c.asked.ensures.sure;
    }
