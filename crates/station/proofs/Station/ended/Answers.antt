use Rattle.std.proofs.Common.{is_ok, refl}
use Rattle.station.proofs.Station.ended.Goals as goal
use Rattle.station.proofs.Steps.{ended-step}

pub returns : goal.returns
returns g c =
    let x = c.args.self.now in
    let noted = c.ended.ensures.noted in
    record {
      moved = refl;
      noted = noted;
      shown = ended-step x (record { reader = x.reader; books = c.ended.new.self }) (is_ok c.ended.result) c.args.number c.args.request c.args.outcome refl noted;
      sure = c.ended.ensures.sure;
    }
