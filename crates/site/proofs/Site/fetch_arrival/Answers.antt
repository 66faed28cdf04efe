use Rattle.std.proofs.Common.{refl}
use Rattle.site.proofs.Events.{arrival_taken}
use Rattle.site.proofs.Fetched.{fetched_shows}
use Rattle.site.proofs.Site.fetch_arrival.Goals as goal
use Rattle.site.specs.Sites.{seen}

pub returns : goal.returns
returns g c =
    let s = c.fetch_arrival.ensures in
    let m = seen c.args.self.now in
    record { answer = s.answer; steps = λ w st. arrival_taken g.F.Format m _ w st refl refl s.moved (fetched_shows m.concentrator.arrivals.records m.readers) }
