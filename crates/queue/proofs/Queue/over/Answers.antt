use Rattle.std.proofs.Common.{refl}
use Rattle.queue.proofs.Held.{just_made}
use Rattle.queue.proofs.Queue.over.Goals as goal

pub returns : goal.returns
returns g c =
    let m = just_made g.S.Slots.items _ refl refl in
    record { held = m.0; room = m.1; store = refl; first = refl }
