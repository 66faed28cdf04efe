use Rattle.std.proofs.Common.{◌≡◌, sym, subst, rules}
use Rattle.concentrator.specs.View.{view}
use Rattle.rules.proofs.Room.{hear_appends}
use Rattle.rules.specs.Concentrator.{hear}
use Rattle.rules.specs.Exchanges.{heard_after}
use Rattle.rules.specs.Room.{HearAppends, flags_read}
use Rattle.rules.specs.Telegrams.{telegram_read}
use Rattle.concentrator.proofs.Concentrator.hear.Goals as goal

pub returns : goal.returns
returns g c =
    let p = g.P.Slots.items in
    let q = g.Q.Slots.items in
    let k = view p q c.args.self.now in
    let heard = telegram_read (g.F.Format.verdict c.args.burst.now) in
    let moved : view p q c.close.new.self ≡ heard_after (hear heard k) k = search rules in
    record {
      answer = search rules;
      moved = moved;
      refused = search rules;
      kept = search rules;
      appended = λ room. subst (HearAppends (flags_read heard) (hear heard k) k) (sym moved) (hear_appends heard k room);
    }
