use Rattle.std.proofs.Common.{length, take, sym, ap, ◌∙◌}
use Rattle.frame.specs.Contents.{content_read, filled_record}
use Rattle.ft3.proofs.Ft3Format.read.Goals as goal
use Rattle.ft3.specs.VerdictsLemmas.{burst_verdict}

pub returns : goal.returns
returns c =
    let b = c.args.burst.now in
    let same = burst_verdict b (take (length b) c.open_burst.new.octets) (sym c.in_ok-open_burst.ensures.answer) c.in_ok-open_burst.ensures.opened in
    record { answer = c.read_octets.ensures.answer ∙ ap content_read same; filled = c.read_octets.ensures.filled ∙ ap (λ v. filled_record v c.args.user.now) same }
