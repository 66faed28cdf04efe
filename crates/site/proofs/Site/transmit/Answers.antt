use Rattle.std.proofs.Common.{Ok, sym, ap, subst}
use Rattle.site.proofs.Site.transmit.Goals as goal
use Rattle.site.specs.Sites.{ReadyOnce, Transmitted, seen}

pub note_request-number-requires : goal.note_request-number-requires
note_request-number-requires g c =
    subst (λ z. ReadyOnce z (seen c.args.self.now).concentrator.exchange c.args.self.now.readers) c.in_ok-count.was c.requires.1

pub returns : goal.returns
returns g c =
    subst (λ z. Transmitted z c.args.buffer.items (seen c.args.self.now) (seen c.launch.new.self) (Ok c.launch.result)) (sym c.in_ok-count.was)
    (c.note_request-number.result, seen c.note_request-number.new.self, c.note_request-number.ensures.noted, c.launch.ensures.moved, ap Ok c.launch.ensures.answer)
