use Rattle.std.proofs.Common.{◌≡◌, List, [], ◌∷◌, Err, sym, refl, rules}
use Rattle.fault.specs.declared.Fault.{Fault}
use Rattle.queue.specs.Fifo.{take_answer}
use Rattle.reader.specs.View.{view}
use Rattle.rules.specs.Reader.{class_queue, give_out}
use Rattle.rules.specs.declared.message.Message.{Message}
use Rattle.reader.proofs.Reader.give_out.Goals as goal

-- a take that is refused finds nothing
none_left : (ms : List Message) (f : Fault) → take_answer ms ≡ Err f → ms ≡ []
none_left [] f e = refl
none_left (m ∷ ms) f e = cc

pub returns-in-Err : goal.returns-in-Err
unfolding give_out
returns-in-Err g c =
    let nothing : (class_queue c.args.class (view g.S.Slots.items c.args.self.now)).records ≡ [] = none_left _ _ (sym c.in-Err.ensures.answer) in
    simp nothing (search rules)
