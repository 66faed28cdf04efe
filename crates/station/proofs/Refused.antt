-- What the books show after a refusal, and after an offer that was accepted.
use Rattle.std.proofs.Common.{◌≡◌, ℕ, Bool, false, cond, Some, None, Ok, Err, Option, Result, sym, refl, ◌∙◌}
use Rattle.books.specs.Calls.{class_seen, heard_seen, offered_seen}
use Rattle.books.specs.Seen.{Seen}
use Rattle.fault.specs.declared.Fault.{Fault}
use Rattle.frame.specs.declared.Format.{Ghosts}
use Rattle.queue.specs.Fifo.{put_answer}
use Rattle.reader.specs.Hearing.{heard_answer}
use Rattle.rules.specs.Reader.{Offered, Reader, Turn, accepted, class_queue, declined, offer_answer, offer_as, offer_into}
use Rattle.rules.specs.declared.message.Message.{Message}
use Rattle.rules.specs.declared.records.Class.{Class}
use Rattle.std.proofs.lemmas.Bool.{cond-false}

pub unless_lacking : {A : Type 0} {x z : A} (lacking : Bool) (y : A) → lacking ≡ false → x ≡ z → x ≡ cond lacking y z
unless_lacking {z = z} lacking y had e = e ∙ sym (cond-false lacking y z had)

pub refused_seen : {X : Type 0} (F : Ghosts X) (n : ℕ) (t : Result Turn Fault) (f : Fault) (v : Seen) → Err f ≡ heard_answer F t → v ≡ heard_seen n t v
refused_seen F n (Err g) f v e = refl
refused_seen F n (Ok t) f v e = cc

pub declined_seen : (o : Offered) (f : Fault) (v : Seen) → Err f ≡ offer_answer o → v ≡ offered_seen o v
declined_seen (declined g) f v e = refl
declined_seen (accepted c m r) f v e = cc

put_seen : (p : Result (Unit {0}) Fault) (c : Class) (m : Message) (r : Reader) (v : Seen) → Ok tt ≡ offer_answer (offer_into p c m r) → class_seen (Some c) v ≡ offered_seen (offer_into p c m r) v
put_seen (Err f) c m r v e = cc
put_seen (Ok u) c m r v e = refl

-- an offer that is accepted is of a class
pub accepted_seen :
    (m : Result Message Fault) (c : Option Class) (r : Reader) (v : Seen) →
    Ok tt ≡ offer_answer (offer_as m c r) →
    class_seen c v ≡ offered_seen (offer_as m c r) v
accepted_seen (Err f) c r v e = cc
accepted_seen (Ok m) None r v e = cc
accepted_seen (Ok m) (Some c) r v e = put_seen (put_answer (class_queue c r).room (class_queue c r).records) c m r v e
