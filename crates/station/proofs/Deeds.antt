-- What a hearing does to the queues of the two classes.
use Rattle.std.proofs.Common.{◌≡◌, ℕ, suc, Bool, true, false, cond, not, eqb, ltb, List, [], ◌∷◌, length, Some, None, Ok, Err, Option, Result, refl, ap, ◌∙◌, arith}
use mathlib.Core.Bool.{beq}
use Rattle.books.specs.Calls.{class_given, heard_seen, noted_seen}
use Rattle.books.specs.Seen.{Seen}
use Rattle.fault.specs.Causes.{fault}
use Rattle.fault.specs.declared.Cause.TheVariants.{OtherAddress, ShortBuffer, WrongControl, WrongSender}
use Rattle.fault.specs.declared.Fault.{Fault}
use Rattle.frame.specs.Controls.{bit, code_of}
use Rattle.frame.specs.Verdicts.{must}
use Rattle.frame.specs.declared.Format.{Ghosts}
use Rattle.frame.specs.declared.control.Control.{Control}
use Rattle.reader.specs.Hearing.{heard_answer}
use Rattle.reader.specs.declared.Heard.{Heard}
use Rattle.rules.specs.Functions.{function_of}
use Rattle.rules.specs.Reader.{Ask, Deed, Reader, Task, Turn, addressed, answer, asked, bare, busy, class_queue, count, counted, gave, give, give_out, hear, hear_after, hear_read, hear_telegram, improper, perform, repeat, reset, status, still, take, take_in, took, took_in, unknown}
use Rattle.rules.specs.Telegrams.{carried}
use Rattle.rules.specs.declared.message.Message.{Message}
use Rattle.rules.specs.declared.records.Class.{Class}
use Rattle.rules.specs.declared.records.Class.TheVariants.{First, Second}
use Rattle.rules.specs.declared.telegram.Telegram.{Telegram}
use Rattle.rules.specs.declared.telegram.Telegram.TheVariants.{Single, Fixed, Variable}
use Rattle.station.specs.Noted.{shorter, waits}
use Rattle.std.proofs.lemmas.Bool.{cond-false, cond-true, le-ltb, lt-ltb}

-- how many waited in each class before, by what a hearing did
abbrev pub Waited : Deed → Reader → Reader → Type 0
Waited still r after = (waits First r ≡ waits First after) × (waits Second r ≡ waits Second after)
Waited (took m) r after = (waits First r ≡ waits First after) × (waits Second r ≡ waits Second after)
Waited busy r after = (waits First r ≡ waits First after) × (waits Second r ≡ waits Second after)
Waited (gave First m) r after = (waits First r ≡ suc (waits First after)) × (waits Second r ≡ waits Second after)
Waited (gave Second m) r after = (waits First r ≡ waits First after) × (waits Second r ≡ suc (waits Second after))
Waited bare r after = (waits First r ≡ waits First after) × (waits Second r ≡ waits Second after)

abbrev pub Turned : Reader → Result Turn Fault → Type 0
Turned r (Err f) = Unit {0}
Turned r (Ok t) = Waited t.deed r t.reader

taken : (full : Bool) (m : Message) (r : Reader) → Turned r (take_in full m r)
unfolding take_in
taken true m r = (refl, refl)
taken false m r = (refl, refl)

-- what is to be given stands in the class's queue
given : (ms : List Message) (c : Class) (r : Reader) → (class_queue c r).records ≡ ms → Turned r (give_out ms c r)
unfolding give_out
given [] c r e = (refl, refl)
given (m ∷ ms) First r e = (ap length e, refl)
given (m ∷ ms) Second r e = (refl, ap length e)

repeated : (stored : Option Telegram) (r : Reader) → Turned r (repeat stored r)
unfolding repeat
repeated None r = tt
repeated (Some t) r = (refl, refl)

performed : (t : Task) (r : Reader) → Turned r (perform t r)
performed (take m) r = taken _ m r
performed (give c) r = given _ c r refl

counts : (set same : Bool) (t : Task) (r : Reader) → Turned r (count set same t r)
counts false same t r = tt
counts true false t r = repeated r.stored r
counts true true t r = performed t r

answers : (a : Ask) (r : Reader) → Turned r (answer a r)
answers reset r = (refl, refl)
answers status r = (refl, refl)
answers unknown r = (refl, refl)
answers improper r = tt
answers (counted b t) r = counts r.link.set (beq b r.link.next) t r

unless : (r : Reader) (test : Bool) (f : Fault) (x : Result Turn Fault) → Turned r x → Turned r (must test f x)
unless r true f x h = h
unless r false f x h = tt

unless_any :
    (r : Reader) (a b c : Bool) (f g h : Fault) (x : Result Turn Fault) →
    Turned r x →
    Turned r (must a f (must b g (must c h x)))
unless_any r a b c f g h x t = unless r a f (must b g (must c h x)) (unless r b g (must c h x) (unless r c h x t))

addresses : (c : Control) (a : ℕ) (m : Option Message) (r : Reader) → Turned r (addressed c a m r)
addresses c a m r =
    let ask = asked (function_of (code_of c.octet)) (bit 16 c.octet) (bit 32 c.octet) m in
    unless_any r (bit 64 c.octet) (eqb a r.address) (not (bit 128 c.octet)) (fault WrongSender 0) (fault OtherAddress 0) (fault WrongControl 0) (answer ask r) (answers ask r)

hears : (t : Telegram) (r : Reader) → Turned r (hear_telegram t r)
unfolding hear_telegram
hears Single r = tt
hears (Fixed c a) r = addresses c a None r
hears (Variable c a m) r = addresses c a (Some m) r

reads : (t : Result Telegram Fault) (r : Reader) → Turned r (hear_read t r)
reads (Err f) r = tt
reads (Ok t) r = hears t r

-- what a hearing does to them
pub turned : (short : Bool) (t : Result Telegram Fault) (r : Reader) → Turned r (hear short t r)
turned short t r = unless r (not short) (fault ShortBuffer 0) (hear_read t r) (reads t r)

-- what is told from the two queues is what was done
none_shorter : (a b : ℕ) (r : Reader) → a ≡ waits First r → b ≡ waits Second r → shorter a b r ≡ None
none_shorter a b r p q =
    cond-false (ltb (waits First r) a) (Some First) (cond (ltb (waits Second r) b) (Some Second) None) (le-ltb (waits First r) a (omega arith)) ∙
    cond-false (ltb (waits Second r) b) (Some Second) None (le-ltb (waits Second r) b (omega arith))

told_apart : (d : Deed) (r after : Reader) → Waited d r after → shorter (waits First r) (waits Second r) after ≡ class_given d
told_apart still r after h = none_shorter (waits First r) (waits Second r) after h.0 h.1
told_apart (took m) r after h = none_shorter (waits First r) (waits Second r) after h.0 h.1
told_apart busy r after h = none_shorter (waits First r) (waits Second r) after h.0 h.1
told_apart (gave First m) r after h =
    cond-true (ltb (waits First after) (waits First r)) (Some First) (cond (ltb (waits Second after) (waits Second r)) (Some Second) None) (lt-ltb (waits First after) (waits First r) (omega (arith, h.0)))
told_apart (gave Second m) r after h =
    cond-false (ltb (waits First after) (waits First r)) (Some First) (cond (ltb (waits Second after) (waits Second r)) (Some Second) None) (le-ltb (waits First after) (waits First r) (omega (arith, h.0))) ∙
    cond-true (ltb (waits Second after) (waits Second r)) (Some Second) None (lt-ltb (waits Second after) (waits Second r) (omega (arith, h.1)))
told_apart bare r after h = none_shorter (waits First r) (waits Second r) after h.0 h.1

-- what is written into the books is what the hearing came to
pub noted :
    {X : Type 0} (F : Ghosts X) (n : ℕ) (r : Reader) (t : Result Turn Fault) (h : Heard) (c : Option Class) (v : Seen) →
    Ok h ≡ heard_answer F t →
    Turned r t →
    c ≡ shorter (waits First r) (waits Second r) (hear_after t r) →
    noted_seen n h.taken h.mark c v ≡ heard_seen n t v
noted F n r (Err f) h c v e moved told = cc
noted F n r (Ok t) h c v e moved told =
    let same : h ≡ record { count = length (F.frame (carried t.answer)); taken = took_in t.deed; mark = t.mark } = cc in
    ap (λ k. noted_seen n k.taken k.mark c v) same ∙
    ap (λ k. noted_seen n (took_in t.deed) t.mark k v) (told ∙ told_apart t.deed r t.reader moved)
