-- What a call can come to: each call of either end, by its outcomes.
use Rattle.std.proofs.Common.{◌≡◌, ℕ, ◌≤◌, Bool, true, false, cond, not, eqb, leb, List, [], ◌∷◌, length, Some, None, Ok, Err, Option, Result, refl, arith}
use mathlib.Core.Bool.{beq}
use Rattle.account.proofs.Hearing.{turn_of}
use Rattle.account.specs.Line.{Octets, OctetsAsked}
use Rattle.fault.specs.Causes.{fault}
use Rattle.fault.specs.declared.Cause.TheVariants.{BadLength, BadStation, QueueFull}
use Rattle.fault.specs.declared.Fault.{Fault}
use Rattle.frame.specs.Controls.{bit, code_of}
use Rattle.frame.specs.Verdicts.{must}
use Rattle.frame.specs.declared.control.Control.{Control}
use Rattle.queue.specs.Fifo.{full}
use Rattle.rules.specs.Concentrator as co
use Rattle.rules.specs.Concentrator.{Asking, Concentrator, closing, first_exchange, flags_of, for_poll, for_reset, for_send, for_status, has_room, no_flags, once_more, opening, ready, verdict, with_exchange}
use Rattle.rules.specs.Functions.{class_of, function_of}
use Rattle.rules.specs.Links.{link_at, reset_link}
use Rattle.rules.specs.Messages.{message_answer, message_of, within}
use Rattle.rules.specs.Queues.{holding, put_in}
use Rattle.rules.specs.Reader as rd
use Rattle.rules.specs.Reader.{Ask, Reader, Task, Turn, dfc, says, says_briefly, says_data, still_says}
use Rattle.rules.specs.declared.message.Message.{Message}
use Rattle.rules.specs.declared.records.Class.{Class}
use Rattle.rules.specs.declared.records.Ending.{Ending}
use Rattle.rules.specs.declared.records.Ending.TheVariants.{Doubted}
use Rattle.rules.specs.declared.records.Exchange.{Exchange}
use Rattle.rules.specs.declared.records.Mark.TheVariants.{Doubtful}
use Rattle.rules.specs.declared.records.Reply.{Reply}
use Rattle.rules.specs.declared.records.Reply.TheVariants as reply
use Rattle.rules.specs.declared.records.Request.{Request}
use Rattle.rules.specs.declared.records.Request.TheVariants.{Reset, Status, Send, Poll}
use Rattle.rules.specs.declared.telegram.Telegram.{Telegram}
use Rattle.rules.specs.declared.telegram.Telegram.TheVariants.{Single, Fixed, Variable}
use Rattle.std.proofs.lemmas.Bool.Decides.{nat_tests}

-- a message that was made of 1 to 64 octets
pub record Proper (m : Message) : Type 0 where
  pub octets : List ℕ
  pub is : m ≡ message_of octets
  pub least : 1 ≤ length octets
  pub most : length octets ≤ 64
  pub small : Octets octets

pub data Made : Result Message Fault → Type 0 where
  not_made : {f : Fault} → Made (Err f)
  made : {m : Message} → Proper m → Made (Ok m)

pub message_made : (os : List ℕ) → Octets os → Made (message_answer os)
message_made os h = go (within 1 64 (length os)) refl
  where
    go : (z : Bool) → within 1 64 (length os) ≡ z → Made (cond z (Ok (message_of os)) (Err (fault BadLength 0)))
    go true e =
        let low : 1 ≤ length os = grind (arith, nat_tests) in
        let high : length os ≤ 64 = grind (arith, nat_tests) in
        made (record { octets = os; is = refl; least = low; most = high; small = h })
    go false e = not_made

-- ## requests

abbrev pub ProperRequest : Request → Type 0
ProperRequest Reset = Unit {0}
ProperRequest Status = Unit {0}
ProperRequest (Send m) = Proper m
ProperRequest (Poll c) = Unit {0}

pub data Asked (k : Concentrator) : Result co.Sent Fault → Type 0 where
  declined : {f : Fault} → Asked k (Err f)
  opened : (a : ℕ) (q : Request) → within 1 32 a ≡ true → k.exchange ≡ None → ready q (link_at k.links a) ≡ true → has_room q k ≡ true → ProperRequest q
      → Asked k (Ok (opening (first_exchange a q k) k))

module _ (k : Concentrator) (a : ℕ) where
  opened_as : (q : Request) → ProperRequest q → within 1 32 a ≡ true → (x : Option Exchange) (y z : Bool) → k.exchange ≡ x → ready q (link_at k.links a) ≡ y → has_room q k ≡ z
      → Asked k (co.opened x y z a q k)
  opened_as q p w (Some x) y z e r h = declined
  opened_as q p w None false z e r h = declined
  opened_as q p w None true false e r h = declined
  opened_as q p w None true true e r h = opened a q w e r h p

  asked_as : (q : Request) → ProperRequest q → within 1 32 a ≡ true → Asked k (co.request_as (Ok q) a k)
  asked_as q p w = opened_as q p w k.exchange (ready q (link_at k.links a)) (has_room q k) refl refl refl

  asked_send : (m : Result Message Fault) → Made m → within 1 32 a ≡ true → Asked k (co.request_as (co.send_of m) a k)
  asked_send (Err f) p w = declined
  asked_send (Ok m) (made p) w = asked_as (Send m) p w

  asked_poll : (c : Option Class) → within 1 32 a ≡ true → Asked k (co.request_as (co.poll_of c) a k)
  asked_poll None w = declined
  asked_poll (Some c) w = asked_as (Poll c) tt w

  asked_known : (q : Asking) → OctetsAsked q → within 1 32 a ≡ true → Asked k (co.request_as (co.request_of q) a k)
  asked_known for_reset o w = asked_as Reset tt w
  asked_known for_status o w = asked_as Status tt w
  asked_known (for_send os) o w = asked_send (message_answer os) (message_made os o) w
  asked_known (for_poll c) o w = asked_poll (class_of c) w

  pub asks : (short : Bool) (q : Asking) → OctetsAsked q → Asked k (co.request short a q k)
  asks true q o = declined
  asks false q o = go (within 1 32 a) refl
    where
      go : (z : Bool) → within 1 32 a ≡ z → Asked k (must z (fault BadStation 0) (co.request_as (co.request_of q) a k))
      go true w = asked_known q o w
      go false w = declined

-- ## the time-out

pub data Timing (k : Concentrator) : Result co.Timed Fault → Type 0 where
  not_timed : {f : Fault} → Timing k (Err f)
  repeats : (x : Exchange) → k.exchange ≡ Some x → Timing k (Ok (co.again (record { exchange = once_more x; after = with_exchange (Some (once_more x)) k })))
  doubts : (x : Exchange) → k.exchange ≡ Some x → Timing k (Ok (co.doubted (closing x Doubted no_flags k)))

module _ (k : Concentrator) where
  repeats_if : (z : Bool) (x : Exchange) → k.exchange ≡ Some x → Timing k (Ok (co.repeat_if z x k))
  repeats_if true x e = repeats x e
  repeats_if false x e = doubts x e

  timed_open : (x : Option Exchange) → k.exchange ≡ x → Timing k (co.time_open x k)
  timed_open None e = not_timed
  timed_open (Some x) e = repeats_if (leb x.transmissions k.repetitions) x e

  pub times : (short : Bool) → Timing k (co.time_out short k)
  times true = not_timed
  times false = timed_open k.exchange refl

-- ## the concentrator hears

pub data Ends (k : Concentrator) : Result Telegram Fault → Result co.Ended Fault → Type 0 where
  not_read : {f : Fault} → Ends k (Err f) (Err f)
  none_there : {t : Telegram} {f : Fault} → k.exchange ≡ None → Ends k (Ok t) (Err f)
  not_taken : {t : Telegram} {f : Fault} (x : Exchange) → k.exchange ≡ Some x → Ends k (Ok t) (Err f)
  closes : {t : Telegram} (x : Exchange) (e : Ending) → k.exchange ≡ Some x → verdict x t ≡ Ok e → Ends k (Ok t) (Ok (closing x e (flags_of t) k))

module _ (k : Concentrator) where
  judges : (x : Exchange) (t : Telegram) (v : Result Ending Fault) → k.exchange ≡ Some x → verdict x t ≡ v → Ends k (Ok t) (co.judge v x (flags_of t) k)
  judges x t (Err f) e v = not_taken x e
  judges x t (Ok o) e v = closes x o e v

  hears_open : (x : Option Exchange) (t : Telegram) → k.exchange ≡ x → Ends k (Ok t) (co.hear_open x t k)
  hears_open None t e = none_there e
  hears_open (Some x) t e = judges x t (verdict x t) e refl

  pub hears : (t : Result Telegram Fault) → Ends k t (co.hear t k)
  hears (Err f) = not_read
  hears (Ok t) = hears_open k.exchange t refl

-- ## a reader hears

module _ (r : Reader) where
  abbrev pub reset_turn : Turn
  reset_turn =
      let q = rd.with_link reset_link None None r in
      record { reader = q; answer = says_briefly reply.Ack q; deed = rd.still; mark = rd.marked Doubtful r.out }

  abbrev pub busy_turn : Turn
  busy_turn = let q = rd.turned None r in turn_of q (says reply.Busy q) rd.busy r.out

  abbrev pub take_turn : Message → Turn
  take_turn m = let q = rd.turned None (rd.with_inbox (put_in m r.inbox) r) in turn_of q (says_briefly reply.Ack q) (rd.took m) r.out

  abbrev pub bare_turn : Turn
  bare_turn = let q = rd.turned None r in turn_of q (says_briefly reply.NoData q) rd.bare r.out

  abbrev pub give_turn : Class → Message → Reader → Turn
  give_turn c m r' = let q = rd.turned (Some m) r' in turn_of q (says_data m q) (rd.gave c m) r.out

pub data Turns (r : Reader) : Result Turn Fault → Type 0 where
  no_turn : {f : Fault} → Turns r (Err f)
  says_so : (k : Reply) → Turns r (still_says (says k r) r)
  says_again : (t : Telegram) → r.stored ≡ Some t → Turns r (still_says t r)
  resets : Turns r (Ok (reset_turn r))
  is_busy : Turns r (Ok (busy_turn r))
  takes : (m : Message) → dfc r ≡ false → Turns r (Ok (take_turn r m))
  has_none : Turns r (Ok (bare_turn r))
  gives : (c : Class) (m : Message) (ms : List Message) → (rd.class_queue c r).records ≡ m ∷ ms
      → Turns r (Ok (give_turn r c m (rd.with_class c (holding (rd.class_queue c r) ms) r)))

module _ (r : Reader) where
  turns_take : (z : Bool) (m : Message) → dfc r ≡ z → Turns r (rd.take_in z m r)
  unfolding rd.take_in
  turns_take true m e = is_busy
  turns_take false m e = takes m e

  turns_give : (l : List Message) (c : Class) → (rd.class_queue c r).records ≡ l → Turns r (rd.give_out l c r)
  unfolding rd.give_out
  turns_give [] c e = has_none
  turns_give (m ∷ ms) c e = gives c m ms e

  turns_repeat : (o : Option Telegram) → r.stored ≡ o → Turns r (rd.repeat o r)
  unfolding rd.repeat
  turns_repeat None e = no_turn
  turns_repeat (Some t) e = says_again t e

  turns_count : (y z : Bool) (t : Task) → Turns r (rd.count y z t r)
  turns_count false z t = no_turn
  turns_count true false t = turns_repeat r.stored refl
  turns_count true true (rd.take m) = turns_take (dfc r) m refl
  turns_count true true (rd.give c) = turns_give (rd.class_queue c r).records c refl

  turns_answer : (q : Ask) → Turns r (rd.answer q r)
  turns_answer rd.reset = resets
  turns_answer rd.status = says_so reply.Status
  turns_answer rd.unknown = says_so reply.NotImplemented
  turns_answer rd.improper = no_turn
  turns_answer (rd.counted b t) = turns_count r.link.set (beq b r.link.next) t

  turns_if : (z : Bool) (f : Fault) (h : Result Turn Fault) → Turns r h → Turns r (must z f h)
  turns_if true f h t = t
  turns_if false f h t = no_turn

  turns_addressed : (c : Control) (a : ℕ) (m : Option Message) → Turns r (rd.addressed c a m r)
  turns_addressed c a m =
      turns_if (bit 64 c.octet) _ _ (turns_if (eqb a r.address) _ _ (turns_if (not (bit 128 c.octet)) _ _
      (turns_answer (rd.asked (function_of (code_of c.octet)) (bit 16 c.octet) (bit 32 c.octet) m))))

  turns_telegram : (t : Telegram) → Turns r (rd.hear_telegram t r)
  unfolding rd.hear_telegram
  turns_telegram Single = no_turn
  turns_telegram (Fixed c a) = turns_addressed c a None
  turns_telegram (Variable c a m) = turns_addressed c a (Some m)

  pub turns : (short : Bool) (t : Result Telegram Fault) → Turns r (rd.hear short t r)
  turns true t = no_turn
  turns false (Err f) = no_turn
  turns false (Ok t) = turns_telegram t

-- ## an offer

pub data Offers (r : Reader) : rd.Offered → Type 0 where
  not_offered : {f : Fault} → Offers r (rd.declined f)
  accepts : (c : Class) (m : Message) → Proper m → full (rd.class_queue c r).room (rd.class_queue c r).records ≡ false
      → Offers r (rd.accepted c m (rd.with_class c (put_in m (rd.class_queue c r)) r))

module _ (r : Reader) where
  offers_into : (c : Class) (m : Message) → Proper m → (z : Bool) → full (rd.class_queue c r).room (rd.class_queue c r).records ≡ z
      → Offers r (rd.offer_into (cond z (Err (fault QueueFull 0)) (Ok tt)) c m r)
  offers_into c m p true e = not_offered
  offers_into c m p false e = accepts c m p e

  offers_as : (m : Result Message Fault) → Made m → (c : Option Class) → Offers r (rd.offer_as m c r)
  offers_as (Err f) p c = not_offered
  offers_as (Ok m) p None = not_offered
  offers_as (Ok m) (made p) (Some c) = offers_into c m p (full (rd.class_queue c r).room (rd.class_queue c r).records) refl

  pub offers : (class : ℕ) (os : List ℕ) → Octets os → Offers r (rd.offer class os r)
  offers class os o = offers_as (message_answer os) (message_made os o) (class_of class)
