-- What the concentrator understands of a reader's answers, and a reader of the concentrator's requests.
use Rattle.std.proofs.Common.{◌≡◌, Bool, true, Ok, arith}
use mathlib.Core.Bool.{beq}
use Rattle.account.proofs.Pair.{alive_back, verdict_of}
use Rattle.rules.specs.Concentrator.{request_telegram, verdict}
use Rattle.rules.specs.Reader as rd
use Rattle.rules.specs.Reader.{Reader, give, hear_telegram, take}
use Rattle.rules.specs.declared.message.Message.{Message}
use Rattle.rules.specs.declared.records.Class.{Class}
use Rattle.rules.specs.declared.records.Ending.TheVariants.{Done, Confirmed, Busy, Brought, Empty}
use Rattle.rules.specs.declared.records.Reply.TheVariants as reply
use Rattle.rules.specs.declared.records.Request.TheVariants.{Reset, Status, Send, Poll}
use Rattle.std.proofs.lemmas.Bool.Decides.{nat_tests}

module _ (r : Reader) where
  pub hears_reset : (b : Bool) → hear_telegram (request_telegram Reset b r.address) r ≡ rd.answer rd.reset r
  unfolding hear_telegram
  hears_reset b = grind (arith, nat_tests)

  pub hears_status : (b : Bool) → hear_telegram (request_telegram Status b r.address) r ≡ rd.answer rd.status r
  unfolding hear_telegram
  hears_status b = grind (arith, nat_tests)

  pub hears_send : (b : Bool) (m : Message) → hear_telegram (request_telegram (Send m) b r.address) r ≡ rd.count r.link.set (beq b r.link.next) (take m) r
  unfolding hear_telegram
  hears_send b m = grind (arith, nat_tests)

  pub hears_poll : (b : Bool) (c : Class) → hear_telegram (request_telegram (Poll c) b r.address) r ≡ rd.count r.link.set (beq b r.link.next) (give c) r
  unfolding hear_telegram
  hears_poll b c = grind (arith, nat_tests)

  pub acks_reset : verdict_of r.address Reset (rd.says_briefly reply.Ack r) ≡ Ok Done
  unfolding verdict
  acks_reset = grind (arith, nat_tests)

  pub acks_send : (m : Message) → verdict_of r.address (Send m) (rd.says_briefly reply.Ack r) ≡ Ok Confirmed
  unfolding verdict
  acks_send m = grind (arith, nat_tests)

  pub has_none : (c : Class) → verdict_of r.address (Poll c) (rd.says_briefly reply.NoData r) ≡ Ok Empty
  unfolding verdict
  has_none c = grind (arith, nat_tests)

  pub is_busy : (m : Message) → verdict_of r.address (Send m) (rd.says reply.Busy r) ≡ Ok Busy
  unfolding verdict
  is_busy m = grind (arith, nat_tests)

  pub tells_status : verdict_of r.address Status (rd.says reply.Status r) ≡ Ok Done
  unfolding verdict
  tells_status = grind (arith, nat_tests)

  pub brings : (c : Class) (m : Message) → verdict_of r.address (Poll c) (rd.says_data m r) ≡ Ok (Brought m)
  unfolding verdict
  brings c m = grind (arith, nat_tests)

  pub goes_ack : alive_back (rd.says_briefly reply.Ack r) ≡ true
  goes_ack = grind arith

  pub goes_none : alive_back (rd.says_briefly reply.NoData r) ≡ true
  goes_none = grind arith

  pub goes_busy : alive_back (rd.says reply.Busy r) ≡ true
  goes_busy = grind arith

  pub goes_status : alive_back (rd.says reply.Status r) ≡ true
  goes_status = grind arith

  pub goes_data : (m : Message) → alive_back (rd.says_data m r) ≡ true
  goes_data m = grind arith
