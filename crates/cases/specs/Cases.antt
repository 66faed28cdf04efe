-- The worked cases of the link.
use Rattle.std.specs.Prelude.{◌≡◌, ℕ, List, [], ◌∷◌, map, replicate, Some, Err}
use Rattle.cases.specs.Exchanges.{answer_of, heard, hears, linked5, reader5, send5, silence}
use Rattle.fault.specs.Causes.{fault}
use Rattle.fault.specs.declared.Cause.TheVariants.{LinkUnset}
use Rattle.ft12.specs.Cases.{Cases as Ft12-cases}
use Rattle.ft3.specs.Cases.{Cases as Ft3-cases}
use Rattle.ft12.specs.Symbols.{symbol_of}
use Rattle.rules.specs.Exchanges.{sent_after}
use Rattle.rules.specs.Concentrator.{no_flags}
use Rattle.rules.specs.Messages.{message_of}
use Rattle.rules.specs.Reader.{collected, mark_heard}
use Rattle.rules.specs.declared.message.Message.{Message}
use Rattle.rules.specs.declared.records.Mark.TheVariants.{Settled}
use Rattle.rules.specs.declared.records.Outcome.TheVariants.{Doubtful}
use Rattle.rules.specs.declared.records.Service.TheVariants.{Send}

-- the send of 41 to 5 with bit 1; polls of class 1 with bit 1 and with bit 0
abbrev pub send41 : List ℕ
send41 = 0x68 ∷ 0x03 ∷ 0x03 ∷ 0x68 ∷ 0x73 ∷ 0x05 ∷ 0x41 ∷ 0xB9 ∷ 0x16 ∷ []

abbrev pub poll1 : List ℕ
poll1 = 0x10 ∷ 0x7A ∷ 0x05 ∷ 0x7F ∷ 0x16 ∷ []

abbrev pub poll0 : List ℕ
poll0 = 0x10 ∷ 0x5A ∷ 0x05 ∷ 0x5F ∷ 0x16 ∷ []

abbrev pub text41 : Message
text41 = message_of (0x41 ∷ [])

abbrev pub text42 : Message
text42 = message_of (0x42 ∷ [])

-- heard twice with two free slots: E5 twice, and 41 in the inbox once
pub record RepeatedSend : Type 0 where
  pub first : answer_of (hears send41 (reader5 [] 2 [])) ≡ map symbol_of (0xE5 ∷ [])
  pub second : answer_of (hears send41 (heard send41 (reader5 [] 2 []))) ≡ map symbol_of (0xE5 ∷ [])
  pub once : (heard send41 (heard send41 (reader5 [] 2 []))).inbox.records ≡ text41 ∷ []

-- an inbox of one slot, full: busy with DFC; collected, the same send again gets the same answer, and the inbox stays empty
pub record FullInbox : Type 0 where
  pub busy : answer_of (hears send41 (reader5 [] 1 (text42 ∷ []))) ≡ map symbol_of (0x10 ∷ 0x11 ∷ 0x05 ∷ 0x16 ∷ 0x16 ∷ [])
  pub again : answer_of (hears send41 (collected (heard send41 (reader5 [] 1 (text42 ∷ []))))) ≡ map symbol_of (0x10 ∷ 0x11 ∷ 0x05 ∷ 0x16 ∷ 0x16 ∷ [])
  pub empty : (heard send41 (collected (heard send41 (reader5 [] 1 (text42 ∷ []))))).inbox.records ≡ []

-- an inbox of one slot, free: ACK with DFC
abbrev pub LastSlot : Type 0
LastSlot = answer_of (hears send41 (reader5 [] 1 [])) ≡ map symbol_of (0x10 ∷ 0x10 ∷ 0x05 ∷ 0x15 ∷ 0x16 ∷ [])

-- class 1 holds 41 and 42: two polls bring them, and the second settles 41
pub record TwoPolls : Type 0 where
  pub first : answer_of (hears poll1 (reader5 (text41 ∷ text42 ∷ []) 1 [])) ≡ map symbol_of (0x68 ∷ 0x03 ∷ 0x03 ∷ 0x68 ∷ 0x28 ∷ 0x05 ∷ 0x41 ∷ 0x6E ∷ 0x16 ∷ [])
  pub second : answer_of (hears poll0 (heard poll1 (reader5 (text41 ∷ text42 ∷ []) 1 []))) ≡ map symbol_of (0x68 ∷ 0x03 ∷ 0x03 ∷ 0x68 ∷ 0x08 ∷ 0x05 ∷ 0x42 ∷ 0x4F ∷ 0x16 ∷ [])
  pub settled : mark_heard (hears poll0 (heard poll1 (reader5 (text41 ∷ text42 ∷ []) 1 []))) ≡ Some Settled
  pub which : (heard poll1 (reader5 (text41 ∷ text42 ∷ []) 1 [])).out ≡ Some text41

-- three repetitions and silence: the fourth time-out reports doubtful with 4 transmissions, and the next send gets 18
pub record Silence : Type 0 where
  pub reported : (silence (replicate 4 tt) (sent_after (send5 0x41 linked5) linked5)).reports.records ≡
      record { station = 5; service = Send; outcome = Doubtful; flags = no_flags; transmissions = 4 } ∷ []
  pub unset : send5 0x41 (silence (replicate 4 tt) (sent_after (send5 0x41 linked5) linked5)) ≡ Err (fault LinkUnset 0)

-- all of them; the longest frames of the two formats have so many symbols
pub record Cases (longest-ft12 longest-ft3 : ℕ) : Type 0 where
  pub ft12 : Ft12-cases longest-ft12
  pub ft3 : Ft3-cases longest-ft3
  pub repeated : RepeatedSend
  pub full : FullInbox
  pub last : LastSlot
  pub polls : TwoPolls
  pub silent : Silence
