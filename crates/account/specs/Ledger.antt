-- What a book says of its items, and how it ties them to what came of them at the other end. Every book has the newest first.
use Rattle.std.specs.Prelude.{◌≡◌, ℕ, ◌+◌, List, [], ◌∷◌, length, Some, None, Option}
use Rattle.account.specs.declared.books.HandOut.{HandOut}
use Rattle.account.specs.declared.books.Item.{Item}
use Rattle.account.specs.declared.books.OfferState.{OfferState}
use Rattle.account.specs.declared.books.OfferState.TheVariants.{Waiting, Out, Marked}
use Rattle.account.specs.declared.books.SendState.{SendState}
use Rattle.account.specs.declared.books.SendState.TheVariants.{Open, Ended}
use Rattle.account.specs.declared.books.Sending.{Sending}
use Rattle.rules.specs.declared.message.Message.{Message}
use Rattle.rules.specs.declared.records.Class.{Class}
use Rattle.rules.specs.declared.records.Mark.TheVariants.{Settled, Doubtful}
use Rattle.rules.specs.declared.records.Outcome.TheVariants as outcome
use Rattle.std.specs.List.{AllByRecursion}

-- How often an item comes at the other end.
pub data Fate : Type 0 where
  once never at_most_once : Fate

-- a confirmed send enters once, a busy one never; an open, a doubtful and a not served one at most once (no other outcome ends a send)
abbrev pub send_fate : SendState → Fate
send_fate Open = at_most_once
send_fate (Ended outcome.Done) = at_most_once
send_fate (Ended outcome.Confirmed) = once
send_fate (Ended outcome.Busy) = never
send_fate (Ended outcome.Data) = at_most_once
send_fate (Ended outcome.NoData) = at_most_once
send_fate (Ended outcome.NotServed) = at_most_once
send_fate (Ended outcome.Doubtful) = at_most_once

-- a settled offer arrives once, one that waits never; the one out and a doubtful one at most once
abbrev pub offer_fate : OfferState → Fate
offer_fate Waiting = never
offer_fate Out = at_most_once
offer_fate (Marked Settled) = once
offer_fate (Marked Doubtful) = at_most_once

-- whether an item of this fate may have come
abbrev pub MayCome : Fate → Type 0
MayCome once = Unit {0}
MayCome never = ⊥
MayCome at_most_once = Unit {0}

-- whether it may be lacking
abbrev pub MayLack : Fate → Type 0
MayLack once = ⊥
MayLack never = Unit {0}
MayLack at_most_once = Unit {0}

-- What came is the items' own, by number and octets, in the items' order, each at most once: exactly once, or never, where its
-- fate says so. And nothing else came.
pub data Accounted {T : Type 0} (item : T → Item) (fate : T → Fate) : List T → List Item → Type 0 where
  nothing : Accounted item fate [] []
  came : {x : T} {l : List T} {e : List Item} → MayCome (fate x) → Accounted item fate l e → Accounted item fate (x ∷ l) (item x ∷ e)
  lacks : {x : T} {l : List T} {e : List Item} → MayLack (fate x) → Accounted item fate l e → Accounted item fate (x ∷ l) e

-- the sends of a reader and what entered its inbox
abbrev pub SendsCome : List Sending → List Item → Type 0
SendsCome = Accounted (λ s. s.item) (λ s. send_fate s.state)

-- the hand-outs of a reader and what arrived from it
abbrev pub HandOutsCome : List HandOut → List Item → Type 0
HandOutsCome = Accounted (λ h. h.offer.item) (λ h. offer_fate h.state)

-- the items are numbered from 1, in their order
abbrev pub Numbered : List Item → Type 0
Numbered [] = Unit {0}
Numbered (i ∷ l) = (i.number ≡ length l + 1) × Numbered l

-- a send that has ended: confirmed, busy or doubtful, and in no other way
abbrev pub HasEnded : SendState → Type 0
HasEnded Open = ⊥
HasEnded (Ended outcome.Done) = ⊥
HasEnded (Ended outcome.Confirmed) = Unit {0}
HasEnded (Ended outcome.Busy) = Unit {0}
HasEnded (Ended outcome.Data) = ⊥
HasEnded (Ended outcome.NoData) = ⊥
HasEnded (Ended outcome.NotServed) = ⊥
HasEnded (Ended outcome.Doubtful) = Unit {0}

-- every send has ended
abbrev pub AllEnded : List Sending → Type 0
AllEnded l = AllByRecursion (λ s. HasEnded s.state) l

-- the send whose exchange is open, if one is, is the newest; every other has ended
pub data Requested : Option Message → List Sending → Type 0 where
  none_open : {l : List Sending} → AllEnded l → Requested None l
  one_open : {n : ℕ} {m : Message} {l : List Sending} → AllEnded l
      → Requested (Some m) (record { item = record { number = n; message = m }; state = Open } ∷ l)

-- a hand-out that is marked
abbrev pub IsMarked : OfferState → Type 0
IsMarked Waiting = ⊥
IsMarked Out = ⊥
IsMarked (Marked m) = Unit {0}

-- every hand-out is marked
abbrev pub AllMarked : List HandOut → Type 0
AllMarked l = AllByRecursion (λ h. IsMarked h.state) l

-- the message that is out at a reader, if one is, is the newest hand-out; every other is settled or doubtful
pub data Handed : Option Message → List HandOut → Type 0 where
  none_out : {l : List HandOut} → AllMarked l → Handed None l
  one_out : {n : ℕ} {m : Message} {c : Class} {l : List HandOut} → AllMarked l
      → Handed (Some m) (record { offer = record { item = record { number = n; message = m }; class = c }; state = Out } ∷ l)
