-- The queues of a reader's two classes.
use Rattle.std.specs.Borrow.{Fml, Lends, MutBor, RattleType}
use Rattle.queue.specs.contracts.Queue as queue
use Rattle.queue.specs.declared.Queue.{Queue}
use Rattle.reader.specs.contracts.Reader.{the_row}
use Rattle.reader.specs.declared.Reader.{Reader}
use Rattle.rules.specs.declared.records.Class.{Class}
use Rattle.rules.specs.declared.records.Class.TheVariants.{First, Second}

-- the queue of a class
abbrev pub queue_of : {S F : Type 0} → Class → Reader S F → Queue S
queue_of First r = r.class1
queue_of Second r = r.class2

-- a reader with another queue of a class
abbrev pub with_queue : {S F : Type 0} → Class → Queue S → Reader S F → Reader S F
with_queue First q r = record r { class1 = q }
with_queue Second q r = record r { class2 = q }

-- the queue of a class becomes what is left behind q
module _ (S F : RattleType) (r : MutBor (Reader S.Denot F.Denot)) where
  abbrev pub lends_class : Class → MutBor (Queue S.Denot) → Fml
  lends_class c q = Lends (the_row S F) (queue.the_row S) r q (λ w. with_queue c w r.now)
