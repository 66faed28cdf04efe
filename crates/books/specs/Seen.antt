-- What the books in memory show, and what each entry changes. Every list has the oldest first.
use Rattle.std.specs.Prelude.{ℕ, zero, suc, ◌+◌, ◌-◌, List, [], ◌∷◌, ◌++◌, length, vec_items, slice_set}
use Rattle.std.specs.VecDeque.{deque_items}
use Rattle.account.specs.Books.{by_class}
use Rattle.account.specs.declared.books.OfferState.{OfferState}
use Rattle.account.specs.declared.books.OfferState.TheVariants.{Waiting, Out, Marked}
use Rattle.account.specs.declared.books.SendState.{SendState}
use Rattle.account.specs.declared.books.SendState.TheVariants.{Open, Ended}
use Rattle.books.specs.declared.Books.{Books}
use Rattle.queue.specs.Fifo.{take_contents}
use Rattle.rules.specs.declared.records.Class.{Class}
use Rattle.rules.specs.declared.records.Mark.{Mark}
use Rattle.rules.specs.declared.records.Outcome.{Outcome}

-- the states of the sends to a reader by their numbers, and the numbers of those that entered its inbox
pub record SeenDown : Type 0 where
  pub sends : List SendState
  pub entered : List ℕ

-- the states of its offers by their numbers, the numbers of those of each class that wait, the number of the one handed out last
-- (0 if none was), and the numbers of those that arrived
pub record SeenUp : Type 0 where
  pub offers : List OfferState
  pub waiting1 : List ℕ
  pub waiting2 : List ℕ
  pub newest : ℕ
  pub arrived : List ℕ

pub record Seen : Type 0 where
  pub down : SeenDown
  pub up : SeenUp

abbrev pub seen : Books → Seen
seen b = record {
  down = record { sends = vec_items b.sends; entered = vec_items b.entered };
  up = record {
    offers = vec_items b.offers;
    waiting1 = deque_items b.waiting1;
    waiting2 = deque_items b.waiting2;
    newest = b.newest;
    arrived = vec_items b.arrived;
  };
}

-- new books
abbrev pub nothing_seen : Seen
nothing_seen = record {
  down = record { sends = []; entered = [] };
  up = record { offers = []; waiting1 = []; waiting2 = []; newest = 0; arrived = [] };
}

-- ## the sends

-- a send was accepted, and is open
abbrev pub sent : Seen → Seen
sent v = record { down = record { sends = v.down.sends ++ (Open ∷ []); entered = v.down.entered }; up = v.up }

-- the newest send has ended
abbrev pub ended : Outcome → Seen → Seen
ended o v = record { down = record { sends = slice_set v.down.sends (length v.down.sends - 1) (Ended o); entered = v.down.entered }; up = v.up }

-- the send of this number entered the inbox
abbrev pub enters : ℕ → Seen → Seen
enters n v = record { down = record { sends = v.down.sends; entered = v.down.entered ++ (n ∷ []) }; up = v.up }

-- ## the offers

-- the numbers of the offers of a class that wait
abbrev pub waiting : Class → SeenUp → List ℕ
waiting c u = by_class c u.waiting1 u.waiting2

-- an offer of a class was accepted, and waits under the next number
abbrev pub offered : Class → Seen → Seen
offered c v = let next = waiting c v.up ++ ((length v.up.offers + 1) ∷ []) in record {
  down = v.down;
  up = record {
    offers = v.up.offers ++ (Waiting ∷ []);
    waiting1 = by_class c next v.up.waiting1;
    waiting2 = by_class c v.up.waiting2 next;
    newest = v.up.newest;
    arrived = v.up.arrived;
  };
}

-- the offer of this number has this state now; 0 is the number of none
abbrev pub with_state : ℕ → OfferState → List OfferState → List OfferState
with_state zero s l = l
with_state (suc n) s l = slice_set l n s

-- what was handed out last has this state now
abbrev pub with_newest : OfferState → Seen → Seen
with_newest s v = record {
  down = v.down;
  up = record {
    offers = with_state v.up.newest s v.up.offers;
    waiting1 = v.up.waiting1;
    waiting2 = v.up.waiting2;
    newest = v.up.newest;
    arrived = v.up.arrived;
  };
}

-- what was handed out last is marked
abbrev pub marked : Mark → Seen → Seen
marked k v = with_newest (Marked k) v

-- the first of these numbers, 0 if there is none
abbrev pub first_of : List ℕ → ℕ
first_of [] = 0
first_of (n ∷ l) = n

-- the oldest offer of a class that waits is handed out
abbrev pub handed : Class → Seen → Seen
handed c v = let left = take_contents (waiting c v.up) in with_newest Out (record {
  down = v.down;
  up = record {
    offers = v.up.offers;
    waiting1 = by_class c left v.up.waiting1;
    waiting2 = by_class c v.up.waiting2 left;
    newest = first_of (waiting c v.up);
    arrived = v.up.arrived;
  };
})

-- the offer of this number arrived
abbrev pub arrives : ℕ → Seen → Seen
arrives n v = record {
  down = v.down;
  up = record { offers = v.up.offers; waiting1 = v.up.waiting1; waiting2 = v.up.waiting2; newest = v.up.newest; arrived = v.up.arrived ++ (n ∷ []) };
}
