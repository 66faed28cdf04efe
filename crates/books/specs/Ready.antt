-- Room in memory for one more entry in every book.
use Rattle.std.specs.Prelude.{◌<◌, vec_len, vec_capacity}
use Rattle.std.specs.VecDeque.{deque_len, deque_capacity}
use Rattle.books.specs.declared.Books.{Books}

pub record Ready (b : Books) : Type 0 where
  pub sends : vec_len b.sends < vec_capacity b.sends
  pub entered : vec_len b.entered < vec_capacity b.entered
  pub offers : vec_len b.offers < vec_capacity b.offers
  pub waiting1 : deque_len b.waiting1 < deque_capacity b.waiting1
  pub waiting2 : deque_len b.waiting2 < deque_capacity b.waiting2
  pub arrived : vec_len b.arrived < vec_capacity b.arrived
