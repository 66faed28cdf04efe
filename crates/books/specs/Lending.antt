-- What the books become when the numbers of what waits are lent.
use Rattle.std.specs.Prelude.{ℕ}
use Rattle.std.specs.Borrow.{Fml, Lends, MutBor, usize}
use Rattle.std.specs.declared.collections.VecDeque.{VecDeque}
use Rattle.std.specs.contracts.alloc.Global as global
use Rattle.std.specs.contracts.collections.VecDeque as deque
use Rattle.std.specs.contracts.impls.GlobalAllocator.TheImpl.{ghosts}
use Rattle.std.specs.declared.alloc.Global.{Global}
use Rattle.account.specs.Books.{by_class}
use Rattle.books.specs.contracts.Books.{the_row}
use Rattle.books.specs.declared.Books.{Books}
use Rattle.rules.specs.declared.records.Class.{Class}

-- the books with other numbers waiting of a class
abbrev pub with_waiting : Class → Books → VecDeque ℕ Global → Books
with_waiting c b w = record b { waiting1 = by_class c w b.waiting1; waiting2 = by_class c b.waiting2 w }

-- those of the class become what is left behind r
abbrev pub lends_waiting : MutBor Books → Class → MutBor (VecDeque ℕ Global) → Fml
lends_waiting b c r = Lends the_row (deque.the_row usize global.the_row ghosts) b r (with_waiting c b.now)
