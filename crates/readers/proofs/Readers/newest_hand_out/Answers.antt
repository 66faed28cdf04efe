use Rattle.std.proofs.Common.{rules, tests}
use Rattle.readers.proofs.Found.{read_found}
use Rattle.readers.proofs.Readers.newest_hand_out.Goals as goal
use Rattle.readers.specs.Readers.{Kept, handed_by, kept, readers}

pub returns : goal.returns
returns g c ys apart p =
    read_found (λ x. kept x.now) _ (λ (k : Kept). k.books.up.newest) handed_by c.get.result c.map_or.result c.args.address (readers c.args.self.now) ys p c.get.ensures c.map_or.ensures
    (λ x q. search (rules, tests)) (λ k s q. q.1.1.newest)
