use Rattle.site.proofs.Accounts.{accounted}
use Rattle.site.proofs.Site.reader.Goals as goal
use Rattle.site.specs.Sites.{seen}

pub returns : goal.returns
returns g c =
    record {
      answer = c.get.ensures;
      theorem = c.two_ends_hold.ensures;
      account = accounted g.F.Format c.two_ends_hold.ensures (seen c.args.self.now) c.args.address;
    }
