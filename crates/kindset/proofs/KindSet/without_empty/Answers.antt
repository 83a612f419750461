use Rattle.kindset.proofs.Members.{without_member}
use Rattle.kindset.proofs.KindSet.without_empty.Goals as goal

pub returns : goal.returns
returns c = without_member c.args.self.bits
