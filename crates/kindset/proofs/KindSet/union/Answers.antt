use Rattle.kindset.proofs.Members.{union_member}
use Rattle.kindset.proofs.KindSet.union.Goals as goal

pub returns : goal.returns
returns c = union_member c.args.self.bits c.args.other.bits
