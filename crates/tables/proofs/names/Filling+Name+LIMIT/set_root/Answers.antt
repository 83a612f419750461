use Rattle.std.proofs.Common.{arith}
use Rattle.tables.proofs.Named.{rooted_in}
use Rattle.tables.proofs.names.Filling+Name+LIMIT.set_root.Goals as goal

pub returns-then-name-self-clause-list : goal.returns-then-name-self-clause-list
returns-then-name-self-clause-list g c = rooted_in c.args.self.now.table.now c.args.self.now.count c.args.name c.args.root (omega arith) (omega arith)
