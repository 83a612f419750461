use Rattle.std.proofs.Common.{arith}
use Rattle.tables.proofs.Rows.{joined}
use Rattle.tables.proofs.nodes.Nodes.join_nodes.Goals as goal

pub returns-then-node-self-clause-nodes : goal.returns-then-node-self-clause-nodes
returns-then-node-self-clause-nodes c = joined c.args.self.now.table.now c.args.self.now.count c.args.node c.args.next _ (omega arith) (omega arith)
