use Rattle.std.proofs.Common.{sym, ◌∙◌, arith}
use Rattle.std.proofs.lemmas.Bool.{le-ltb}
use Rattle.tables.proofs.Named.{ruled_in, ruled_out}
use Rattle.tables.proofs.names.Filling+Name+LIMIT.has_rule.Goals as goal

pub returns-then-name-self : goal.returns-then-name-self
returns-then-name-self g c = sym (ruled_in c.args.self.now c.args.name (omega arith))

pub returns-else-name-self : goal.returns-else-name-self
returns-else-name-self g c = le-ltb c.args.name c.args.self.now.count (omega arith) ∙ sym (ruled_out c.args.self.now c.args.name (omega arith))
