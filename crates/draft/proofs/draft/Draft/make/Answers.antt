use Rattle.draft.proofs.Held.{held_is_read}
use Rattle.grammar.specs.Judged.{lent}
use Rattle.draft.proofs.draft.Draft.make.Goals as goal

pub invariant_of-result : goal.invariant_of-result
invariant_of-result c = record { reading = held_is_read c.args.text.now (lent c.args.names.now c.args.kinds.now c.args.nodes.now) c.args.counts c.requires }
