use Rattle.std.proofs.Common.{◌+◌, ◌*◌, length}
use Rattle.grammar.specs.Bodies.{SequenceOn}
use Rattle.grammar.specs.Parts.{reader}
use Rattle.grammar.specs.Words.{tokens}
use Rattle.grammar.proofs.Cycle.{BranchesOn}
use Rattle.grammar.proofs.parser.Parser.+branches_item_sequence.Given as goal

-- each call goes on with fewer tokens, or down from branches to sequence to item
abbrev pub decreases-branches : goal.decreases-branches
decreases-branches l = 3 * length (tokens l.self.now.words.now) + 2

abbrev pub decreases-item : goal.decreases-item
decreases-item l = 3 * length (tokens l.self.now.words.now)

abbrev pub decreases-sequence : goal.decreases-sequence
decreases-sequence l = 3 * length (tokens l.self.now.words.now) + 1

abbrev pub invariant-branches-loop-mark : goal.invariant-branches-loop-mark
invariant-branches-loop-mark l = BranchesOn l.depth (reader l.initial.self) (reader l.self)

abbrev pub decreases-branches-loop-mark : goal.decreases-branches-loop-mark
decreases-branches-loop-mark l = length (tokens l.self.words.now)

abbrev pub invariant-sequence-loop-node : goal.invariant-sequence-loop-node
invariant-sequence-loop-node l = SequenceOn l.depth (reader l.initial.self) (reader l.self)

abbrev pub decreases-sequence-loop-node : goal.decreases-sequence-loop-node
decreases-sequence-loop-node l = length (tokens l.self.words.now)
