use Rattle.std.proofs.Common.{length}
use Rattle.grammar.specs.Parts.{reader}
use Rattle.grammar.specs.Words.{tokens}
use Rattle.grammar.proofs.Ruling.{RulesOn}
use Rattle.grammar.proofs.parser.Parser.rules.Given as goal

abbrev pub invariant-loop-word : goal.invariant-loop-word
invariant-loop-word l = RulesOn (reader l.initial.self) (reader l.self)

abbrev pub decreases-loop-word : goal.decreases-loop-word
decreases-loop-word l = length (tokens l.self.words.now)
