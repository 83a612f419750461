use Rattle.std.proofs.Common.{sym, ◌∙◌}
use Rattle.grammar.specs.Parts.{reader}
use Rattle.grammar.proofs.Leaves.{misspelt}
use Rattle.grammar.proofs.parser.Parser.spelling_item.Goals as goal

pub returns-then-not-may_be_spelled : goal.returns-then-not-may_be_spelled
returns-then-not-may_be_spelled c = λ depth. misspelt (reader c.args.self.now) c.args.word c.requires c.clip.result.now c.clip.ensures (sym c.may_be_spelled.ensures ∙ c.if-not-may_be_spelled.true) depth
