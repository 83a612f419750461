use Rattle.std.proofs.Common.{None, Some, ◌∙◌}
use Rattle.lexer.specs.Vocabulary.{lexicon, written}
use Rattle.lexer.proofs.First.{kind_counted, named}
use Rattle.lexer.proofs.vocabulary.Vocabulary.kind_of.Goals as goal

pub returns-in_err-index : goal.returns-in_err-index
returns-in_err-index c =
    let v = c.args.self.now in
    let w = written c.args.sought in
    named (lexicon v) w _ (c.from_residual.ensures ∙ kind_counted v w None c.in_err-index.ensures.first)

pub returns : goal.returns
returns c =
    let v = c.args.self.now in
    let w = written c.args.sought in
    named (lexicon v) w _ (kind_counted v w (Some c.in_ok-index.index) c.in_ok-index.ensures.first)
