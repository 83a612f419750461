use Rattle.std.proofs.Common.{◌≡◌, rules}
use Rattle.grammar.specs.Bodies.{closing_piece, level_at}
use Rattle.grammar.specs.Parts.{reader, roots}
use Rattle.grammar.proofs.Ending.{unclosed_mark, closing_first}
use Rattle.grammar.proofs.parser.Parser.end.Goals as goal

pub returns-then-ne : goal.returns-then-ne
returns-then-ne c = λ depth.
    let other : c.args.mark.piece ≡ closing_piece c.args.opened.closing → ⊥ = search rules in
    unclosed_mark (reader c.args.self.now) (level_at c.args.opened (roots c.args.self.now)) c.args.opened.closing c.args.mark c.requires.0 c.requires.1 c.requires.2 other depth

pub close-requires : goal.close-requires
close-requires c =
    let same : c.args.mark.piece ≡ closing_piece c.args.opened.closing = search rules in
    (closing_first c.args.self.now.words.now c.args.opened.closing c.args.mark c.requires.0 same, c.requires.3)
