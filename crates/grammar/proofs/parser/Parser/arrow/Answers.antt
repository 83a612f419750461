use Rattle.std.proofs.Common.{◌≡◌, rules}
use Rattle.grammar.specs.Parts.{reader}
use Rattle.grammar.specs.declared.piece.Piece.TheVariants.{Arrow}
use Rattle.grammar.proofs.Ruling.{arrow_misplaced, arrow_read}
use Rattle.grammar.proofs.parser.Parser.arrow.Goals as goal

pub returns-then-ne : goal.returns-then-ne
returns-then-ne c =
    let other : c.in_ok-word.word.piece ≡ Arrow → ⊥ = search rules in
    arrow_misplaced (reader c.args.self.now) c.in_ok-word.word c.in_ok-word.ensures other

pub returns : goal.returns
returns c =
    let same : c.in_ok-word.word.piece ≡ Arrow = search rules in
    arrow_read (reader c.args.self.now) c.in_ok-word.word c.in_ok-word.ensures same c.advance.new.self c.advance.ensures
