use Rattle.std.proofs.Common.{subst}
use Rattle.grammar.specs.Parts.{reader}
use Rattle.grammar.specs.Words.{AheadTold}
use Rattle.grammar.proofs.Ruling.{end_told}
use Rattle.grammar.proofs.parser.Parser.rules.Goals as goal

pub returns-in-End-clause-told : goal.returns-in-End-clause-told
returns-in-End-clause-told c =
    let m = c.loop-word.self in
    let at = subst (AheadTold m.words.now) c.in-End.is c.in_ok-word.ensures in
    end_told (reader c.args.self.now) (reader m) c.in-End.place c.loop-word.invariant at.0 at.1 c.end_of_text.result c.end_of_text.ensures
