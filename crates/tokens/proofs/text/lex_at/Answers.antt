use Rattle.std.proofs.Common.{refl, arith}
use Rattle.lexer.specs.Vocabulary.{lexicon}
use Rattle.scanning.proofs.Cuts.{scan_token}
use Rattle.tokens.proofs.text.lex_at.Goals as goal

pub overflow_add-result : goal.overflow_add-result
overflow_add-result c =
    let step = scan_token (lexicon c.args.vocabulary.now) c.args.text.now c.args.place (omega arith) c.in-Ok.lexeme c.in-Ok.ensures in
    omega (arith, step.within)

pub returns-in-Ok : goal.returns-in-Ok
returns-in-Ok c =
    let step = scan_token (lexicon c.args.vocabulary.now) c.args.text.now c.args.place (omega arith) c.in-Ok.lexeme c.in-Ok.ensures in
    record { fits = step.fits; tokens = step.tokens _ refl; ending = step.ending }
