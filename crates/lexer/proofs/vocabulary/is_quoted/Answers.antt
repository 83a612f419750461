use Rattle.std.proofs.Common.{rules}
use Rattle.std.proofs.lemmas.Bool.Decides.{Decides-eqb}
use Rattle.std.proofs.lemmas.Slice.Eq.{slice_eq-Decides}
use Rattle.lexer.proofs.Spellings.{bare_end, inside_is}
use Rattle.lexer.proofs.vocabulary.is_quoted.Goals as goal

pub returns-in-34 : goal.returns-in-34
returns-in-34 c = inside_is c.args.bytes.now c.args.inside.now c.in-34.len_at_least (search rules) (search rules) c.eq.result (slice_eq-Decides Decides-eqb _ _ _ c.eq.ensures)

pub returns-in_default-2 : goal.returns-in_default-2
returns-in_default-2 c = bare_end c.args.bytes.now c.args.inside.now (λ is. search rules)
