use Rattle.std.proofs.Common.{rules}
use Rattle.grammar.specs.Parts.{reader}
use Rattle.grammar.proofs.Filling.{unfilled, filled}
use Rattle.grammar.proofs.Soundness.{sound}
use Rattle.grammar.proofs.Finishing.{passed_on}
use Rattle.grammar.proofs.judging.read_all.Goals as goal

pub returns-in_err-rules-clause-told : goal.returns-in_err-rules-clause-told
returns-in_err-rules-clause-told c =
    passed_on c.from_residual.result c.in_err-rules.field-0.0 _ _ c.from_residual.ensures.1
    (let u = unfilled _ c.requires.0 c.requires.1 (reader c.rules.new.self) c.in_err-rules.field-0.0 c.in_err-rules.ensures.told in search rules)

pub returns-clause-told : goal.returns-clause-told
returns-clause-told c =
    let f = filled _ c.requires.0 c.requires.1 (reader c.rules.new.self) c.len.result c.len-2.result c.len-3.result c.len.ensures c.len-2.ensures c.len-3.ensures (sound c.rules.new.self) c.in_ok-rules.ensures.told in
    search rules
