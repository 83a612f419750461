use Rattle.std.proofs.Common.{rules}
use Rattle.grammar.specs.Parts.{reader}
use Rattle.grammar.specs.Sound.{zero_name}
use Rattle.grammar.proofs.Mapped.{named, numbered_clean}
use Rattle.grammar.proofs.parser.Parser.name_number.Goals as goal

pub returns : goal.returns
returns c = named (reader c.args.self.now) c.args.word c.from.result c.from.ensures c.number.new.self c.number.ensures.loan c.number.result c.map_err.result c.map_err.ensures.cases (λ f d p. search (p, rules)) c.number.ensures.told

pub invariant_of-self-clause-names_clean : goal.invariant_of-self-clause-names_clean
invariant_of-self-clause-names_clean c = numbered_clean _ _ _ _ _ _ zero_name c.number.result c.number.ensures.told c.args.self.now.names_clean
