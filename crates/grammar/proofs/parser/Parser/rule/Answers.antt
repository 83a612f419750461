use Rattle.grammar.specs.Parts.{reader}
use Rattle.grammar.specs.Sound.{zero_name}
use Rattle.grammar.proofs.Rooting.{still_clean}
use Rattle.grammar.proofs.Ruling.{rule_rooted}
use Rattle.grammar.proofs.parser.Parser.rule.Goals as goal

pub returns : goal.returns
returns c =
    let b = c.in_ok-root.ensures in
    let set = c.set_root.ensures in
    rule_rooted (reader c.branches.new.self) c.in_ok-name.name c.in_ok-root.root b.small c.set_root.new.self set.list set.kept set.loan (reader c.args.self.now) (reader c.head.new.self) (reader c.arrow.new.self) c.none.result c.in_ok-name.ensures c.in_ok-arrow.ensures b

pub invariant_of-self-clause-names_clean : goal.invariant_of-self-clause-names_clean
invariant_of-self-clause-names_clean c = still_clean c.branches.new.self.names.now c.set_root.new.self zero_name c.set_root.ensures.kept c.branches.new.self.names_clean
