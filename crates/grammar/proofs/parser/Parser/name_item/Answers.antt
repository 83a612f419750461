use Rattle.std.proofs.Common.{arith, rules}
use Rattle.grammar.specs.Parts.{reader}
use Rattle.grammar.proofs.Counted.{number_small}
use Rattle.grammar.proofs.Finishing.{passed_on}
use Rattle.grammar.proofs.Leaves.{name_over, name_leaf}
use Rattle.grammar.proofs.parser.Parser.name_item.Goals as goal

pub overflow_cast-name : goal.overflow_cast-name
overflow_cast-name c =
    let told = c.in_ok-name.ensures in
    let small = number_small _ _ _ _ c.args.self.now.names.now c.name_number.new.self.names.now c.in_ok-name.name told.number in
    omega arith

pub returns-in_err-name : goal.returns-in_err-name
returns-in_err-name c = λ depth.
    let told = c.in_err-name.ensures in
    passed_on c.from_residual.result c.in_err-name.field-0.0 _ _ (search (c.from_residual.ensures.1, rules))
    (rw (told.beside, told.told) (name_over (reader c.args.self.now) c.args.word c.requires c.name_number.new.self.names.now told.full told.over depth))

pub returns : goal.returns
returns c = λ depth.
    let told = c.in_ok-name.ensures in
    name_leaf (reader c.args.self.now) c.args.word c.requires c.name_number.new.self.names.now c.in_ok-name.name told.number told.loan _ c.leaf.result (rw told.beside at c.leaf.ensures) c.args.self.now.few depth
