use Rattle.std.proofs.Common.{◌≡◌, arith, rules}
use Rattle.grammar.specs.Parts.{reader}
use Rattle.grammar.specs.Sound.{zero_spelling}
use Rattle.grammar.specs.declared.refusal.Refusal.TheVariants.{KindsFull}
use Rattle.grammar.proofs.Counted.{number_small}
use Rattle.grammar.proofs.Finishing.{passed_on}
use Rattle.grammar.proofs.Leaves.{token_over, token_leaf}
use Rattle.grammar.proofs.Mapped.{numbered, refused, numbered_clean}
use Rattle.grammar.proofs.parser.Parser.token_item.Goals as goal

pub overflow_cast-kind : goal.overflow_cast-kind
overflow_cast-kind c =
    let told = numbered _ _ _ _ _ c.from.ensures _ _ c.number.result c.in_ok-kind.kind c.in_ok-kind.ensures.cases c.number.ensures.told in
    let small = number_small _ _ _ _ c.args.self.now.kinds.now c.number.new.self c.in_ok-kind.kind told in
    omega arith

pub overflow_add-kind : goal.overflow_add-kind
overflow_add-kind c =
    let told = numbered _ _ _ _ _ c.from.ensures _ _ c.number.result c.in_ok-kind.kind c.in_ok-kind.ensures.cases c.number.ensures.told in
    let small = number_small _ _ _ _ c.args.self.now.kinds.now c.number.new.self c.in_ok-kind.kind told in
    omega arith

pub returns-in_err-kind : goal.returns-in_err-kind
returns-in_err-kind c = λ depth.
    let told = refused _ _ _ _ _ c.from.ensures _ _ c.number.result _ c.in_err-kind.ensures.cases c.number.ensures.told in
    let full : c.in_err-kind.field-0.0 ≡ KindsFull c.args.word.place = search (told.1, rules) in
    passed_on c.from_residual.result (KindsFull c.args.word.place) _ _ (search (c.from_residual.ensures.1, full, rules))
    (token_over (reader c.args.self.now) c.args.word c.requires c.number.new.self told.0 told.2 depth)

pub returns : goal.returns
returns c = λ depth.
    let told = numbered _ _ _ _ _ c.from.ensures _ _ c.number.result c.in_ok-kind.kind c.in_ok-kind.ensures.cases c.number.ensures.told in
    token_leaf (reader c.args.self.now) c.args.word c.requires c.number.new.self c.in_ok-kind.kind told c.number.ensures.loan _ c.leaf.result c.leaf.ensures c.args.self.now.few depth

pub invariant_of-self-clause-kinds_clean : goal.invariant_of-self-clause-kinds_clean
invariant_of-self-clause-kinds_clean c = numbered_clean _ _ _ _ _ _ zero_spelling c.number.result c.number.ensures.told c.args.self.now.kinds_clean
