use Rattle.std.proofs.Common.{replicate, length, sym, ap, ◌∙◌, rules}
use Rattle.grammar.specs.Judged.{lent}
use Rattle.grammar.proofs.Judgement.{kept_filled, wiped_unfilled}
use Rattle.grammar.proofs.judging.judge.Goals as goal

pub returns-then-is_err : goal.returns-then-is_err
returns-then-is_err c =
    let after = lent c.fill-answer.new.names c.fill-answer.new.kinds c.fill-answer.new.nodes in
    wiped_unfilled c.args.text.now (lent c.args.names.now c.args.kinds.now c.args.nodes.now) after c.fill-answer.result _ _ _ (sym c.is_err.ensures.value ∙ c.if-is_err.true)
    (c.wipe_table.ensures ∙ ap (replicate (length after.names)) (search rules))
    (c.wipe_table-then-is_err.ensures ∙ ap (replicate (length after.kinds)) (search rules))
    (c.wipe_table-then-is_err-2.ensures ∙ ap (replicate (length after.nodes)) (search rules))
    c.fill-answer.ensures

pub returns-else-is_err : goal.returns-else-is_err
returns-else-is_err c = kept_filled c.args.text.now (lent c.args.names.now c.args.kinds.now c.args.nodes.now) _ c.fill-answer.result (sym c.is_err.ensures.value ∙ c.if-is_err.false) c.fill-answer.ensures
