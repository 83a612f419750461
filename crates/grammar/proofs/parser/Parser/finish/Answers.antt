use Rattle.grammar.specs.Parts.{forest}
use Rattle.grammar.proofs.Finishing.{passed_on, chain_over}
use Rattle.grammar.proofs.parser.Parser.finish.Goals as goal

pub returns-in_err-end_branch-clause-told : goal.returns-in_err-end_branch-clause-told
returns-in_err-end_branch-clause-told c =
    let e = c.in_err-end_branch.field-0.0 in
    passed_on c.from_residual.result e _ _ c.from_residual.ensures.1 (chain_over c.args.opened (forest c.args.self.now) _ e c.in_err-end_branch.ensures.told)
