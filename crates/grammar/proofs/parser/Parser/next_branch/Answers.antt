use Rattle.std.proofs.Common.{sym, ap, subst}
use Rattle.grammar.specs.Bodies.{BranchRead}
use Rattle.grammar.specs.Parts.{reader, forest}
use Rattle.grammar.proofs.Closing.{branch_read}
use Rattle.grammar.proofs.Moves.{advanced, words_gone}
use Rattle.grammar.proofs.parser.Parser.next_branch.Goals as goal

pub returns : goal.returns
returns c =
    let r = reader c.args.self.now in
    let h = c.in_ok-end_branch.ensures in
    subst (BranchRead c.args.begin r) (sym (ap (words_gone c.advance.new.self) h.beside)) (branch_read r c.requires.0 c.args.begin (forest c.end_branch.new.self) h.told c.advance.new.self (advanced _ _ c.advance.new.self (ap (λ q. q.words) h.beside) c.advance.ensures))
