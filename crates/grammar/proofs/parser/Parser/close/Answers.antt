use Rattle.std.proofs.Common.{take, sym, ap, subst}
use Rattle.grammar.specs.Bodies.{level_at, Closed, Unclosed}
use Rattle.grammar.specs.Parts.{reader, roots, forest}
use Rattle.grammar.specs.declared.refusal.Refusal.TheVariants.{NodesFull}
use Rattle.grammar.proofs.Closing.{closed_full, closed_read}
use Rattle.grammar.proofs.Finishing.{passed_on}
use Rattle.grammar.proofs.Moves.{advanced, words_gone}
use Rattle.grammar.proofs.parser.Parser.close.Goals as goal

pub returns-in_err-node : goal.returns-in_err-node
returns-in_err-node c = λ depth.
    let r = reader c.args.self.now in
    let e = c.in_err-node.field-0.0 in
    let h = c.in_err-node.ensures in
    let l = level_at c.args.opened (roots c.args.self.now) in
    passed_on c.from_residual.result (NodesFull e.limit) _ _ c.from_residual.ensures.1
    (subst (λ q. Unclosed c.args.opened.closing depth l r q (NodesFull e.limit)) (sym h.beside) (closed_full r c.args.opened.from c.args.opened.begin c.args.opened.ordered c.args.opened.closing c.requires.0 (forest c.finish.new.self) e h.told depth))

pub returns : goal.returns
returns c = λ depth.
    let r = reader c.args.self.now in
    let h = c.in_ok-node.ensures in
    let ns = roots c.args.self.now in
    subst (λ q. Closed c.args.opened.closing depth (take c.args.opened.from ns) (level_at c.args.opened ns) r q c.in_ok-node.node) (sym (ap (words_gone c.advance.new.self) h.beside)) (closed_read r c.args.opened.from c.args.opened.begin c.args.opened.ordered c.args.opened.closing c.requires.0 (forest c.finish.new.self) c.in_ok-node.node h.told c.advance.new.self (advanced _ _ c.advance.new.self (ap (λ q. q.words) h.beside) c.advance.ensures) depth)
