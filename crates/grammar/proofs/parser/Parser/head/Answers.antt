use Rattle.std.proofs.Common.{◌≡◌, ap, subst, sym, ◌∙◌, rules}
use Rattle.grammar.specs.Parts.{Reader, reader}
use Rattle.grammar.specs.declared.piece.Piece.TheVariants.{Name}
use Rattle.grammar.specs.Rules.{HeadRead}
use Rattle.grammar.specs.Words.{Advanced}
use Rattle.grammar.proofs.Finishing.{passed_on}
use Rattle.grammar.proofs.Ruling.{head_misplaced, head_over, head_again, head_read}
use Rattle.grammar.proofs.parser.Parser.head.Goals as goal

pub returns-then-ne : goal.returns-then-ne
returns-then-ne c =
    let other : c.args.word.piece ≡ Name → ⊥ = search rules in
    head_misplaced (reader c.args.self.now) c.args.word c.requires other

pub returns-in_err-name : goal.returns-in_err-name
returns-in_err-name c =
    let same : c.args.word.piece ≡ Name = search rules in
    let told = c.in_err-name.ensures in
    passed_on c.from_residual.result c.in_err-name.field-0.0 _ _ (search (c.from_residual.ensures.1, rules))
    (rw (told.beside, told.told) (head_over (reader c.args.self.now) c.args.word c.requires same c.name_number.new.self.names.now told.full told.over))

pub returns-then-has_rule : goal.returns-then-has_rule
returns-then-has_rule c =
    let same : c.args.word.piece ≡ Name = search rules in
    let told = c.in_ok-name.ensures in
    rw told.beside (head_again (reader c.args.self.now) c.args.word c.requires same c.name_number.new.self.names.now c.in_ok-name.name told.number told.loan (sym c.has_rule.ensures ∙ c.if-has_rule.true))

pub returns : goal.returns
returns c =
    let same : c.args.word.piece ≡ Name = search rules in
    let told = c.in_ok-name.ensures in
    let went = subst (λ w. Advanced w c.advance.new.self) (ap (λ (q : Reader). q.words) told.beside) c.advance.ensures in
    subst (λ (q : Reader). HeadRead (reader c.args.self.now) (record { words = c.advance.new.self; names = q.names; kinds = q.kinds; forest = q.forest; lenders = q.lenders }) c.in_ok-name.name) (sym told.beside)
    (head_read (reader c.args.self.now) c.args.word c.requires same c.name_number.new.self.names.now c.in_ok-name.name told.number told.loan (sym c.has_rule.ensures ∙ c.if-has_rule.false) c.advance.new.self went)
