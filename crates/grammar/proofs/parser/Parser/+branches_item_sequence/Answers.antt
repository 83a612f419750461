use Rattle.std.proofs.Common.{◌≡◌, ◌+◌, rules}
use Rattle.grammar.specs.Parts.{reader}
use Rattle.grammar.specs.declared.piece.Piece.TheVariants.{Bar}
use Rattle.grammar.specs.declared.refusal.Refusal.TheVariants.{TooDeep}
use Rattle.grammar.proofs.Cycle.{high_within, bar_first, branch_more, branch_unclosed, all_closed}
use Rattle.grammar.proofs.Finishing.{passed_on}
use Rattle.grammar.proofs.Sequences.{no_item_yet, arrow_unread, group_too_deep, group_read, group_unread}
use Rattle.grammar.proofs.parser.Parser.+branches_item_sequence.Goals as goal

pub branches-returns-then-ne : goal.branches-returns-then-ne
branches-returns-then-ne t c =
    all_closed c.args.depth (reader c.args.self.now) (reader c.loop-mark.self) (reader c.sequence.new.self) c.loop-mark.invariant c.in_ok-mark.mark c.in_ok-mark.ensures c.len-from.result c.len-begin.result c.len-from.ensures.value c.len-begin.ensures.value c.args.closing c.requires (reader c.end.new.self) c.end.result c.end.ensures

pub branches-next_branch-requires : goal.branches-next_branch-requires
branches-next_branch-requires t c =
    let r = reader c.args.self.now in
    let m = reader c.loop-mark.self in
    let n = reader c.sequence.new.self in
    let q = c.in_ok-mark.ensures in
    let same : c.in_ok-mark.mark.piece ≡ Bar = search rules in
    (bar_first c.args.depth r m n c.loop-mark.invariant c.in_ok-mark.mark q c.len-from.result c.len-begin.result c.len-from.ensures.value c.len-begin.ensures.value same, high_within c.args.depth r m n c.loop-mark.invariant c.in_ok-mark.mark q c.len-from.result c.len-begin.result c.len-from.ensures.value c.len-begin.ensures.value)

pub branches-loop-mark-preserved : goal.branches-loop-mark-preserved
branches-loop-mark-preserved t c =
    branch_more c.args.depth (reader c.args.self.now) (reader c.loop-mark.self) (reader c.sequence.new.self) c.loop-mark.invariant c.in_ok-mark.mark c.in_ok-mark.ensures c.len-from.result c.len-begin.result c.len-from.ensures.value c.len-begin.ensures.value (reader c.next_branch.new.self) c.in_ok-next_branch.ensures

pub branches-returns-in_err-next_branch : goal.branches-returns-in_err-next_branch
branches-returns-in_err-next_branch t c =
    passed_on c.from_residual-in_err-next_branch.result c.in_err-next_branch.field-0.0 _ _ c.from_residual-in_err-next_branch.ensures.1
    (branch_unclosed c.args.depth (reader c.args.self.now) (reader c.loop-mark.self) (reader c.sequence.new.self) c.loop-mark.invariant c.in_ok-mark.mark c.in_ok-mark.ensures c.len-from.result c.len-begin.result c.len-from.ensures.value c.len-begin.ensures.value c.args.closing c.requires (reader c.next_branch.new.self) c.in_err-next_branch.field-0.0 c.in_err-next_branch.ensures)

pub item-returns-in_err-inside-in-Opening : goal.item-returns-in_err-inside-in-Opening
item-returns-in_err-inside-in-Opening t c =
    let full : c.args.depth.brackets ≡ 32 = search rules in
    let deep : c.in_err-inside-in-Opening.field-0.0 ≡ TooDeep c.in_ok-word.word.place = search rules in
    passed_on c.from_residual-in_err-inside-in-Opening.result (TooDeep c.in_ok-word.word.place) _ _ (search (c.from_residual-in_err-inside-in-Opening.ensures.1, deep, rules))
    (group_too_deep c.args.depth (reader c.args.self.now) c.in_ok-word.word c.in_ok-word.ensures c.in-Opening.bracket c.in-Opening.is full)

pub item-returns-in_err-node-in-Opening : goal.item-returns-in_err-node-in-Opening
item-returns-in_err-node-in-Opening t c =
    let inside = c.in_ok-inside-in-Opening.inside in
    let deeper : inside.brackets ≡ c.args.depth.brackets + 1 = search rules in
    passed_on c.from_residual-in_err-node-in-Opening.result c.in_err-node-in-Opening.field-0.0 _ _ c.from_residual-in_err-node-in-Opening.ensures.1
    (group_unread c.args.depth (reader c.args.self.now) c.in_ok-word.word c.in_ok-word.ensures c.in-Opening.bracket c.in-Opening.is inside deeper c.advance.new.self c.advance.ensures (reader c.branches.new.self) c.in_err-node-in-Opening.field-0.0 c.in_err-node-in-Opening.ensures)

pub item-returns-in-Arrow : goal.item-returns-in-Arrow
item-returns-in-Arrow t c = arrow_unread c.args.depth (reader c.args.self.now) c.in_ok-word.word c.in_ok-word.ensures c.in-Arrow.is

pub item-returns-in_ok-node-in-Opening : goal.item-returns-in_ok-node-in-Opening
item-returns-in_ok-node-in-Opening t c =
    let inside = c.in_ok-inside-in-Opening.inside in
    let deeper : inside.brackets ≡ c.args.depth.brackets + 1 = search rules in
    group_read c.args.depth (reader c.args.self.now) c.in_ok-word.word c.in_ok-word.ensures c.in-Opening.bracket c.in-Opening.is inside deeper c.advance.new.self c.advance.ensures (reader c.branches.new.self) c.in_ok-node-in-Opening.node c.in_ok-node-in-Opening.ensures

pub sequence-loop-node-init : goal.sequence-loop-node-init
sequence-loop-node-init t c = no_item_yet c.args.depth (reader c.args.self.now)
