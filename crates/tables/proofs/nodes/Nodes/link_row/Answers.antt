use Rattle.std.proofs.Common.{◌≡◌, ◌-◌, ◌≤◌, length, drop, refl, ap, ◌∙◌, sym, arith}
use Rattle.std.proofs.Math.Seq.{take-length}
use Rattle.std.specs.Iterator.Adapters.{rev_source}
use Rattle.std.specs.Slice.Iter.{windows_rest}
use Rattle.tables.specs.Filling.{entries}
use Rattle.tables.proofs.Kept.{kept_none, kept_more}
use Rattle.tables.proofs.Rows.{linked_last, linked_more, front_less}
use Rattle.tables.proofs.nodes.Nodes.link_row.Goals as goal

pub loop-pair-init : goal.loop-pair-init
loop-pair-init c =
    let row = c.args.row.now in
    let whole : windows_rest (rev_source c.into_iter-pair-iterator.result) ≡ row = cc in
    record {
      pairs = cc;
      front = rw whole (sym (take-length row));
      nodes = rw whole (linked_last row (entries c.args.self.now));
      kept = kept_none c.args.self.now;
      loan = refl;
    }

pub loop-pair-preserved : goal.loop-pair-preserved
loop-pair-preserved c =
    let told = c.loop-pair.invariant in
    let joined = c.join_nodes.ensures in
    let step = c.in-Some.ensures.steps.1 in
    let row = c.args.row.now in
    let left = windows_rest (rev_source c.loop-pair.pair-iterator) in
    let two : 2 ≤ length left = omega arith in
    let last : c.in-Some.pair.now ≡ drop (length left - 2) left = step.1 ∙ ap (λ n. drop (length left - n) left) told.pairs in
    record {
      pairs = cc;
      front = rw step.2 (front_less row left told.front two);
      nodes = let more = linked_more row left told.front two (entries c.args.self.now) in cc;
      kept = kept_more c.args.self.now c.loop-pair.self c.join_nodes.new.self told.kept joined.kept;
      loan = joined.loan ∙ told.loan;
    }
