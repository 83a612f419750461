use Rattle.std.proofs.Common.{◌≡◌, ◌-◌, length, take, drop}
use Rattle.std.specs.Iterator.Adapters.{rev_source}
use Rattle.std.specs.Slice.Iter.{windows_rest, windows_size}
use Rattle.notation.specs.Tables.{link}
use Rattle.tables.specs.Filling.{entries, RestKept}
use Rattle.tables.proofs.nodes.Nodes.link_row.Given as goal

-- pairs of a front of the row are left, and the row is linked from the front's last node on
abbrev pub invariant-loop-pair : goal.invariant-loop-pair
invariant-loop-pair l =
    let left = windows_rest (rev_source l.pair-iterator) in
    record {
      pairs : windows_size (rev_source l.pair-iterator) ≡ 2;
      front : left ≡ take (length left) l.row;
      nodes : entries l.self ≡ link (drop (length left - 1) l.row) (entries l.initial.self);
      kept : RestKept l.initial.self l.self;
      loan : l.self.table.ghost_name ≡ l.initial.self.table.ghost_name;
    }
