use Rattle.std.proofs.Common.{◌≡◌, take, replicate}
use Rattle.tables.proofs.wipe.wipe_table.Given as goal

abbrev pub invariant-loop-place : goal.invariant-loop-place
invariant-loop-place g l = take l.place-index l.table ≡ replicate l.place-index l.zero
