-- The filled front of the table is what was read.
use Rattle.std.proofs.Common.{◌≡◌, ◌≤◌, length, take}
use Rattle.std.specs.Io.KnownBytes.{Consumes}
use Rattle.jobread.proofs.front.Given as goal

abbrev pub invariant-loop : goal.invariant-loop
invariant-loop g l = (length l.table ≡ length l.initial.table) × (l.count ≤ length l.table)
    × Consumes (g.R.Read.remaining l.initial.reader) (g.R.Read.remaining l.reader) (take l.count l.table)
