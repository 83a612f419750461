use Rattle.std.proofs.Common.{refl}
use Rattle.lines.proofs.GrammarLines.{accepted_line, rejected_line}
use Rattle.lines.proofs.judged.JudgedDisplay.fmt.Goals as goal

pub returns-in-Ok-clause-writes : goal.returns-in-Ok-clause-writes
returns-in-Ok-clause-writes g c = rw (accepted_line c.args.self.now.0.now _ _ c.in-Ok.counts refl c.in-Ok.ensures) at c.write.ensures.writes

pub returns-in-Err-clause-writes : goal.returns-in-Err-clause-writes
returns-in-Err-clause-writes g c = rw (rejected_line c.args.self.now.0.now _ _ c.in-Err.refusal refl c.in-Err.ensures) at c.write-in-Err.ensures.writes
