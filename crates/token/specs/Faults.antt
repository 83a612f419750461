-- The numbers of faults.
use Rattle.std.specs.Prelude.{ℕ}
use Rattle.token.specs.declared.token.FaultCode.{FaultCode}
use Rattle.token.specs.declared.token.FaultCode.TheVariants.{BeginsNothing, Unclosed, Oversized, NoKind, OutOfRange}

abbrev pub fault_number : FaultCode → ℕ
fault_number BeginsNothing = 1
fault_number Unclosed = 2
fault_number Oversized = 3
fault_number NoKind = 4
fault_number OutOfRange = 5
