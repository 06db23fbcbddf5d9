-- The numbers by which faults are printed.
use Rattle.std.specs.Prelude.{ℕ}
use Rattle.trace_spans.specs.declared.fault.Fault.{Fault}
use Rattle.trace_spans.specs.declared.fault.Fault.TheVariants.{TooLong, Json, NotATrace, Shape, SeveralTraces, NoTrace, Memory}

abbrev pub fault_number : Fault → ℕ
fault_number Json = 70
fault_number (Shape member) = 71
fault_number TooLong = 72
fault_number (NotATrace strange) = 80
fault_number NoTrace = 81
fault_number (SeveralTraces traces) = 82
fault_number Memory = 90
