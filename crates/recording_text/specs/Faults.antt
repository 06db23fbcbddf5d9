-- Why a recording is not written to its end.
use Rattle.std.specs.Prelude.{ℕ, Result, Ok, Err}
use Rattle.recording_text.specs.declared.fault.TextFault.{TextFault}
use Rattle.recording_text.specs.declared.fault.TextFault.TheVariants.{Write, Memory}

abbrev pub fault_number : TextFault → ℕ
fault_number Write = 40
fault_number Memory = 90

-- how many of its writes failed
abbrev pub failed_writes : {A : Type 0} → Result A TextFault → ℕ
failed_writes (Ok done) = 0
failed_writes (Err Write) = 1
failed_writes (Err Memory) = 0
