-- The numbers of the faults.
use Rattle.std.specs.Prelude.{ℕ}
use Rattle.session_core.specs.Refusals.{refusal_number}
use Rattle.desk.specs.declared.fault.CloseFault.{CloseFault}
use Rattle.desk.specs.declared.fault.CloseFault.TheVariants as close
use Rattle.desk.specs.declared.fault.EditFault.{EditFault}
use Rattle.desk.specs.declared.fault.EditFault.TheVariants as edit
use Rattle.desk.specs.declared.fault.ReadFault.{ReadFault}
use Rattle.desk.specs.declared.fault.ReadFault.TheVariants as read

abbrev pub read_number : ReadFault → ℕ
read_number read.NoVersion = 52
read_number read.Memory = 90

-- the refusals have numbers of their own
abbrev pub edit_number : EditFault → ℕ
edit_number edit.NoVersion = 52
edit_number (edit.Foreign number) = 56
edit_number (edit.Edits refusal) = refusal_number refusal
edit_number (edit.Table refusal) = refusal_number refusal
edit_number edit.Memory = 90

abbrev pub close_number : CloseFault → ℕ
close_number close.Missing = 60
close_number close.Torn = 61
