-- Faults that end the answers to a script, and how many writes failed.
use Rattle.std.specs.Prelude.{ℕ, Bool, true, false, Result, Ok, Err}
use Rattle.script_lines.specs.declared.fault.LineFault.{LineFault}
use Rattle.script_lines.specs.declared.fault.LineFault.TheVariants as line
use Rattle.serve_script.specs.declared.fault.AnswerFault.{AnswerFault}
use Rattle.serve_script.specs.declared.fault.AnswerFault.TheVariants as answer
use Rattle.serve_script.specs.declared.fault.ServeFault.{ServeFault}
use Rattle.serve_script.specs.declared.fault.ServeFault.TheVariants.{Memory, Write, Read}

abbrev pub unread : LineFault → ServeFault
unread line.Memory = Memory
unread line.Read = Read

abbrev pub served : AnswerFault → ServeFault
served answer.Memory = Memory
served answer.Write = Write

abbrev pub is_read_fault : ServeFault → Bool
is_read_fault Memory = false
is_read_fault Write = false
is_read_fault Read = true

-- one if a write fault ended the call
abbrev pub failed_writes : {A : Type 0} → Result A AnswerFault → ℕ
failed_writes (Ok a) = 0
failed_writes (Err answer.Memory) = 0
failed_writes (Err answer.Write) = 1

abbrev pub failed_writes_of_serve : {A : Type 0} → Result A ServeFault → ℕ
failed_writes_of_serve (Ok a) = 0
failed_writes_of_serve (Err Memory) = 0
failed_writes_of_serve (Err Write) = 1
failed_writes_of_serve (Err Read) = 0
