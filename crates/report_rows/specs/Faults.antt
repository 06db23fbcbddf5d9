-- Why a report ends early.
use Rattle.std.specs.Prelude.{ℕ, Result, Ok, Err}
use Rattle.scratch_eval.specs.declared.fault.QueryFault.{QueryFault}
use Rattle.scratch_eval.specs.declared.fault.QueryFault.TheVariants as query
use Rattle.report_rows.specs.declared.fault.ReportFault.{ReportFault}
use Rattle.report_rows.specs.declared.fault.ReportFault.TheVariants.{NoStage, Write, Memory}
use Rattle.text_io.specs.declared.stopped.Stopped.{Stopped}
use Rattle.text_io.specs.declared.stopped.Stopped.TheVariants as stopped

abbrev pub report_number : ReportFault → ℕ
report_number NoStage = 10
report_number Write = 40
report_number Memory = 90

-- what is answered where a report is not made, or not written to its end
abbrev pub unanswered : QueryFault → ReportFault
unanswered query.NoStage = NoStage
unanswered query.Memory = Memory

abbrev pub report_fault : Stopped → ReportFault
report_fault stopped.Write = Write
report_fault stopped.Memory = Memory

-- the count of failed writes: one if a failed write ended the call
abbrev pub failed_writes : {A : Type 0} → Result A ReportFault → ℕ
failed_writes (Ok done) = 0
failed_writes (Err NoStage) = 0
failed_writes (Err Write) = 1
failed_writes (Err Memory) = 0
