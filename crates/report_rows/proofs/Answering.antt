-- What a report is answered by: that it is not made, not written to its end, or written.
use Rattle.std.proofs.Common.{◌≡◌, ◌≢◌, ◌↔◌, Option, None, Some, Result, Ok, Err, refl, ap, ◌∙◌}
use Rattle.std.specs.Option.{option_map}
use Rattle.scratch_eval.specs.declared.fault.QueryFault.{QueryFault}
use Rattle.scratch_eval.specs.declared.fault.QueryFault.TheVariants as query
use Rattle.report_rows.specs.declared.fault.ReportFault.{ReportFault}
use Rattle.report_rows.specs.declared.fault.ReportFault.TheVariants.{NoStage, Write, Memory}
use Rattle.text_io.specs.declared.stopped.Stopped.{Stopped}
use Rattle.text_io.specs.declared.stopped.Stopped.TheVariants as stopped
use Rattle.text_io.specs.Writes.{failures_in}
use Rattle.report_rows.specs.Faults.{failed_writes, report_fault, unanswered}
use Rattle.report_rows.specs.Report.{Report}

-- the answer, and what the question for the report gives
abbrev pub Answered : Type 0
Answered = Result (Unit {0}) ReportFault

abbrev pub Asked : Type 0
Asked = Result Report QueryFault

abbrev fails : ReportFault → Answered
fails fault = Err fault

abbrev lacks : QueryFault → Asked
lacks fault = Err fault

-- ---- a report that is not made

-- no write failed
pub none_failed : (r : Answered) (fault : QueryFault) → r ≡ Err (unanswered fault) → failed_writes r ≡ 0
none_failed r query.NoStage is = ap failed_writes is
none_failed r query.Memory is = ap failed_writes is

missing : (fault : QueryFault) → fails (unanswered fault) ≡ fails NoStage → lacks fault ≡ lacks query.NoStage
missing query.NoStage is = refl
missing query.Memory is = cc

asked : (fault : QueryFault) → lacks fault ≡ lacks query.NoStage → fails (unanswered fault) ≡ fails NoStage
asked query.NoStage is = refl
asked query.Memory is = cc

nothing : {X Y : Type 0} (form : X → Y) (found : Option X) → option_map form found ≡ None → found ≡ None
nothing form None none = refl
nothing form (Some x) none = cc

-- it is for want of a stage where the question says so
pub no_stage : {Y : Type 0} (r : Answered) (fault : QueryFault) (form : Report → Y) (found : Option Report) → r ≡ Err (unanswered fault)
    → (lacks fault ≡ lacks query.NoStage) ↔ (found ≡ None) → (r ≡ fails NoStage) ↔ (option_map form found ≡ None)
no_stage r fault form found is (there, back) =
    rw is (λ same. ap (option_map form) (there (missing fault same)), λ none. asked fault (back (nothing form found none)))

-- ---- one that is made

some_form : {Y : Type 0} (form : Report → Y) (report : Report) (found : Option Report) → Some report ≡ found → option_map form found ≡ None → ⊥
some_form form report found is none = no_less (ap (option_map form) is ∙ none) where
  no_less : Some (form report) ≡ None → ⊥
  no_less e = cc

-- it is not for want of a stage that it is not written
pub stage_is_there : {Y : Type 0} (r : Answered) (fault : Stopped) (form : Report → Y) (report : Report) (found : Option Report) → r ≡ Err (report_fault fault) → Some report ≡ found
    → (r ≡ fails NoStage) ↔ (option_map form found ≡ None)
stage_is_there r fault form report found ended is = rw ended (λ same. absurd (other fault same), λ none. absurd (some_form form report found is none)) where
  other : (fault : Stopped) → fails (report_fault fault) ≡ fails NoStage → ⊥
  other stopped.Write same = cc
  other stopped.Memory same = cc

-- it is written
pub stage_was_there : {Y : Type 0} (done : Unit {0}) (form : Report → Y) (report : Report) (found : Option Report) → Some report ≡ found
    → (Ok done ≡ fails NoStage) ↔ (option_map form found ≡ None)
stage_was_there done form report found is = (λ same. absurd (other same), λ none. absurd (some_form form report found is none)) where
  other : Ok done ≡ fails NoStage → ⊥
  other same = cc

-- the failed writes that are counted are the same
pub same_failures : (r : Answered) (fault : Stopped) → r ≡ Err (report_fault fault) → failures_in (Err fault) ≡ failed_writes r
same_failures r stopped.Write is = rw is refl
same_failures r stopped.Memory is = rw is refl

-- what stops the writing is no want of a stage
pub is_there : (r : Answered) (fault : Stopped) → r ≡ Err (report_fault fault) → r ≢ Err NoStage
is_there r stopped.Write is same = cc
is_there r stopped.Memory is same = cc
