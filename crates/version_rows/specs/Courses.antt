-- When a stage did what.
use Rattle.std.specs.Prelude.{ℕ, ◌+◌, ◌-◌, ◌^◌, Bool, true, false, Option, None, Some, min, nat_le, nat_lt, if◌then◌else◌}
use Rattle.act_expr.specs.declared.outcome.Outcome.{Outcome}
use Rattle.act_expr.specs.declared.outcome.Outcome.TheVariants.{Value, Bare, Wrapped}
use Rattle.stage_graph.specs.declared.stage.Stage.{Stage}
use Rattle.stage_graph.specs.Plain.{PlainGraph}
use Rattle.stage_ops.specs.declared.reason.Reason.{Reason}
use Rattle.stage_ops.specs.declared.state.Done.{Done}
use Rattle.scratch_eval.specs.Path.{reason_at}
use Rattle.version_store.specs.Queries.{state_of}
use Rattle.version_store.specs.Starts.{action_start_at}
use Rattle.timeline_svg.specs.declared.row.Course.{Course}
use Rattle.timeline_svg.specs.declared.row.Course.TheVariants.{Service, Pending, Completed}
use Rattle.timeline_svg.specs.declared.row.Run.{Run}

abbrev pub has_failed : Outcome → Bool
has_failed (Value value) = false
has_failed (Bare name) = true
has_failed (Wrapped name) = true

-- ---- the action, which starts at a tick by the stage's operation

-- from the trigger on it is queued
abbrev pub trigger_of : Stage → ℕ → ℕ
trigger_of stage start = start - stage.queued

-- from its start on it runs; its end is told by 64 bits
abbrev pub end_of : Stage → ℕ → ℕ
end_of stage start = min (start + stage.runs) (2 ^ 64 - 1)

-- the end that it did not come to, where the stage completed before: an end of the stage struck, or a pin has it complete then
abbrev pub missed_end : ℕ → ℕ → Option ℕ
missed_end end completed = if nat_lt completed end then Some end else None

-- ---- the stage

-- the tick of its cause
abbrev pub since : Done → Reason → ℕ
since done reason = done.moment - reason.queued - reason.ran

-- its action was not triggered: all is at the completion
abbrev pub without_action : Done → Reason → Run
without_action done reason = record {
  triggered = done.moment;
  started = done.moment;
  ended = done.moment;
  missed_end = None;
  completed = done.moment;
  since = since done reason;
  has_failed = has_failed done.outcome;
}

-- its action was queued and ran, as far as it came before the stage completed; what was left of it then was cut off
abbrev pub with_action : Stage → Done → Reason → ℕ → Run
with_action stage done reason start = record {
  triggered = trigger_of stage start;
  started = min start done.moment;
  ended = min (end_of stage start) done.moment;
  missed_end = missed_end (end_of stage start) done.moment;
  completed = done.moment;
  since = since done reason;
  has_failed = has_failed done.outcome;
}

-- an action whose trigger comes after the completion is not triggered
abbrev pub run_of : Stage → Done → Reason → Option ℕ → Run
run_of stage done reason None = without_action done reason
run_of stage done reason (Some start) = if nat_le (trigger_of stage start) done.moment then with_action stage done reason start else without_action done reason

abbrev pub course_of : Stage → Option Done → Reason → Option ℕ → Course
course_of stage None reason start = Pending
course_of stage (Some done) reason start = Completed (run_of stage done reason start)

-- what became of the stage at a place, and of its action by its operation
abbrev pub course_at : PlainGraph → ℕ → Stage → Course
course_at graph place stage =
    course_of stage (state_of graph place).done (reason_at graph place) (action_start_at graph place)

-- a pending stage comes after all that started
abbrev pub start_of : Course → ℕ
start_of Service = 2 ^ 64 - 1
start_of Pending = 2 ^ 64 - 1
start_of (Completed run) = run.started

-- how long its action was queued and ran until it completed
abbrev pub own_ticks : Course → ℕ
own_ticks Service = 0
own_ticks Pending = 0
own_ticks (Completed run) = run.ended - run.triggered
