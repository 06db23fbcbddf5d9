-- Stages whose actions have one duration: a second set of definitions, without queueing and without starts.
use Rattle.std.specs.Prelude.{if◌then◌else◌, ℕ, pos, negsuc, ◌+◌, ◌++◌, max, map, List, length, Option, Some, None, slice_get}
use Rattle.std.specs.Option.{option_map, option_to_list}
use Rattle.act_expr.specs.declared.outcome.Mode.{Mode}
use Rattle.act_expr.specs.declared.outcome.Value.{Value}
use Rattle.act_expr.specs.declared.outcome.Value.TheVariants.{Null, Num}
use Rattle.act_expr.specs.declared.outcome.Outcome.{Outcome}
use Rattle.act_expr.specs.declared.outcome.Outcome.TheVariants.{Value as Normal, Bare, Wrapped}
use Rattle.act_expr.specs.declared.expr.Answer.{Answer}
use Rattle.act_expr.specs.declared.expr.Answer.TheVariants.{Gives, Throws}
use Rattle.act_expr.specs.ExceptionName.{null_pointer}
use Rattle.act_expr.specs.Outcome.{wrap}
use Rattle.stage_graph.specs.declared.end.End.{End}
use Rattle.stage_graph.specs.declared.op.Op.{Op}
use Rattle.stage_graph.specs.declared.op.Op.TheVariants.{Async, Manual, Completed, Failed, ThenApply, ThenAccept, ThenRun, Copy, Handle, WhenComplete, Exceptionally, ThenCompose, ExceptionallyCompose, ThenCombine, ThenAcceptBoth, RunAfterBoth, ApplyToEither, AcceptEither, RunAfterEither, AllOf, AnyOf}
use Rattle.stage_graph.specs.declared.stage.Stage.{Stage}
use Rattle.stage_graph.specs.Walk.{from_feeds}
use Rattle.stage_ops.specs.declared.sources.Source.{Source}
use Rattle.stage_ops.specs.declared.state.Reads.{Reads}
use Rattle.stage_ops.specs.declared.state.Reads.TheVariants.{Nothing, Sources, Picked}
use Rattle.stage_ops.specs.declared.state.State.{State}
use Rattle.stage_ops.specs.States.{Completion, seen_of}
use Rattle.stage_ops.specs.Earliest.{earliest}
use Rattle.stage_ops.specs.Sources.{source_at, completed, have_completed, moment_of, latest, earliest_failed}
use Rattle.stage_ops.specs.Actions.{answer_of, nothing, one_value, two_values, handed, instead, outcome_of}
use Rattle.stage_ops.specs.Running.{index_out_of_bounds, watched}
use Rattle.stage_ops.specs.AfterAll.{value_named}
use Rattle.stage_ops.specs.Natural.{blamed}
use Rattle.stage_ops.specs.Ended.{outcome_set, acts_at}

-- the progress of an operation, by its sources: it waits, it completes, or it waits for the inner stage
-- that its function has picked by its end
pub data Course : Type 0 where
  waits : Course
  completes : Completion → Course
  awaits : (index place end : ℕ) → Course

-- it completes at this moment
abbrev pub completes_at : ℕ → Outcome → Option ℕ → Course
completes_at moment outcome from = completes (record { outcome = outcome; moment = moment; from = from })

abbrev pub passes : ℕ → Value → Course
passes trigger value = completes_at trigger (Normal value) None

abbrev pub hands_on : ℕ → Source → Course
hands_on trigger source = completes_at trigger (wrap source.outcome) (Some source.place)

-- an action that runs ends its duration after the trigger
abbrev pub runs : Mode → Stage → ℕ → Answer → Course
runs mode stage trigger answer = completes_at (trigger + stage.runs) (outcome_of mode answer) None

-- the function of a compose operation picks an inner stage
abbrev pub awaits_place : Mode → Stage → ℕ → ℕ → Option ℕ → Course
awaits_place mode stage trigger index None = runs mode stage trigger (Throws index_out_of_bounds)
awaits_place mode stage trigger index (Some place) = awaits index place (trigger + stage.runs)

abbrev pub picked : Mode → Stage → ℕ → Value → Course
picked mode stage trigger Null = runs mode stage trigger (Throws null_pointer)
picked mode stage trigger (Num (negsuc index)) = runs mode stage trigger (Throws index_out_of_bounds)
picked mode stage trigger (Num (pos index)) = awaits_place mode stage trigger index (slice_get stage.inner index)

abbrev pub picks : Mode → Stage → ℕ → Answer → Course
picks mode stage trigger (Throws name) = runs mode stage trigger (Throws name)
picks mode stage trigger (Gives number) = picked mode stage trigger number

-- operations on one source or on the earliest of several, from a normal one ..
abbrev pub after_value : Op → Mode → Stage → ℕ → Value → Course
after_value ThenApply mode stage trigger value = runs mode stage trigger (answer_of stage (one_value value))
after_value ThenAccept mode stage trigger value = runs mode stage trigger (instead Null (answer_of stage (one_value value)))
after_value ThenRun mode stage trigger value = runs mode stage trigger (instead Null (answer_of stage nothing))
after_value Copy mode stage trigger value = passes trigger value
after_value Handle mode stage trigger value = runs mode stage trigger (answer_of stage (one_value value))
after_value WhenComplete mode stage trigger value = runs mode stage trigger (instead value (answer_of stage (one_value value)))
after_value Exceptionally mode stage trigger value = passes trigger value
after_value ThenCompose mode stage trigger value = picks mode stage trigger (answer_of stage (one_value value))
after_value ExceptionallyCompose mode stage trigger value = passes trigger value
after_value ApplyToEither mode stage trigger value = runs mode stage trigger (answer_of stage (one_value value))
after_value AcceptEither mode stage trigger value = runs mode stage trigger (instead Null (answer_of stage (one_value value)))
after_value RunAfterEither mode stage trigger value = runs mode stage trigger (instead Null (answer_of stage nothing))
after_value AnyOf mode stage trigger value = passes trigger value
after_value op mode stage trigger value = waits

-- .. and from an exceptional one
abbrev pub after_failure : Op → Mode → Stage → ℕ → Source → Course
after_failure Handle mode stage trigger source = runs mode stage trigger (answer_of stage (handed source.outcome))
after_failure WhenComplete mode stage trigger source = completes_at (trigger + stage.runs) (watched mode source.outcome) (Some source.place)
after_failure Exceptionally mode stage trigger source = runs mode stage trigger (answer_of stage (handed source.outcome))
after_failure ExceptionallyCompose mode stage trigger source = picks mode stage trigger (answer_of stage (handed source.outcome))
after_failure op mode stage trigger source = hands_on trigger source

abbrev pub after_outcome : Op → Mode → Stage → ℕ → Source → Outcome → Course
after_outcome op mode stage trigger source (Normal value) = after_value op mode stage trigger value
after_outcome op mode stage trigger source (Bare name) = after_failure op mode stage trigger source
after_outcome op mode stage trigger source (Wrapped name) = after_failure op mode stage trigger source

abbrev pub decided : Op → Mode → Stage → Option Source → Course
decided op mode stage None = waits
decided op mode stage (Some source) = after_outcome op mode stage (max stage.created source.moment) source source.outcome

abbrev pub after_earliest : Op → Mode → Stage → (ℕ → Option Completion) → Course
after_earliest op mode stage inputs = decided op mode stage (earliest moment_of (completed inputs stage.sources))

-- operations on all of their sources
abbrev pub after_values : Op → Mode → Stage → ℕ → Value → Value → Course
after_values ThenCombine mode stage trigger first second = runs mode stage trigger (answer_of stage (two_values first second))
after_values ThenAcceptBoth mode stage trigger first second = runs mode stage trigger (instead Null (answer_of stage (two_values first second)))
after_values RunAfterBoth mode stage trigger first second = runs mode stage trigger (instead Null (answer_of stage nothing))
after_values AllOf mode stage trigger first second = passes trigger Null
after_values op mode stage trigger first second = waits

abbrev pub unless_failed : Op → Mode → Stage → (ℕ → Option Completion) → ℕ → Option Source → Course
unless_failed op mode stage inputs trigger None = after_values op mode stage trigger (value_named inputs stage 0) (value_named inputs stage 1)
unless_failed op mode stage inputs trigger (Some source) = hands_on trigger source

abbrev pub after_all : Op → Mode → Stage → (ℕ → Option Completion) → Course
after_all op mode stage inputs =
    if have_completed inputs stage.sources
    then unless_failed op mode stage inputs (latest stage.created (completed inputs stage.sources)) (earliest_failed (completed inputs stage.sources))
    else waits

abbrev pub course_of : Op → Mode → Stage → (ℕ → Option Completion) → Course
course_of Async mode stage inputs = runs mode stage stage.created (answer_of stage nothing)
course_of Manual mode stage inputs = waits
course_of (Completed value) mode stage inputs = passes stage.created value
course_of (Failed name) mode stage inputs = completes_at stage.created (Bare name) None
course_of ThenCombine mode stage inputs = after_all ThenCombine mode stage inputs
course_of ThenAcceptBoth mode stage inputs = after_all ThenAcceptBoth mode stage inputs
course_of RunAfterBoth mode stage inputs = after_all RunAfterBoth mode stage inputs
course_of AllOf mode stage inputs = after_all AllOf mode stage inputs
course_of op mode stage inputs = after_earliest op mode stage inputs

-- the state of a stage by its operation
abbrev pub taken_over : ℕ → ℕ → Source → Completion
taken_over place end inner = record { outcome = wrap inner.outcome; moment = max end inner.moment; from = blamed place inner.outcome }

abbrev pub finished : (ℕ → Option Completion) → Course → Option Completion
finished inputs waits = None
finished inputs (completes completion) = Some completion
finished inputs (awaits index place end) = option_map (taken_over place end) (source_at inputs place)

abbrev pub natural : Mode → Stage → (ℕ → Option Completion) → Option Completion
natural mode stage inputs = finished inputs (course_of stage.op mode stage inputs)

-- then by its pins
abbrev pub set_to : Outcome → ℕ → Completion
set_to outcome moment = record { outcome = outcome; moment = moment; from = None }

abbrev pub with_result : Outcome → Completion → Completion
with_result outcome completion = set_to outcome completion.moment

abbrev pub with_moment : ℕ → Completion → Completion
with_moment moment completion = record { outcome = completion.outcome; moment = moment; from = completion.from }

abbrev pub with_pins : Option Outcome → Option ℕ → Option Completion → Option Completion
with_pins None None completion = completion
with_pins (Some outcome) None completion = option_map (with_result outcome) completion
with_pins None (Some moment) completion = option_map (with_moment moment) completion
with_pins (Some outcome) (Some moment) completion = Some (set_to outcome moment)

-- then by its ends
abbrev pub set_by : End → Completion
set_by end = set_to (outcome_set end.act) (acts_at end)

abbrev pub completed_at : Completion → ℕ
completed_at completion = completion.moment

abbrev pub ended : Stage → Option Completion → Option Completion
ended stage completion = earliest completed_at (option_to_list completion ++ map set_by stage.ends)

-- the feeds that it read
abbrev pub read_on : Course → Reads
read_on waits = Sources
read_on (completes completion) = Sources
read_on (awaits index place end) = Picked index

abbrev pub reads : Option Outcome → Option ℕ → Course → Reads
reads (Some outcome) (Some moment) course = Nothing
reads result moment course = read_on course

-- the state of a stage: its completion without a start, none while it is pending, and what it read
pub record Sight : Type 0 where
  pub completion : Option Completion
  pub reads : Reads

abbrev pub step_on : Mode → Stage → (ℕ → Option Completion) → Sight
step_on mode stage inputs = record {
  completion = ended stage (with_pins stage.pin_result stage.pin_moment (natural mode stage inputs));
  reads = reads stage.pin_result stage.pin_moment (course_of stage.op mode stage inputs);
}

abbrev pub completion_at : (ℕ → Sight) → ℕ → Option Completion
completion_at sights place = (sights place).completion

abbrev pub step : Mode → Stage → (ℕ → Sight) → Sight
step mode stage sights = step_on mode stage (completion_at sights)

-- of an empty place
abbrev pub nothing_seen : Sight
nothing_seen = record { completion = None; reads = Nothing }

abbrev pub at : Mode → List (Option Stage) → ℕ → Sight
at mode places place = from_feeds nothing_seen (step mode) places (length places) place

-- a state without its start
abbrev pub sight_of : State → Sight
sight_of state = record { completion = seen_of state; reads = state.reads }
