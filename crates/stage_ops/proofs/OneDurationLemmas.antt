-- Where no action is queued, a stage has the state that it has with one duration, except for its start.
use Rattle.std.proofs.Common.{ℕ, zero, suc, length, pos, negsuc, ◌+◌, ◌≡◌, max, Bool, true, false, cond, nat_lt, List, [], ◌∷◌, ◌++◌, Option, Some, None, refl, ap, ◌∙◌, arith}
use Rattle.std.specs.Prelude.{map, slice_get}
use Rattle.std.specs.Option.{option_map, option_to_list}
use Rattle.std.proofs.lemmas.List.{map-append}
use Rattle.act_expr.specs.declared.outcome.Mode.{Mode}
use Rattle.act_expr.specs.declared.outcome.Value.{Value}
use Rattle.act_expr.specs.declared.outcome.Value.TheVariants.{Null, Num}
use Rattle.act_expr.specs.declared.outcome.Outcome.{Outcome}
use Rattle.act_expr.specs.declared.outcome.Outcome.TheVariants.{Value as Normal, Bare, Wrapped}
use Rattle.act_expr.specs.declared.expr.Answer.{Answer}
use Rattle.act_expr.specs.declared.expr.Answer.TheVariants.{Gives, Throws}
use Rattle.act_expr.specs.ExceptionName.{null_pointer}
use Rattle.stage_graph.specs.declared.end.End.{End}
use Rattle.stage_graph.specs.declared.op.Op.{Op}
use Rattle.stage_graph.specs.declared.op.Op.TheVariants.{Async, Manual, Completed, Failed, ThenApply, ThenAccept, ThenRun, Copy, Handle, WhenComplete, Exceptionally, ThenCompose, ExceptionallyCompose, ThenCombine, ThenAcceptBoth, RunAfterBoth, ApplyToEither, AcceptEither, RunAfterEither, AllOf, AnyOf}
use Rattle.stage_graph.specs.declared.stage.Stage.{Stage}
use Rattle.stage_graph.specs.Plain.{stage_at}
use Rattle.stage_graph.specs.Walk.{step_at, from_feeds}
use Rattle.stage_graph.proofs.Lists.{same_function}
use Rattle.stage_ops.specs.declared.natural.Pick.{Pick}
use Rattle.stage_ops.specs.declared.natural.Progress.{Progress}
use Rattle.stage_ops.specs.declared.natural.Progress.TheVariants.{Waits, Completes, Awaits}
use Rattle.stage_ops.specs.declared.sources.Source.{Source}
use Rattle.stage_ops.specs.declared.state.Done.{Done}
use Rattle.stage_ops.specs.declared.state.Reads.{Reads}
use Rattle.stage_ops.specs.States.{Completion, pending, seen, seen_at}
use Rattle.stage_ops.specs.Evaluation.{on_states, at}
use Rattle.stage_ops.specs.Earliest.{sooner, earliest}
use Rattle.stage_ops.specs.Sources.{source_of, completed, have_completed, moment_of, latest, earliest_failed}
use Rattle.stage_ops.specs.Actions.{answer_of, nothing}
use Rattle.stage_ops.specs.Running.{index_out_of_bounds, end_of, after_action}
use Rattle.stage_ops.specs.Running as running
use Rattle.stage_ops.specs.Picking as picking
use Rattle.stage_ops.specs.AfterOne as one
use Rattle.stage_ops.specs.AfterAll as all
use Rattle.stage_ops.specs.Natural as full
use Rattle.stage_ops.specs.Pinned as pins
use Rattle.stage_ops.specs.Ended as ends
use Rattle.stage_ops.specs.Reads as read
use Rattle.stage_ops.specs.Java.{java_step}
use Rattle.stage_ops.specs.OneDuration.{Course, waits, completes, awaits, completes_at, runs, awaits_place, picked, picks, after_value, after_failure, after_outcome, decided, after_earliest, after_values, unless_failed, after_all, course_of, finished, with_pins, set_by, completed_at, ended, read_on, reads, Sight, nothing_seen, step_on, step, sight_of}
use Rattle.stage_ops.specs.OneDuration as once

-- a progress without starts
abbrev seen_progress : Progress → Course
seen_progress Waits = waits
seen_progress (Completes done) = completes (seen done)
seen_progress (Awaits pick) = awaits pick.index pick.place pick.end

-- the table, case by case
module _ (mode : Mode) (stage : Stage) (idle : stage.queued ≡ 0) where
  ends_after : (trigger : ℕ) → end_of stage trigger ≡ trigger + stage.runs
  ends_after trigger = omega (arith, idle)

  same_action : (trigger : ℕ) (outcome : Outcome) (from : Option ℕ) → seen_progress (after_action stage trigger outcome from) ≡ completes_at (trigger + stage.runs) outcome from
  same_action trigger outcome from = ap (λ moment. completes_at moment outcome from) (ends_after trigger)

  same_runs : (trigger : ℕ) (answer : Answer) → seen_progress (running.runs mode stage trigger answer) ≡ runs mode stage trigger answer
  same_runs trigger answer = same_action trigger _ None

  same_awaits : (trigger index : ℕ) (place : Option ℕ) → seen_progress (picking.awaits mode stage trigger index place) ≡ awaits_place mode stage trigger index place
  same_awaits trigger index None = same_runs trigger (Throws index_out_of_bounds)
  same_awaits trigger index (Some place) = ap (λ end. awaits index place end) (ends_after trigger)

  same_picked : (trigger : ℕ) (number : Value) → seen_progress (picking.picked mode stage trigger number) ≡ picked mode stage trigger number
  same_picked trigger Null = same_runs trigger (Throws null_pointer)
  same_picked trigger (Num (negsuc index)) = same_runs trigger (Throws index_out_of_bounds)
  same_picked trigger (Num (pos index)) = same_awaits trigger index (slice_get stage.inner index)

  same_picks : (trigger : ℕ) (answer : Answer) → seen_progress (picking.picks mode stage trigger answer) ≡ picks mode stage trigger answer
  same_picks trigger (Throws name) = same_runs trigger (Throws name)
  same_picks trigger (Gives number) = same_picked trigger number

  same_value : (op : Op) (trigger : ℕ) (value : Value) → seen_progress (one.after_value op mode stage trigger value) ≡ after_value op mode stage trigger value
  same_value ThenApply trigger value = same_runs trigger _
  same_value ThenAccept trigger value = same_runs trigger _
  same_value ThenRun trigger value = same_runs trigger _
  same_value Copy trigger value = refl
  same_value Handle trigger value = same_runs trigger _
  same_value WhenComplete trigger value = same_runs trigger _
  same_value Exceptionally trigger value = refl
  same_value ThenCompose trigger value = same_picks trigger _
  same_value ExceptionallyCompose trigger value = refl
  same_value ApplyToEither trigger value = same_runs trigger _
  same_value AcceptEither trigger value = same_runs trigger _
  same_value RunAfterEither trigger value = same_runs trigger _
  same_value AnyOf trigger value = refl
  same_value op trigger value = refl

  same_failure : (op : Op) (trigger : ℕ) (source : Source) → seen_progress (one.after_failure op mode stage trigger source) ≡ after_failure op mode stage trigger source
  same_failure Handle trigger source = same_runs trigger _
  same_failure WhenComplete trigger source = same_action trigger _ (Some source.place)
  same_failure Exceptionally trigger source = same_runs trigger _
  same_failure ExceptionallyCompose trigger source = same_picks trigger _
  same_failure op trigger source = refl

  same_outcome : (op : Op) (trigger : ℕ) (source : Source) (outcome : Outcome) → seen_progress (one.after_outcome op mode stage trigger source outcome) ≡ after_outcome op mode stage trigger source outcome
  same_outcome op trigger source (Normal value) = same_value op trigger value
  same_outcome op trigger source (Bare name) = same_failure op trigger source
  same_outcome op trigger source (Wrapped name) = same_failure op trigger source

  same_decided : (op : Op) (source : Option Source) → seen_progress (one.decided op mode stage source) ≡ decided op mode stage source
  same_decided op None = refl
  same_decided op (Some source) = same_outcome op (max stage.created source.moment) source source.outcome

  same_values : (op : Op) (trigger : ℕ) (first second : Value) → seen_progress (all.after_values op mode stage trigger first second) ≡ after_values op mode stage trigger first second
  same_values ThenCombine trigger first second = same_runs trigger _
  same_values ThenAcceptBoth trigger first second = same_runs trigger _
  same_values RunAfterBoth trigger first second = same_runs trigger _
  same_values AllOf trigger first second = refl
  same_values op trigger first second = refl

  same_unless : (op : Op) (inputs : ℕ → Option Completion) (trigger : ℕ) (failed : Option Source)
      → seen_progress (all.unless_failed op mode stage inputs trigger failed) ≡ unless_failed op mode stage inputs trigger failed
  same_unless op inputs trigger None = same_values op trigger _ _
  same_unless op inputs trigger (Some source) = refl

  same_if : (b : Bool) (progress : Progress) (course : Course) → seen_progress progress ≡ course → seen_progress (cond b progress Waits) ≡ cond b course waits
  same_if true progress course same = same
  same_if false progress course same = refl

  same_all : (op : Op) (inputs : ℕ → Option Completion) → seen_progress (all.after_all op mode stage inputs) ≡ after_all op mode stage inputs
  same_all op inputs =
      same_if (have_completed inputs stage.sources) _ _
      (same_unless op inputs (latest stage.created (completed inputs stage.sources)) (earliest_failed (completed inputs stage.sources)))

  same_earliest : (op : Op) (inputs : ℕ → Option Completion) → seen_progress (one.after_earliest op mode stage inputs) ≡ after_earliest op mode stage inputs
  same_earliest op inputs = same_decided op (earliest moment_of (completed inputs stage.sources))

  same_course : (inputs : ℕ → Option Completion) (op : Op) → seen_progress (full.progress_of op mode stage inputs) ≡ course_of op mode stage inputs
  same_course inputs Async = same_runs stage.created (answer_of stage nothing)
  same_course inputs Manual = refl
  same_course inputs (Completed value) = refl
  same_course inputs (Failed name) = refl
  same_course inputs ThenCombine = same_all ThenCombine inputs
  same_course inputs ThenAcceptBoth = same_all ThenAcceptBoth inputs
  same_course inputs RunAfterBoth = same_all RunAfterBoth inputs
  same_course inputs AllOf = same_all AllOf inputs
  same_course inputs op = same_earliest op inputs

-- the inner stage, once it has completed
same_taken : (pick : Pick) (completion : Option Completion)
    → option_map seen (option_map (full.taken_over pick) (option_map (source_of pick.place) completion))
    ≡ finished (λ place. completion) (awaits pick.index pick.place pick.end)
same_taken pick None = refl
same_taken pick (Some completion) = refl

same_finished : (inputs : ℕ → Option Completion) (progress : Progress) → option_map seen (full.finished inputs progress) ≡ finished inputs (seen_progress progress)
same_finished inputs Waits = refl
same_finished inputs (Completes done) = refl
same_finished inputs (Awaits pick) = same_taken pick (inputs pick.place)

-- pins
same_pinned : (result : Option Outcome) (moment : Option ℕ) (done : Option Done) → option_map seen (pins.with_pins result moment done) ≡ with_pins result moment (option_map seen done)
same_pinned None None completion = refl
same_pinned (Some outcome) None None = refl
same_pinned (Some outcome) None (Some done) = refl
same_pinned None (Some moment) None = refl
same_pinned None (Some moment) (Some done) = refl
same_pinned (Some outcome) (Some moment) completion = refl

-- the earliest is the earliest also without starts
seen_if : (b : Bool) (first other : Done) → seen (cond b first other) ≡ cond b (seen first) (seen other)
seen_if true first other = refl
seen_if false first other = refl

seen_sooner : (first : Done) (other : Option Done) → seen (sooner ends.done_moment first other) ≡ sooner completed_at (seen first) (option_map seen other)
seen_sooner first None = refl
seen_sooner first (Some other) = seen_if (nat_lt other.moment first.moment) other first

seen_earliest : (items : List Done) → option_map seen (earliest ends.done_moment items) ≡ earliest completed_at (map seen items)
seen_earliest [] = refl
seen_earliest (first ∷ items) =
    ap (λ completion. Some completion) (seen_sooner first (earliest ends.done_moment items))
    ∙ ap (λ other. Some (sooner completed_at (seen first) other)) (seen_earliest items)

seen_ends : (items : List End) → map seen (map ends.set_by items) ≡ map set_by items
seen_ends [] = refl
seen_ends (end ∷ items) = ap (λ rest. set_by end ∷ rest) (seen_ends items)

seen_listed : (done : Option Done) → map seen (option_to_list done) ≡ option_to_list (option_map seen done)
seen_listed None = refl
seen_listed (Some done) = refl

same_ended : (stage : Stage) (done : Option Done) → option_map seen (ends.ended stage done) ≡ ended stage (option_map seen done)
same_ended stage done =
    seen_earliest (option_to_list done ++ map ends.set_by stage.ends)
    ∙ ap (earliest completed_at)
    (map-append seen (option_to_list done) (map ends.set_by stage.ends)
    ∙ ap (λ set. map seen (option_to_list done) ++ set) (seen_ends stage.ends)
    ∙ ap (λ first. first ++ map set_by stage.ends) (seen_listed done))

-- reads
same_read : (progress : Progress) → read.read_on progress ≡ read_on (seen_progress progress)
same_read Waits = refl
same_read (Completes done) = refl
same_read (Awaits pick) = refl

same_reads : (result : Option Outcome) (moment : Option ℕ) (progress : Progress) → read.read_with_pins result moment (read.read_on progress) ≡ reads result moment (seen_progress progress)
same_reads None None progress = same_read progress
same_reads (Some outcome) None progress = same_read progress
same_reads None (Some moment) progress = same_read progress
same_reads (Some outcome) (Some moment) progress = refl

-- the whole step
pub same_step : (mode : Mode) (stage : Stage) → stage.queued ≡ 0 → (inputs : ℕ → Option Completion) → sight_of (java_step mode stage inputs) ≡ step_on mode stage inputs
same_step mode stage idle inputs =
    let progress = full.progress_of stage.op mode stage inputs in
    let course : seen_progress progress ≡ course_of stage.op mode stage inputs = same_course mode stage idle inputs stage.op in
    let completion : option_map seen (ends.ended stage (pins.pinned stage (full.natural mode stage inputs))) ≡ (step_on mode stage inputs).completion =
    same_ended stage (pins.pinned stage (full.natural mode stage inputs))
    ∙ ap (ended stage) (same_pinned stage.pin_result stage.pin_moment (full.finished inputs progress)
    ∙ ap (with_pins stage.pin_result stage.pin_moment) (same_finished inputs progress ∙ ap (finished inputs) course)) in
    let read_too : read.reads mode stage inputs ≡ (step_on mode stage inputs).reads =
    same_reads stage.pin_result stage.pin_moment progress ∙ ap (reads stage.pin_result stage.pin_moment) course in
    ap (λ completion. sight completion (read.reads mode stage inputs)) completion ∙ ap (sight (step_on mode stage inputs).completion) read_too where
      sight : Option Completion → Reads → Sight
      sight completion reads = record { completion = completion; reads = reads }

-- each level of the whole graph
same_levels : (mode : Mode) (places : List (Option Stage)) → ((place : ℕ) (stage : Stage) → stage_at places place ≡ Some stage → stage.queued ≡ 0)
    → (levels place : ℕ) → sight_of (from_feeds pending (on_states (java_step mode)) places levels place) ≡ from_feeds nothing_seen (step mode) places levels place
same_levels mode places idle zero place = refl
same_levels mode places idle (suc levels) place = at_level (same_levels mode places idle levels) (stage_at places place) refl where
  at_level : ((place : ℕ) → sight_of (from_feeds pending (on_states (java_step mode)) places levels place) ≡ from_feeds nothing_seen (step mode) places levels place)
      → (here : Option Stage) → stage_at places place ≡ here
      → sight_of (step_at pending (on_states (java_step mode)) (from_feeds pending (on_states (java_step mode)) places levels) here)
      ≡ step_at nothing_seen (step mode) (from_feeds nothing_seen (step mode) places levels) here
  at_level below None empty = refl
  at_level below (Some stage) here =
      same_step mode stage (idle place stage here) (seen_at (from_feeds pending (on_states (java_step mode)) places levels))
      ∙ ap (step_on mode stage) (same_function (λ feed. ap (λ (sight : Sight). sight.completion) (below feed)))

pub same_at : (mode : Mode) (places : List (Option Stage)) → ((place : ℕ) (stage : Stage) → stage_at places place ≡ Some stage → stage.queued ≡ 0)
    → (place : ℕ) → sight_of (at (java_step mode) places place) ≡ once.at mode places place
same_at mode places idle place = same_levels mode places idle (length places) place
