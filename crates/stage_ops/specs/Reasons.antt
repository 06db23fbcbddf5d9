-- The reason of a stage's state: why it completed when it did, or why it is pending.
use Rattle.std.specs.Prelude.{ℕ, ◌+◌, List, [], ◌∷◌, ◌++◌, Option, Some, None, is_some, nat_lt, ◌==◌, if◌then◌else◌, slice_get}
use Rattle.std.specs.Option.{option_map, option_to_list}
use Rattle.act_expr.specs.declared.outcome.Mode.{Mode}
use Rattle.act_expr.specs.declared.outcome.Outcome.{Outcome}
use Rattle.stage_graph.specs.declared.end.End.{End}
use Rattle.stage_graph.specs.declared.op.Op.{Op}
use Rattle.stage_graph.specs.declared.op.Op.TheVariants.{Async, Manual, Completed, Failed, ThenCombine, ThenAcceptBoth, RunAfterBoth, AllOf}
use Rattle.stage_graph.specs.declared.stage.Stage.{Stage}
use Rattle.stage_ops.specs.declared.natural.Pick.{Pick}
use Rattle.stage_ops.specs.declared.natural.Progress.{Progress}
use Rattle.stage_ops.specs.declared.natural.Progress.TheVariants.{Waits, Completes, Awaits}
use Rattle.stage_ops.specs.declared.reason.Cause.{Cause}
use Rattle.stage_ops.specs.declared.reason.Cause.TheVariants.{Created, After, Inner, Pinned, Ended, Waiting, Open}
use Rattle.stage_ops.specs.declared.reason.Reason.{Reason}
use Rattle.stage_ops.specs.declared.reasons.Explained.{Explained}
use Rattle.stage_ops.specs.declared.sources.Source.{Source}
use Rattle.stage_ops.specs.declared.state.Done.{Done}
use Rattle.stage_ops.specs.States.{Completion}
use Rattle.stage_ops.specs.Earliest.{earliest}
use Rattle.stage_ops.specs.Ended.{acts_at, set_by}
use Rattle.stage_ops.specs.Natural.{natural, progress_of}
use Rattle.stage_ops.specs.Pinned.{pinned}
use Rattle.stage_ops.specs.Sources.{completed, latest, moment_of, source_at}

-- only the cause: no action of the stage came after it
abbrev pub at_once : Cause → Reason
at_once cause = record { cause = cause; queued = 0; ran = 0 }

-- the cause, and then the stage's own action
abbrev pub by_action : Stage → Cause → Reason
by_action stage cause = record { cause = cause; queued = stage.queued; ran = stage.runs }

-- ---- the trigger

-- the sources whose completions the trigger counts: all of them, or only the earliest
abbrev pub waited_for : Op → Stage → (ℕ → Option Completion) → List Source
waited_for Async stage inputs = []
waited_for Manual stage inputs = []
waited_for (Completed value) stage inputs = []
waited_for (Failed name) stage inputs = []
waited_for ThenCombine stage inputs = completed inputs stage.sources
waited_for ThenAcceptBoth stage inputs = completed inputs stage.sources
waited_for RunAfterBoth stage inputs = completed inputs stage.sources
waited_for AllOf stage inputs = completed inputs stage.sources
waited_for op stage inputs = option_to_list (earliest moment_of (completed inputs stage.sources))

-- the first of these that completed at a tick
abbrev pub first_at : ℕ → List Source → Option Source
first_at tick [] = None
first_at tick (source ∷ sources) = if source.moment == tick then Some source else first_at tick sources

abbrev pub triggered_by : Option Source → Cause
triggered_by None = Created
triggered_by (Some source) = After source.place

-- the first of the sources, of those that are waited for, that completed at the trigger; the creation where none did
abbrev pub trigger_cause : Stage → (ℕ → Option Completion) → Cause
trigger_cause stage inputs =
    triggered_by (first_at (latest stage.created (waited_for stage.op stage inputs)) (waited_for stage.op stage inputs))

-- ---- by its operation

-- the pending source that is named first
abbrev pub first_pending : (ℕ → Option Completion) → List ℕ → Option ℕ
first_pending inputs [] = None
first_pending inputs (place ∷ places) = if is_some (source_at inputs place) then first_pending inputs places else Some place

abbrev pub pending_on : Option ℕ → Cause
pending_on None = Open
pending_on (Some place) = Waiting place

-- from the trigger on: the action, where it started
abbrev pub since_trigger : Stage → Cause → Option ℕ → Reason
since_trigger stage cause None = at_once cause
since_trigger stage cause (Some start) = by_action stage cause

-- the later of the function's end and the picked stage's completion; at one tick the function's end
abbrev pub since_pick : Stage → Cause → Pick → Option Source → Reason
since_pick stage cause pick None = at_once (Waiting pick.place)
since_pick stage cause pick (Some inner) = if nat_lt pick.end inner.moment then at_once (Inner pick.place) else by_action stage cause

abbrev pub reason_on : Stage → (ℕ → Option Completion) → Progress → Reason
reason_on stage inputs Waits = at_once (pending_on (first_pending inputs stage.sources))
reason_on stage inputs (Completes done) = since_trigger stage (trigger_cause stage inputs) done.start
reason_on stage inputs (Awaits pick) = since_pick stage (trigger_cause stage inputs) pick (source_at inputs pick.place)

abbrev pub natural_reason : Mode → Stage → (ℕ → Option Completion) → Reason
natural_reason mode stage inputs = reason_on stage inputs (progress_of stage.op mode stage inputs)

-- ---- after its pins: a pinned moment is the cause, once there is a completion; a pinned result leaves the moment and so the cause as they are

abbrev pub with_pins_reason : Option Outcome → Option ℕ → Option Done → Reason → Reason
with_pins_reason result None natural reason = reason
with_pins_reason None (Some moment) None reason = reason
with_pins_reason None (Some moment) (Some done) reason = at_once Pinned
with_pins_reason (Some outcome) (Some moment) natural reason = at_once Pinned

-- ---- after its ends

abbrev pub explained : Reason → Done → Explained
explained reason done = record { done = done; reason = reason }

abbrev pub explained_done : Explained → Done
explained_done one = one.done

abbrev pub explained_moment : Explained → ℕ
explained_moment one = one.done.moment

-- the completions that the ends set, the first of them with this index
abbrev pub set_from : ℕ → List End → List Explained
set_from index [] = []
set_from index (end ∷ ends) = explained (at_once (Ended index)) (set_by end) ∷ set_from (index + 1) ends

abbrev pub reason_or : Reason → Option Explained → Reason
reason_or reason None = reason
reason_or reason (Some one) = one.reason

-- the completion, if there is one, and then those that the ends set
abbrev pub candidates : Option Done → Reason → List End → List Explained
candidates completion reason ends = option_to_list (option_map (explained reason) completion) ++ set_from 0 ends

-- the reason of the earliest of them; that for which it is pending where there is none
abbrev pub ended_reason : List End → Option Done → Reason → Reason
ended_reason ends completion reason = reason_or reason (earliest explained_moment (candidates completion reason ends))

-- the reason of a stage's state
abbrev pub reason : Mode → Stage → (ℕ → Option Completion) → Reason
reason mode stage inputs =
    ended_reason stage.ends (pinned stage (natural mode stage inputs))
    (with_pins_reason stage.pin_result stage.pin_moment (natural mode stage inputs) (natural_reason mode stage inputs))

-- ---- the parts of a reason

-- the feed that a cause names
abbrev pub feed_in : Cause → Option ℕ
feed_in Created = None
feed_in (After place) = Some place
feed_in (Inner place) = Some place
feed_in Pinned = None
feed_in (Ended index) = None
feed_in (Waiting place) = Some place
feed_in Open = None

-- the tick of a cause; none while it has not come
abbrev pub tick_of : Stage → (ℕ → Option Completion) → Cause → Option ℕ
tick_of stage inputs Created = Some stage.created
tick_of stage inputs (After place) = option_map moment_of (source_at inputs place)
tick_of stage inputs (Inner place) = option_map moment_of (source_at inputs place)
tick_of stage inputs Pinned = stage.pin_moment
tick_of stage inputs (Ended index) = option_map acts_at (slice_get stage.ends index)
tick_of stage inputs (Waiting place) = None
tick_of stage inputs Open = None

-- the reason's own ticks later
abbrev pub later_by : Reason → ℕ → ℕ
later_by reason tick = tick + reason.queued + reason.ran
