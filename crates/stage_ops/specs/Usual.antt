-- A stage that has neither a pin nor an end, and whose sources are normal. Only private contracts use it.
use Rattle.std.specs.Prelude.{ℕ, ◌≡◌, max, List, [], ◌∷◌, Option, Some, None, Result, Ok, true}
use Rattle.act_expr.specs.declared.outcome.Mode.{Mode}
use Rattle.act_expr.specs.declared.outcome.Value.{Value}
use Rattle.act_expr.specs.declared.outcome.Outcome.TheVariants.{Value as Holds}
use Rattle.act_expr.specs.declared.expr.Thrown.{Thrown}
use Rattle.act_expr.specs.Throwing.{as_answer}
use Rattle.stage_graph.specs.declared.stage.Stage.{Stage}
use Rattle.stage_ops.specs.declared.natural.Progress.TheVariants.{Completes}
use Rattle.stage_ops.specs.declared.sources.Source.{Source}
use Rattle.stage_ops.specs.declared.state.Done.{Done}
use Rattle.stage_ops.specs.declared.state.Reads.TheVariants.{Sources}
use Rattle.stage_ops.specs.declared.state.State.{State}
use Rattle.stage_ops.specs.declared.usual.Normal.{Normal}
use Rattle.stage_ops.specs.declared.usual.Returned.{Returned}
use Rattle.stage_ops.specs.Actions.{outcome_of}
use Rattle.stage_ops.specs.States.{Completion}
use Rattle.stage_ops.specs.Sources.{source_at, completed, have_completed, latest, earliest_failed}
use Rattle.stage_ops.specs.Running.{start_of, end_of}
use Rattle.stage_ops.specs.AfterOne.{after_value}
use Rattle.stage_ops.specs.Natural.{progress_of}
use Rattle.stage_ops.specs.Java.{java_step}

abbrev pub as_source : Normal → Source
as_source normal = record { place = normal.place; outcome = Holds normal.value; moment = normal.moment }

-- the action runs at this trigger, and the stage completes with what it gave or threw when it ends
abbrev pub return_after : Stage → ℕ → Result Value Thrown → Returned
return_after stage trigger given = record { given = given; moment = end_of stage trigger; start = Some (start_of stage trigger) }

-- a value passes at this trigger, and no action runs
abbrev pub pass_at : ℕ → Value → Returned
pass_at trigger value = record { given = Ok value; moment = trigger; start = None }

abbrev pub as_done : Mode → Returned → Done
as_done mode returned = record { outcome = outcome_of mode (as_answer returned.given); moment = returned.moment; from = None; start = returned.start }

-- the state of a stage that has read its sources and has this completion
abbrev pub state_after : Mode → Returned → State
state_after mode returned = record { done = Some (as_done mode returned); reads = Sources }

-- the operation completes so, in either mode
abbrev pub IsProgress : Stage → (ℕ → Option Completion) → Returned → Type 0
IsProgress stage inputs returned = (mode : Mode) → progress_of stage.op mode stage inputs ≡ Completes (as_done mode returned)

-- all of these sources are normal, and the last of them and the creation is at this moment
pub record AreNormal (created : ℕ) (inputs : ℕ → Option Completion) (places : List ℕ) (trigger : ℕ) : Type 0 where
  pub all : have_completed inputs places ≡ true
  pub last : trigger ≡ latest created (completed inputs places)
  pub normal : earliest_failed (completed inputs places) ≡ None

-- decided by a source with this value, the stage completes so, in either mode
abbrev pub IsAfterValue : Stage → ℕ → Value → Returned → Type 0
IsAfterValue stage trigger value returned = (mode : Mode) → after_value stage.op mode stage trigger value ≡ Completes (as_done mode returned)

-- after two normal sources with these values the stage completes with what is its own
abbrev pub IsOwnAfterTwo : Stage → Value → Value → Result Value Thrown → Type 0
IsOwnAfterTwo stage value other own = (inputs : ℕ → Option Completion) (place second moment later : ℕ) → stage.sources ≡ place ∷ second ∷ []
    → source_at inputs place ≡ Some (record { place = place; outcome = Holds value; moment = moment })
    → source_at inputs second ≡ Some (record { place = second; outcome = Holds other; moment = later })
    → IsProgress stage inputs (return_after stage (max moment (max later stage.created)) own)

pub record IsPlain (stage : Stage) : Type 0 where
  pub result : stage.pin_result ≡ None
  pub moment : stage.pin_moment ≡ None
  pub ends : stage.ends ≡ []

-- the stage has the state of this completion, in either mode
abbrev pub IsUsual : Stage → (ℕ → Option Completion) → Returned → Type 0
IsUsual stage inputs returned = (mode : Mode) → java_step mode stage inputs ≡ state_after mode returned
