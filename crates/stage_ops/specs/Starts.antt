-- When the action of a stage starts by its operation alone, whatever its pins and ends make of the stage.
use Rattle.std.specs.Prelude.{ℕ, Option, Some, None}
use Rattle.act_expr.specs.declared.outcome.Mode.{Mode}
use Rattle.stage_graph.specs.declared.stage.Stage.{Stage}
use Rattle.stage_ops.specs.declared.natural.Progress.{Progress}
use Rattle.stage_ops.specs.declared.natural.Progress.TheVariants.{Waits, Completes, Awaits}
use Rattle.stage_ops.specs.Natural.{progress_of}
use Rattle.stage_ops.specs.States.{Completion}

-- none where no action starts: the stage waits, or passes on what its source came to
abbrev pub start_on : Progress → Option ℕ
start_on Waits = None
start_on (Completes done) = done.start
start_on (Awaits pick) = Some pick.start

abbrev pub action_start : Mode → Stage → (ℕ → Option Completion) → Option ℕ
action_start mode stage inputs = start_on (progress_of stage.op mode stage inputs)
