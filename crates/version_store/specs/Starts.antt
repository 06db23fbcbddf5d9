-- When the action of the stage at a place starts by its operation, whatever its ends and pins make of the stage.
use Rattle.std.specs.Prelude.{ℕ, Option, None, Some}
use Rattle.stage_graph.specs.declared.stage.Stage.{Stage}
use Rattle.stage_graph.specs.Plain.{PlainGraph, stage_at}
use Rattle.stage_ops.specs.Starts.{action_start}
use Rattle.stage_ops.specs.States.{seen_at}
use Rattle.version_store.specs.Queries.{state_of}

abbrev pub action_start_in : PlainGraph → Option Stage → Option ℕ
action_start_in graph None = None
action_start_in graph (Some stage) = action_start graph.mode stage (seen_at (state_of graph))

abbrev pub action_start_at : PlainGraph → ℕ → Option ℕ
action_start_at graph place = action_start_in graph (stage_at graph.places place)
