-- What is told of a place.
use Rattle.std.proofs.Common.{◌≡◌, ℕ, Option, Some, None, Ok}
use Rattle.stage_graph.specs.declared.stage.Stage.{Stage}
use Rattle.stage_graph.specs.Plain.{PlainGraph, stage_at}
use Rattle.stage_ops.specs.declared.reason.Reason.{Reason}
use Rattle.scratch_eval.specs.Path.{reason_at}
use Rattle.version_store.specs.Queries.{of_stage, told}

-- the reason that is told is that of the place
pub told_reason : (graph : PlainGraph) (place : ℕ) (reason : Reason) → Ok reason ≡ told graph place (reason_at graph place) → reason ≡ reason_at graph place
told_reason graph place reason is = of (stage_at graph.places place) (reason_at graph place) is where
  of : (here : Option Stage) (answer : Reason) → Ok reason ≡ of_stage here answer → reason ≡ answer
  of None answer is = cc
  of (Some stage) answer is = cc
