use Rattle.std.proofs.Common.{◌≡◌, ◌<◌, ℕ, IfSome, length}
use Rattle.stage_graph.specs.Plain.{stage_at}
use Rattle.recording_back.specs.Packed.{HasTypes}
use Rattle.recording_back.proofs.typed.stages_are_typed.Given as goal

-- the stages so far are typed
abbrev pub invariant-loop-place : goal.invariant-loop-place
invariant-loop-place g l = ((place : ℕ) → place < l.place → IfSome (stage_at l.graph.places place) HasTypes) × (l.place-end ≡ length l.graph.places)
