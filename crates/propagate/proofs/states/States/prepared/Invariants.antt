use Rattle.std.proofs.Common.{◌≡◌, ℕ, length, take}
use Rattle.std.specs.Prelude.{if◌then◌else◌}
use Rattle.stage_ops.specs.States.{pending, state_at}
use Rattle.propagate.specs.Reach.{is_emptied}
use Rattle.propagate.proofs.states.States.prepared.Given as goal

abbrev pub invariant-loop-place : goal.invariant-loop-place
invariant-loop-place g l = record {
  count : length l.states ≡ length l.graph.places;
  states : (place : ℕ) → state_at l.states place ≡ (if is_emptied l.graph.places (take l.place-index l.edited) place then pending else state_at l.self place);
}
