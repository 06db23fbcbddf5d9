use Rattle.std.proofs.Common.{◌≡◌, ℕ, length}
use Rattle.stage_ops.specs.States.{state_at}
use Rattle.propagate.proofs.states.States.grown.Given as goal

abbrev pub invariant-loop-turn : goal.invariant-loop-turn
invariant-loop-turn g l = record {
  count : length l.states ≡ l._turn;
  states : (place : ℕ) → state_at l.states place ≡ state_at l.self place;
}
