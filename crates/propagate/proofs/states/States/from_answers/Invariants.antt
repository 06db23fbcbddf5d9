-- The states so far are those of the answers.
use Rattle.std.proofs.Common.{◌≡◌, ℕ, ◌<◌, length}
use Rattle.stage_ops.specs.States.{state_at}
use Rattle.scratch_eval.specs.Answers.{answer_at, state_of}
use Rattle.propagate.proofs.states.States.from_answers.Given as goal

abbrev pub invariant-loop-place : goal.invariant-loop-place
invariant-loop-place g l = record {
  count : length l.states ≡ l.place;
  told : (place : ℕ) → place < length l.states → state_at l.states place ≡ state_of (answer_at l.answers place);
}
