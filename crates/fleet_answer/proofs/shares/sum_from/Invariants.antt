use Rattle.std.proofs.Common.{◌≡◌, ◌+◌}
use Rattle.fleet_answer.specs.Shares.{sum_from}
use Rattle.fleet_answer.proofs.shares.sum_from.Given as goal

-- what was added and what is left are the sum
abbrev pub invariant-loop-step : goal.invariant-loop-step
invariant-loop-step l = record {
  can : (goal.iterator-loop-step).can_next l.step-iterator;
  finite : (goal.iterator-loop-step).is_finite l.step-iterator;
  sum : l.sum + sum_from l.first l.step-iterator ≡ sum_from l.first l.histogram;
}
