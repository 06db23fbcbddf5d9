use Rattle.fleet_answer.proofs.Leaving.{IsPartLeft}
use Rattle.fleet_answer.proofs.without.left_of.Given as goal

abbrev pub invariant-loop-step : goal.invariant-loop-step
invariant-loop-step l = record {
  can : (goal.iterator-loop-step).can_next l.step-iterator;
  finite : (goal.iterator-loop-step).is_finite l.step-iterator;
  part : IsPartLeft l.all l.taken l.left l.step-iterator;
}
