use Rattle.fleet_summary.proofs.HistogramAdded.{IsPartAdded}
use Rattle.fleet_summary.proofs.histogram.Histogram.add_each.Given as goal

abbrev pub invariant-loop-step : goal.invariant-loop-step
invariant-loop-step l = record {
  can : (goal.iterator-loop-step).can_next l.step-iterator;
  finite : (goal.iterator-loop-step).is_finite l.step-iterator;
  part : IsPartAdded l.initial.self l.numbers.entries l.self l.step-iterator;
}
