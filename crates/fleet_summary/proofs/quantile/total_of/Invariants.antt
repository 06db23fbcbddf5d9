use Rattle.std.proofs.Common.{◌≡◌, ◌+◌, sum}
use Rattle.fleet_summary.specs.Histogram.{total_of}
use Rattle.fleet_summary.proofs.quantile.total_of.Given as goal

abbrev pub invariant-loop-number : goal.invariant-loop-number
invariant-loop-number l = record {
  can : (goal.iterator-loop-number).can_next l.number-iterator;
  finite : (goal.iterator-loop-number).is_finite l.number-iterator;
  sum : l.total + sum l.number-iterator ≡ total_of l.numbers.entries;
}
