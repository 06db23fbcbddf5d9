use Rattle.std.proofs.Common.{◌≡◌, ◌++◌, map}
use Rattle.serde_json.specs.View.{view}
use Rattle.fleet_text.specs.Json.{failure_json}
use Rattle.fleet_text.proofs.values.failures_value.Given as goal

-- what was made and what is left make the whole
abbrev pub invariant-loop-failure : goal.invariant-loop-failure
invariant-loop-failure l = record {
  can : (goal.iterator-loop-failure).can_next l.failure-iterator;
  finite : (goal.iterator-loop-failure).is_finite l.failure-iterator;
  whole : map view l.values.items ++ map failure_json l.failure-iterator ≡ map failure_json l.failures;
}
