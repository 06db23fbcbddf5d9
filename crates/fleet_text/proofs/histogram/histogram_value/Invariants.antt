use Rattle.std.proofs.Common.{◌≡◌, ◌++◌, map}
use Rattle.serde_json.specs.View.{view}
use Rattle.fleet_text.specs.Json.{entry_json}
use Rattle.fleet_text.proofs.histogram.histogram_value.Given as goal

-- what was made and what is left make the whole
abbrev pub invariant-loop-step : goal.invariant-loop-step
invariant-loop-step l = record {
  can : (goal.iterator-loop-step).can_next l.step-iterator;
  finite : (goal.iterator-loop-step).is_finite l.step-iterator;
  whole : map view l.entries.items ++ map entry_json l.step-iterator ≡ map entry_json l.histogram;
}
