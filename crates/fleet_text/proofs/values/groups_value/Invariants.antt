use Rattle.std.proofs.Common.{◌≡◌, ◌++◌, map}
use Rattle.serde_json.specs.View.{view}
use Rattle.fleet_text.specs.Json.{group_json}
use Rattle.fleet_text.proofs.values.groups_value.Given as goal

-- what was made and what is left make the whole
abbrev pub invariant-loop-name : goal.invariant-loop-name
invariant-loop-name l = record {
  can : (goal.iterator-loop-name).can_next l.name-iterator;
  finite : (goal.iterator-loop-name).is_finite l.name-iterator;
  whole : map view l.values.items ++ map group_json l.name-iterator ≡ map group_json l.groups;
}
