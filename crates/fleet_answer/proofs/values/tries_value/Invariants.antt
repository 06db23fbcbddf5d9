use Rattle.std.proofs.Common.{◌≡◌, map, take}
use Rattle.serde_json.specs.View.{view}
use Rattle.fleet_answer.specs.Json.{try_json}
use Rattle.fleet_answer.proofs.values.tries_value.Given as goal

-- the values so far
abbrev pub invariant-loop-row : goal.invariant-loop-row
invariant-loop-row l = map view l.values.items ≡ map try_json (take l.row-index l.rows)
