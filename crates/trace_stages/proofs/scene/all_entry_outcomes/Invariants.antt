use Rattle.std.proofs.Common.{◌≡◌, map, take}
use Rattle.trace_stages.specs.Outcomes.{plain_outcomes, plain_sight}
use Rattle.trace_stages.specs.Scene.{all_entry_outcomes}
use Rattle.trace_stages.specs.Joins.{plain_joined}
use Rattle.trace_stages.proofs.scene.all_entry_outcomes.Given as goal

-- those so far
abbrev pub invariant-loop-joined : goal.invariant-loop-joined
invariant-loop-joined l = plain_outcomes l.all.items ≡ all_entry_outcomes (plain_sight l.sight) (map plain_joined (take l.joined-index l.entries))
