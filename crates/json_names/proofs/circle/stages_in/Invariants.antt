use Rattle.std.proofs.Common.{◌≡◌, ◌++◌}
use Rattle.serde_json.specs.Events.{items_len}
use Rattle.json_names.specs.Circles.{list_of, stages_of}
use Rattle.json_names.proofs.circle.stages_in.Given as goal

-- the stages are those so far, and those that are left
abbrev pub invariant-items : goal.invariant-items
invariant-items l = stages_of l.fn.recording ≡ l.stages.items ++ list_of l.items

abbrev pub decreases-items : goal.decreases-items
decreases-items l = items_len l.items
