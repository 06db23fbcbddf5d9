use Rattle.std.proofs.Common.{◌≡◌, ◌++◌, option_map}
use Rattle.serde_json.specs.Events.{items_len}
use Rattle.recording.specs.Forms.{ends_of}
use Rattle.recording.proofs.forms.EndsFromJson.from_json.Given as goal

-- the ends are those read so far, and those of the items that are left
abbrev pub invariant-loop-item : goal.invariant-loop-item
invariant-loop-item l = ends_of l.initial.items ≡ option_map (λ rest. l.ends ++ rest) (ends_of l.items)

abbrev pub decreases-loop-item : goal.decreases-loop-item
decreases-loop-item l = items_len l.items
