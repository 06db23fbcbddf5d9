use Rattle.std.proofs.Common.{◌≡◌, ◌++◌, option_map}
use Rattle.serde_json.specs.Events.{items_len}
use Rattle.recording.specs.Forms.{names_of}
use Rattle.recording.proofs.from_json.NameListFromJson.from_json.Given as goal

-- the names are those read so far, and those of the items that are left
abbrev pub invariant-loop-item : goal.invariant-loop-item
invariant-loop-item l = names_of l.initial.items ≡ option_map (λ rest. l.names ++ rest) (names_of l.items)

abbrev pub decreases-loop-item : goal.decreases-loop-item
decreases-loop-item l = items_len l.items
