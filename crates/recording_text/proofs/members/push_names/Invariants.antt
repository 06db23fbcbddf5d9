use Rattle.std.proofs.Common.{◌≡◌, ◌++◌, map, take}
use Rattle.json.specs.Json.{string}
use Rattle.recording_text.specs.Json.{list_tokens}
use Rattle.recording_text.specs.Named.{name_at}
use Rattle.recording_text.proofs.members.push_names.Given as goal

-- the names so far
abbrev pub invariant-loop-place : goal.invariant-loop-place
invariant-loop-place g l = l.line ≡ l.fn.line ++ list_tokens string (map (name_at l.graph.places) (take l.place-index l.places))
