use Rattle.std.proofs.Common.{◌≡◌, ◌++◌, take}
use Rattle.json.specs.Json.{string}
use Rattle.recording_text.specs.Json.{list_tokens}
use Rattle.recording_text.proofs.members.push_each_name.Given as goal

-- the names so far
abbrev pub invariant-loop-name : goal.invariant-loop-name
invariant-loop-name l = l.line ≡ l.fn.line ++ list_tokens string (take l.name-index l.names)
