use Rattle.std.proofs.Common.{◌≡◌, ◌++◌, take}
use Rattle.recording_text.specs.Json.{end_json, list_tokens}
use Rattle.recording_text.proofs.members.push_each_end.Given as goal

-- the ends so far
abbrev pub invariant-loop-end : goal.invariant-loop-end
invariant-loop-end l = l.line ≡ l.fn.line ++ list_tokens end_json (take l.end-index l.ends)
