use Rattle.std.proofs.Common.{◌≡◌, ◌++◌, drop, length}
use Rattle.recording_text.specs.Json.{list_tokens, stage_json}
use Rattle.recording_text.specs.Named.{named_among, specs_of}
use Rattle.recording_text.proofs.report.push_stages.Given as goal

pub record Pushing (Pushed Ends : Type 0) : Type 0 where
  pub pushed : Pushed
  pub ends : Ends

-- the tokens of the places that are left are not there yet
abbrev pub invariant-loop-place : goal.invariant-loop-place
invariant-loop-place g l = Pushing
    (l.line ++ list_tokens stage_json (named_among l.graph.places (drop l.place l.graph.places)) ≡ l.fn.line ++ list_tokens stage_json (specs_of l.graph))
    (l.place-end ≡ length l.graph.places)
