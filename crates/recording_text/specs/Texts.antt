-- The text of a recording of form 2: a stage a line.
use Rattle.std.specs.Prelude.{ℕ, Bool, true, false, List, [], ◌∷◌, ◌++◌, codes, if◌then◌else◌, Option, Some, None}
use Rattle.json.specs.Print.{print}
use Rattle.json.specs.Tree.{json_tokens}
use Rattle.act_expr.specs.declared.outcome.Mode.{Mode}
use Rattle.stage_graph.specs.declared.stage.Stage.{Stage}
use Rattle.stage_graph.specs.declared.stage.Spec.{Spec}
use Rattle.stage_graph.specs.Plain.{PlainGraph}
use Rattle.recording.specs.WrittenStages.{mode_text}
use Rattle.recording_text.specs.Json.{stage_json}
use Rattle.recording_text.specs.Named.{named_stage, specs_of}

abbrev pub head_text : Mode → List ℕ
head_text mode = codes "{\"form\":2,\"wrap\":\"" ++ mode_text mode ++ codes "\",\"stages\":["

-- what ends the line before a stage: a comma stands after an earlier stage
abbrev pub line_break : Bool → List ℕ
line_break later = if later then codes ",\n" else codes "\n"

-- the JSON of a stage, without a space
abbrev pub stage_text : Spec → List ℕ
stage_text stage = print (json_tokens (stage_json stage))

-- the lines of stages; `later` where a stage stands before them
abbrev pub lines : Bool → List Spec → List ℕ
lines later [] = []
lines later (stage ∷ stages) = line_break later ++ stage_text stage ++ lines true stages

abbrev pub end_text : List ℕ
end_text = codes "\n]}\n"

-- the text of the recording that these stages are
abbrev pub text_of : Mode → List Spec → List ℕ
text_of mode stages = head_text mode ++ lines false stages ++ end_text

unfoldable pub recording_text : PlainGraph → List ℕ
recording_text graph = text_of graph.mode (specs_of graph)

-- what is written for a place: nothing for an empty one
abbrev pub place_text : List (Option Stage) → Bool → Option Stage → List ℕ
place_text places later None = []
place_text places later (Some stage) = line_break later ++ stage_text (named_stage places stage)
