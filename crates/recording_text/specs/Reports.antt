-- A version as a recording, where a script asks for it: as text, or as JSON.
use Rattle.std.specs.Prelude.{ℕ, ◌+◌, List, [], ◌∷◌, ◌++◌, codes, length, Option, Some, None, option_map}
use Rattle.std.specs.Fmt.{decimal}
use Rattle.json.specs.Json.{Json, string, object}
use Rattle.json.specs.Print.{print}
use Rattle.json.specs.Token.{Token}
use Rattle.json.specs.Tree.{json_tokens}
use Rattle.stage_graph.specs.declared.stage.Stage.{Stage}
use Rattle.stage_graph.specs.Plain.{PlainGraph}
use Rattle.recording_text.specs.Json.{Row, count, members_of, recording_json, row, stage_json}
use Rattle.recording_text.specs.Named.{named_stage, specs_of}
use Rattle.recording_text.specs.Texts.{recording_text}

-- the line before a recording: how many lines follow
abbrev pub report_head : ℕ → ℕ → List ℕ
report_head number lines = codes "recording of version " ++ decimal number ++ codes " lines " ++ decimal lines ++ codes "\n"

-- the recording as lines: two beside those of the stages
abbrev pub report_lines : ℕ → PlainGraph → List ℕ
report_lines number graph = report_head number (length (specs_of graph) + 2) ++ recording_text graph

abbrev pub report_rows : Option ℕ → ℕ → PlainGraph → List Row
report_rows line number graph =
    (codes "line", option_map count line)
    ∷ row (codes "recording") (recording_json graph.mode (specs_of graph))
    ∷ row (codes "report") (string (codes "recording"))
    ∷ row (codes "version") (count number)
    ∷ []

-- the recording as a member of an object, beside the number of the script's line that it answers, if there is a script
abbrev pub report_json : Option ℕ → ℕ → PlainGraph → Json
report_json line number graph = object (members_of (report_rows line number graph))

-- the object as one line
unfoldable pub report_object : Option ℕ → ℕ → PlainGraph → List ℕ
report_object line number graph = print (json_tokens (report_json line number graph)) ++ codes "\n"

-- ---- place by place

abbrev pub place_count : Option Stage → ℕ
place_count None = 0
place_count (Some stage) = 1

-- the tokens of the stage at a place: none for an empty one
abbrev pub place_tokens : List (Option Stage) → Option Stage → List Token
place_tokens places None = []
place_tokens places (Some stage) = json_tokens (stage_json (named_stage places stage))
