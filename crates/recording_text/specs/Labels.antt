-- The text of a recording that bears labels.
use Rattle.std.specs.Prelude.{◌≡◌, ℕ, Bool, true, false, List, [], ◌∷◌, ◌++◌, codes, map, Option, Some, None, option_map}
use Rattle.json.specs.Json.{Json, number, string, array, object}
use Rattle.json.specs.Print.{print}
use Rattle.json.specs.Token.{Token, begin_array, begin_object, key}
use Rattle.json.specs.Tree.{json_tokens}
use Rattle.act_expr.specs.declared.outcome.Mode.{Mode}
use Rattle.stage_graph.specs.declared.stage.Spec.{Spec}
use Rattle.recording.specs.WrittenStages.{mode_text}
use Rattle.recording_text.specs.declared.label.Head.{Head}
use Rattle.recording_text.specs.declared.label.Label.{Label}
use Rattle.recording_text.specs.declared.label.LabelGroup.{LabelGroup}
use Rattle.recording_text.specs.Json.{Row, items_of, members_of, row, rows_tokens, stage_rows}
use Rattle.recording_text.specs.Texts.{end_text, line_break}

-- a name, and the text that stands by it
abbrev pub PlainLabel : Type 0
PlainLabel = List ℕ × List ℕ

abbrev pub plain_label : Label → PlainLabel
plain_label label = (label.name.now, label.text.now)

-- a name, and the labels that stand by it
abbrev pub PlainGroup : Type 0
PlainGroup = List ℕ × List PlainLabel

abbrev pub plain_group : LabelGroup → PlainGroup
plain_group group = (group.name.now, map plain_label group.labels.now)

-- the labels of a recording, and a group of them
abbrev pub PlainHead : Type 0
PlainHead = List PlainLabel × PlainGroup

abbrev pub plain_head : Head → PlainHead
plain_head head = (map plain_label head.labels.now, plain_group head.group)

abbrev pub label_row : PlainLabel → Row
label_row label = row label.0 (string label.1)

abbrev pub label_rows : List PlainLabel → List Row
label_rows labels = map label_row labels

abbrev pub labels_json : List PlainLabel → Option Json
labels_json [] = None
labels_json (label ∷ labels) = Some (object (members_of (label_rows (label ∷ labels))))

-- a group without labels is left out
abbrev pub group_row : PlainGroup → Row
group_row group = (group.0, labels_json group.1)

-- a stage, and the labels behind its members
abbrev pub Labelled : Type 0
Labelled = Spec × List PlainLabel

unfoldable pub labelled_json : Spec → List PlainLabel → Json
labelled_json stage labels = object (members_of (stage_rows stage ++ label_rows labels))

abbrev pub json_in : Labelled → Json
json_in stage = labelled_json stage.0 stage.1

abbrev pub labelled_text : Labelled → List ℕ
labelled_text stage = print (json_tokens (json_in stage))

-- the lines of stages; `later` where a stage stands before them
abbrev pub labelled_lines : Bool → List Labelled → List ℕ
labelled_lines later [] = []
labelled_lines later (stage ∷ stages) = line_break later ++ labelled_text stage ++ labelled_lines true stages

-- ---- recordings, which may name a mode

abbrev pub mode_row : Option Mode → Row
mode_row mode = (codes "wrap", option_map (λ named. string (mode_text named)) mode)

abbrev pub head_rows : Option Mode → PlainHead → List Row
head_rows mode head = row (codes "form") (number (codes "2")) ∷ mode_row mode ∷ (label_rows head.0 ++ group_row head.1 ∷ [])

-- what comes before the stages
abbrev pub head_tokens : Option Mode → PlainHead → List Token
head_tokens mode head = begin_object ∷ (rows_tokens (head_rows mode head) ++ key (codes "stages") ∷ begin_array ∷ [])

abbrev pub labelled_head : Option Mode → PlainHead → List ℕ
labelled_head mode head = print (head_tokens mode head)

-- the text of a recording that bears labels
unfoldable pub recording_with : Option Mode → PlainHead → List Labelled → List ℕ
recording_with mode head stages = labelled_head mode head ++ labelled_lines false stages ++ end_text

-- the text of one that names no mode
abbrev pub labelled_recording : PlainHead → List Labelled → List ℕ
labelled_recording head stages = recording_with None head stages

-- the JSON of a recording that bears labels
abbrev pub json_with : Option Mode → PlainHead → List Labelled → Json
json_with mode head stages = object (members_of (head_rows mode head ++ row (codes "stages") (array (items_of json_in stages)) ∷ []))

-- ---- no labels

abbrev pub no_labels : PlainHead
no_labels = ([], ([], []))

abbrev pub unlabelled : Spec → Labelled
unlabelled stage = (stage, [])

-- ---- a text that is put together stage by stage

-- the bytes of a text without its end, and whether a stage stands in it
abbrev pub Begun : Type 0
Begun = List ℕ × Bool

abbrev pub stands : List Labelled → Bool
stands [] = false
stands (stage ∷ stages) = true

-- these stages behind the head
unfoldable pub begun : PlainHead → List Labelled → Begun
begun head stages = (labelled_head None head ++ labelled_lines false stages, stands stages)

-- behind the stages that stood in the text stands one more
abbrev pub GainsStage : Begun → Begun → Labelled → Type 0
GainsStage old new stage = (head : PlainHead) (stages : List Labelled) → old ≡ begun head stages → new ≡ begun head (stages ++ stage ∷ [])

-- the text is that of the recording whose stages stood in the begun one
abbrev pub IsFinished : Begun → List ℕ → Type 0
IsFinished old text = (head : PlainHead) (stages : List Labelled) → old ≡ begun head stages → text ≡ labelled_recording head stages
