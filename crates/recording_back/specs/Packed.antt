-- A graph without its empty places: the stages behind an empty place move up.
use Rattle.std.specs.Prelude.{◌≡◌, ◌<◌, ◌≤◌, ◌^◌, ℕ, zero, suc, List, [], ◌∷◌, length, map, All, Option, None, Some, unwrap_or, Ok, IfSome}
use Rattle.json.specs.Lex.{tokens}
use Rattle.json.specs.Print.{print}
use Rattle.json.specs.Tree.{json_tokens}
use Rattle.act_expr.specs.declared.outcome.Mode.{Mode}
use Rattle.act_expr.specs.declared.outcome.Mode.TheVariants.{Computed}
use Rattle.stage_graph.specs.declared.stage.Stage.{Stage}
use Rattle.stage_graph.specs.Loading.{loaded}
use Rattle.stage_graph.specs.Plain.{PlainGraph, stage_at}
use Rattle.stage_graph.specs.Sound.{IsSound}
use Rattle.recording.specs.RecordingOf.{longest, named}
use Rattle.recording_text.specs.Labels.{Labelled, PlainHead, recording_with}
use Rattle.recording_text.specs.Named.{specs_of}
use Rattle.recording.specs.Written.{IsWellFormed}
use Rattle.recording.specs.WrittenStages.{AreEnds, IsOp, IsOutcome}
use Rattle.recording_text.specs.Reports.{report_json, report_object}
use Rattle.recording_back.specs.ReadBack.{HasLabels, IsBeside, specs_in}

-- how many stages stand before a place
abbrev pub moved : List (Option Stage) → ℕ → ℕ
moved [] place = 0
moved (here ∷ rest) zero = 0
moved (None ∷ rest) (suc place) = moved rest place
moved (Some stage ∷ rest) (suc place) = suc (moved rest place)

-- the stage where it stands then, fed by the stages where those stand
abbrev pub moved_stage : List (Option Stage) → Stage → Stage
moved_stage places stage = record stage { place = moved places stage.place; sources = map (moved places) stage.sources; inner = map (moved places) stage.inner }

abbrev pub moved_among : List (Option Stage) → List (Option Stage) → List (Option Stage)
moved_among places [] = []
moved_among places (None ∷ rest) = moved_among places rest
moved_among places (Some stage ∷ rest) = Some (moved_stage places stage) ∷ moved_among places rest

abbrev pub without_empty : PlainGraph → PlainGraph
without_empty graph = record { mode = graph.mode; places = moved_among graph.places graph.places }

-- the named stages of each sound graph are loaded as that graph, without its empty places
abbrev pub EachGraphIsLoaded : Type 0
EachGraphIsLoaded = (graph : PlainGraph) → IsSound graph → loaded graph.mode (specs_of graph) ≡ Ok (without_empty graph)

-- what Rust's types hold: the values are longs, and the exceptions have exception names
pub record HasTypes (stage : Stage) : Type 0 where
  pub op : IsOp stage.op
  pub action : IfSome stage.action IsWellFormed
  pub pin_result : IfSome stage.pin_result IsOutcome
  pub ends : AreEnds stage.ends

abbrev pub AreTyped : List (Option Stage) → Type 0
AreTyped places = (place : ℕ) (stage : Stage) → stage_at places place ≡ Some stage → HasTypes stage

-- a recording of the graph, which may name its mode and bear labels
pub record IsRecordingOf (graph : PlainGraph) (mode : Option Mode) (head : PlainHead) (stages : List Labelled) : Type 0 where
  pub names_mode : unwrap_or mode Computed ≡ graph.mode
  pub has_stages : specs_in stages ≡ specs_of graph
  pub beside : IsBeside head
  pub labels : All HasLabels stages

-- each sound graph, without its empty places, is what is read from the text of a recording of it, unless that is too long
abbrev pub EachGraphIsReadBack : Type 0
EachGraphIsReadBack =
    (graph : PlainGraph) (mode : Option Mode) (head : PlainHead) (stages : List Labelled) → IsSound graph → AreTyped graph.places → IsRecordingOf graph mode head stages
    → length (recording_with mode head stages) ≤ longest → named (recording_with mode head stages) ≡ Ok (without_empty graph)

-- the JSON of an answer that is a version's recording has its tokens, and so has the line that is written of it
abbrev pub HasItsTokens : Option ℕ → ℕ → PlainGraph → Type 0
HasItsTokens line number graph =
    (tokens (print (json_tokens (report_json line number graph))) ≡ json_tokens (report_json line number graph))
    × (tokens (report_object line number graph) ≡ json_tokens (report_json line number graph))

abbrev pub EachObjectHasItsTokens : Type 0
EachObjectHasItsTokens =
    (line : Option ℕ) (number : ℕ) (graph : PlainGraph) → IfSome line (λ n. n < 2 ^ 64) → number < 2 ^ 64 → IsSound graph → AreTyped graph.places → HasItsTokens line number graph
