-- What may be answered to the text of a graph without a cycle.
use Rattle.std.specs.Prelude.{◌≡◌, ◌≤◌, ℕ, List, length, Option, Result, Ok, Err}
use Rattle.act_expr.specs.declared.outcome.Mode.{Mode}
use Rattle.stage_graph.specs.Plain.{PlainGraph}
use Rattle.stage_graph.specs.Sound.{IsSound}
use Rattle.stage_graph.specs.Walk.{IsRanked}
use Rattle.recording.specs.declared.fault.Fault.{Fault}
use Rattle.recording.specs.declared.fault.Fault.TheVariants.{Memory}
use Rattle.recording.specs.Reads.{IsNamed}
use Rattle.recording.specs.RecordingOf.{longest, named}
use Rattle.recording_text.specs.Labels.{Labelled, PlainHead, recording_with}
use Rattle.recording_back.specs.Packed.{AreTyped, IsRecordingOf, without_empty}

-- the answer is the graph, and no fault but out of memory takes its place
abbrev pub IsGraph : Result PlainGraph Fault → PlainGraph → Type 0
IsGraph (Ok answered) graph = answered ≡ graph
IsGraph (Err Memory) graph = Unit {0}
IsGraph (Err fault) graph = ⊥

-- whatever `read_recording` may answer to these bytes, by its contract, is the graph
abbrev pub IsAccepted : List ℕ → PlainGraph → Type 0
IsAccepted bytes graph = (answer : Result PlainGraph Fault) → IsNamed answer (named bytes) → IsGraph answer graph

-- a sound graph without a cycle has none without its empty places either
abbrev pub EachStaysRanked : Type 0
EachStaysRanked = (graph : PlainGraph) → IsSound graph → IsRanked graph.places → IsRanked (without_empty graph).places

-- the text of a recording of each sound graph without a cycle is accepted as that graph, without its empty places, unless the text is too long
abbrev pub EachGraphIsAccepted : Type 0
EachGraphIsAccepted =
    (graph : PlainGraph) (mode : Option Mode) (head : PlainHead) (stages : List Labelled) → IsSound graph → IsRanked graph.places → AreTyped graph.places → IsRecordingOf graph mode head stages
    → length (recording_with mode head stages) ≤ longest → IsAccepted (recording_with mode head stages) (without_empty graph)
