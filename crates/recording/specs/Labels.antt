-- What the labels of a recording tell.
use Rattle.std.specs.Prelude.{ℕ, Bool, List, [], Option, Result, Ok, Err, is_some, option_and_then, codes, unwrap_or}
use Rattle.serde_json.specs.Data.{Data}
use Rattle.serde_json.specs.Find.{as_number, as_str, as_u64, get}
use Rattle.stage_graph.specs.Plain.{PlainGraph}
use Rattle.recording.specs.RecordingOf.{json_of}
use Rattle.recording.specs.declared.fault.Fault.{Fault}

-- the text of a member
abbrev pub text_in : List ℕ → Data → Option (List ℕ)
text_in name recording = option_and_then as_str (get name recording)

-- the count that a member is
abbrev pub count_in : List ℕ → Data → Option ℕ
count_in name recording = option_and_then as_u64 (option_and_then as_number (get name recording))

abbrev pub label : List ℕ → List ℕ → Option (List ℕ)
label name recording = option_and_then (text_in name) (json_of recording)

-- what a tick is; empty where that is not told
abbrev pub unit_label : List ℕ → List ℕ
unit_label recording = unwrap_or (label (codes "unit") recording) []

-- it was made of a trace, so the names of its stages begin with those of services
abbrev pub is_imported : List ℕ → Bool
is_imported recording = is_some (label (codes "trace") recording)

-- the tick by which there was to be a reply, where that is told
abbrev pub deadline_label : List ℕ → Option ℕ
deadline_label recording = option_and_then (count_in (codes "deadline")) (json_of recording)

-- the graph that was read, beside what is told of it
abbrev pub graph_read : {T : Type 0} → Result (PlainGraph × T) Fault → Result PlainGraph Fault
graph_read (Ok read) = Ok read.0
graph_read (Err fault) = Err fault
