-- The page: its data stands as one JSON object, escaped, between two fixed texts.
use Rattle.std.specs.Prelude.{ℕ, List, ◌++◌, codes, Option, None, Some}
use Rattle.stage_graph.specs.Plain.{PlainGraph, name_of, stage_at}
use Rattle.version_store.specs.Plain.{PlainVersion}
use Rattle.recording_reports.specs.declared.all.WholeReport.TheVariants.{Ends, Failures}
use Rattle.recording_reports.specs.declared.stage.StageReport.TheVariants.{Explanation}
use Rattle.incident_page.specs.declared.frame.Frame.{Frame}
use Rattle.incident_page.specs.declared.frame.Heading.{Heading}
use Rattle.incident_page.specs.declared.frame.Script.{Script}
use Rattle.incident_page.specs.Data.{all_rescues, all_slacks, all_trials, stage_lines, text_json, whole_line}
use Rattle.incident_page.specs.Escaped.{escaped}
use Rattle.incident_page.specs.Scripts.{script_data, steps_data, versions_data}
use Rattle.incident_page.specs.Lines.{separated}

-- the program that wrote it, and the name of the file
abbrev pub heading_data : Heading → List ℕ
heading_data heading =
    (codes "{\"form\":1,\"program\":{\"name\":\"whatif\",\"version\":" ++ text_json heading.program.now) ++ (codes "},\"file\":" ++ text_json heading.file.now)

-- the recording as it was read
abbrev pub recording_data : List ℕ → List ℕ
recording_data recording = codes ",\"recording\":" ++ recording

-- what was read
abbrev pub read_data : Heading → List ℕ
read_data heading = script_data heading.script ++ recording_data heading.recording.now

-- what is told of all stages beside their states
abbrev pub whole_data : PlainVersion → List ℕ
whole_data version = (codes ",\"ends\":" ++ whole_line version Ends) ++ (codes ",\"failures\":" ++ whole_line version Failures)

-- the name of the stage at a place
abbrev pub name_data : ℕ → PlainGraph → List ℕ
name_data place graph = codes ",\"stage\":" ++ text_json (name_of (stage_at graph.places place))

-- why it ended as it did, a line each; the array is not closed
abbrev pub explanation_data : PlainVersion → ℕ → List ℕ
explanation_data version place = codes ",\"explain\":[" ++ separated (stage_lines version place Explanation)

abbrev pub explained_data : PlainVersion → ℕ → List ℕ
explained_data version place = name_data place version.graph ++ explanation_data version place

-- what trials of other stages come to for it
abbrev pub trial_data : PlainVersion → ℕ → List ℕ
trial_data version place =
    (codes "],\"sweep\":" ++ stage_lines version place all_trials) ++ (codes ",\"slack\":" ++ stage_lines version place all_slacks)
    ++ (codes ",\"rescue\":" ++ stage_lines version place all_rescues)

-- the stage that the page is about, if it is about one
abbrev pub target_data : PlainVersion → Option ℕ → List ℕ
target_data version None = codes ",\"stage\":null,\"explain\":null,\"sweep\":null,\"slack\":null,\"rescue\":null"
target_data version (Some place) = explained_data version place ++ trial_data version place

-- what comes before what the page is about
abbrev pub first_data : Heading → PlainVersion → List ℕ
first_data heading version = heading_data heading ++ read_data heading ++ whole_data version

-- and what comes after that
abbrev pub last_data : Option Script → PlainVersion → List PlainVersion → Option ℕ → List ℕ
last_data script version made target = target_data version target ++ versions_data version made ++ steps_data script

-- all of it: one JSON object
abbrev pub page_data : Heading → PlainVersion → List PlainVersion → Option ℕ → List ℕ
page_data heading version made target = first_data heading version ++ last_data heading.script version made target

-- the page: the data, escaped, between the fixed texts
abbrev pub page_of : Frame → List ℕ → List ℕ
page_of frame text = frame.head.now ++ escaped text ++ frame.tail.now
