-- The picture of a version of a recording.
use Rattle.std.specs.Prelude.{ℕ, ◌≡◌, ◌||◌, Bool, List, Option, None, Some, Result, Ok, Err, string_bytes, if◌then◌else◌}
use Rattle.std.specs.Option.{option_map}
use Rattle.stage_graph.specs.Plain.{PlainGraph, place_named}
use Rattle.recording.specs.Reads.{IsNamed}
use Rattle.recording.specs.RecordingOf.{named}
use Rattle.version_store.specs.Plain.{PlainVersion, opening_version}
use Rattle.timeline_svg.specs.Pictures.{IsPicture}
use Rattle.timeline_svg.specs.declared.window.Window.{Window}
use Rattle.timeline_trace.specs.Ticks.{tick_named}
use Rattle.timeline_trace.specs.Traces.{trace}
use Rattle.timeline_trace.specs.declared.labels.Labels.{Labels}
use Rattle.version_rows.specs.Drawings.{IsDrawing}
use Rattle.version_rows.specs.declared.drawing.Drawing.{Drawing}
use Rattle.version_rows.specs.declared.left_out.LeftOut.{LeftOut}
use Rattle.version_rows.specs.declared.room.Room.{Room}
use Rattle.version_rows.specs.declared.room.Room.TheVariants.{Picture, Services, Events}
use Rattle.recording_reports.specs.declared.fault.RecordingFault.{RecordingFault}
use Rattle.recording_reports.specs.declared.fault.RecordingFault.TheVariants.{Refused, NoStage, Write, Memory}
use Rattle.recording_pictures.specs.Told.{PlainTold, told_of}
use Rattle.recording_pictures.specs.declared.asked.Form.{Form}
use Rattle.recording_pictures.specs.declared.asked.Form.TheVariants.{Svg, TraceEvents}
use Rattle.recording_pictures.specs.declared.asked.Layout.{Layout}
use Rattle.recording_pictures.specs.declared.text.Written.{Written}

-- the ticks of trace events are those of the axis, and names begin with services in an imported recording, and where rows are to stand by service
abbrev pub labels_of : PlainTold → Bool → Labels
labels_of told by_service = record { tick = tick_named told.unit; has_services = told.is_imported || by_service; deadline = told.deadline }

-- the text shows what is drawn, as an SVG file in the ticks of the window
abbrev pub IsShown : Form → Window → Labels → Drawing → List ℕ → Type 0
IsShown Svg window labels drawing text = IsPicture drawing.heading window drawing.rows.items drawing.path.items text
IsShown TraceEvents window labels drawing text = text ≡ trace labels (string_bytes drawing.heading.title) drawing.rows.items drawing.path.items

-- events are read where there is room for many rows
abbrev pub room_of : Form → Bool → Room
room_of Svg by_service = if by_service then Services else Picture
room_of TraceEvents by_service = Events

-- the text shows a version of a recording in a file, of which this is told, with the path of the stage at a place, if there is one, and leaves so many stages out
abbrev pub IsShownOf : PlainVersion → PlainTold → Option (List ℕ) → Layout → Option ℕ → List ℕ → LeftOut → Type 0
IsShownOf version told file layout target text left_out =
    (drawing : Drawing) × IsDrawing version file told.unit told.deadline (room_of layout.form layout.by_service) layout.selection target drawing
    × IsShown layout.form layout.selection.window (labels_of told layout.by_service) drawing text × (drawing.left_out ≡ left_out)

-- the place of the stage of a name, where one is given; none where the graph has no such stage
abbrev pub target_of : PlainGraph → Option (List ℕ) → Option (Option ℕ)
target_of graph None = Some None
target_of graph (Some name) = option_map (λ place. Some place) (place_named graph.places name)

-- the place, or that there is none
abbrev pub IsFound : PlainGraph → Option (List ℕ) → Result (Option ℕ) RecordingFault → Type 0
IsFound graph name (Ok target) = target_of graph name ≡ Some target
IsFound graph name (Err NoStage) = target_of graph name ≡ None
IsFound graph name (Err other) = ⊥

-- ---- of a version

-- the text shows a version, with the path of the stage of a name, if one is given
pub record IsVersionPicture (version : PlainVersion) (told : PlainTold) (file : Option (List ℕ)) (layout : Layout) (name : Option (List ℕ)) (text : List ℕ) (left_out : LeftOut) : Type 0 where
  pub target : Option ℕ
  pub found : target_of version.graph name ≡ Some target
  pub shown : IsShownOf version told file layout target text left_out

-- the text, or why there is none: the version has no stage of the name, or memory ran out
abbrev pub IsMadeOf : PlainVersion → PlainTold → Option (List ℕ) → Layout → Option (List ℕ) → Result Written RecordingFault → Type 0
IsMadeOf version told file layout name (Ok written) = IsVersionPicture version told file layout name (string_bytes written.text) written.left_out
IsMadeOf version told file layout name (Err (Refused fault)) = ⊥
IsMadeOf version told file layout name (Err NoStage) = target_of version.graph name ≡ None
IsMadeOf version told file layout name (Err Write) = ⊥
IsMadeOf version told file layout name (Err Memory) = Unit {0}

-- ---- of a recording: of version 0 of the graph that it names

-- the text shows version 0 of the graph that these bytes name, by what their labels tell
pub record IsPictureOf (recording : List ℕ) (file : Option (List ℕ)) (layout : Layout) (name : Option (List ℕ)) (text : List ℕ) (left_out : LeftOut) : Type 0 where
  pub graph : PlainGraph
  pub read : IsNamed (Ok graph) (named recording)
  pub pictured : IsVersionPicture (opening_version graph) (told_of recording) file layout name text left_out

-- the graph that these bytes name has no stage of the name
abbrev pub IsWithout : List ℕ → Option (List ℕ) → Type 0
IsWithout recording name = (graph : PlainGraph) × IsNamed (Ok graph) (named recording) × (target_of graph name ≡ None)

-- the text, or why there is none
abbrev pub IsMade : List ℕ → Option (List ℕ) → Layout → Option (List ℕ) → Result Written RecordingFault → Type 0
IsMade recording file layout name (Ok written) = IsPictureOf recording file layout name (string_bytes written.text) written.left_out
IsMade recording file layout name (Err (Refused fault)) = IsNamed (Err fault) (named recording)
IsMade recording file layout name (Err NoStage) = IsWithout recording name
IsMade recording file layout name (Err Write) = ⊥
IsMade recording file layout name (Err Memory) = Unit {0}
