-- A picture, put together from what each call says.
use Rattle.std.proofs.Common.{◌≡◌, ℕ, List, Option, Some, None, Result, Ok, Err, IfSome, refl, sym, subst}
use Rattle.std.specs.Prelude.{string_bytes}
use Rattle.std.specs.Option.{option_map}
use Rattle.stage_graph.specs.declared.stage.Stage.{Stage}
use Rattle.stage_graph.specs.Plain.{PlainGraph, IsLive, place_named, stage_at}
use Rattle.stage_graph.proofs.Placing.{live_from_name, named_at}
use Rattle.recording.specs.Labels.{deadline_label, is_imported, unit_label}
use Rattle.recording.specs.Reads.{IsNamed}
use Rattle.recording.specs.RecordingOf.{named}
use Rattle.recording.specs.declared.labels.Told.{Told}
use Rattle.recording_reports.specs.declared.fault.RecordingFault.{RecordingFault}
use Rattle.recording_reports.specs.declared.fault.RecordingFault.TheVariants.{Refused, NoStage, Write, Memory}
use Rattle.version_store.specs.Plain.{PlainVersion, opening_version}
use Rattle.timeline_trace.specs.declared.labels.Labels.{Labels}
use Rattle.version_rows.specs.Drawings.{IsDrawing}
use Rattle.version_rows.specs.declared.drawing.Drawing.{Drawing}
use Rattle.version_rows.specs.declared.left_out.LeftOut.{LeftOut}
use Rattle.version_rows.specs.declared.room.Room.{Room}
use Rattle.recording_pictures.specs.declared.asked.Layout.{Layout}
use Rattle.recording_pictures.specs.declared.text.Written.{Written}
use Rattle.recording_pictures.specs.Pictures.{IsMade, IsMadeOf, IsPictureOf, IsShown, IsShownOf, IsVersionPicture, labels_of, room_of, target_of}
use Rattle.recording_pictures.specs.Told.{PlainTold, plain_told, told_of}

-- a text that shows what is drawn of a version shows the version
pub shown_of : (version : PlainVersion) (told : PlainTold) (file : Option (List ℕ)) (layout : Layout) (target : Option ℕ) (drawing : Drawing) (unit : List ℕ) (room : Room) (labels : Labels) (text : List ℕ)
    → unit ≡ told.unit → room ≡ room_of layout.form layout.by_service → labels ≡ labels_of told layout.by_service
    → IsDrawing version file unit told.deadline room layout.selection target drawing → IsShown layout.form layout.selection.window labels drawing text
    → IsShownOf version told file layout target text drawing.left_out
shown_of version told file layout target drawing unit room labels text is_unit is_room are_labels drawn shown = (
  drawing,
  subst (λ (room : Room). IsDrawing version file told.unit told.deadline room layout.selection target drawing) is_room
      (subst (λ (unit : List ℕ). IsDrawing version file unit told.deadline room layout.selection target drawing) is_unit drawn),
  subst (λ (labels : Labels). IsShown layout.form layout.selection.window labels drawing text) are_labels shown,
  refl,
)

emptied : (target : Option ℕ) → Some None ≡ Some target → target ≡ None
emptied target is = cc

placed : (place target : Option ℕ) → option_map (λ place. Some place) place ≡ Some target → target ≡ place
placed None target is = cc
placed (Some other) target is = cc

live_place : (places : List (Option Stage)) (name : List ℕ) (target : Option ℕ) → target ≡ place_named places name → IfSome target (λ place. IsLive places place)
live_place places name None is = tt
live_place places name (Some place) is = live_from_name name (stage_at places place) (named_at places name place (sym is)).1

-- a stage stands where the name is found
pub live_target : (graph : PlainGraph) (name : Option (List ℕ)) (target : Option ℕ) → target_of graph name ≡ Some target → IfSome target (λ place. IsLive graph.places place)
live_target graph None target is = subst (λ (there : Option ℕ). IfSome there (λ place. IsLive graph.places place)) (sym (emptied target is)) tt
live_target graph (Some name) target is = live_place graph.places name target (placed (place_named graph.places name) target is)

-- what was told is what the labels tell
pub as_told : (recording : List ℕ) (told : Told) → string_bytes told.unit ≡ unit_label recording → told.is_imported ≡ is_imported recording → told.deadline ≡ deadline_label recording
    → plain_told told ≡ told_of recording
as_told recording told unit imported deadline = rw (unit, imported, deadline) refl

-- what shows the version that a recording opens as is the recording's picture
pictured : (recording : List ℕ) (file : Option (List ℕ)) (layout : Layout) (name : Option (List ℕ)) (text : List ℕ) (left_out : LeftOut) (graph : PlainGraph) (version : PlainVersion) (told : PlainTold)
    → IsNamed (Ok graph) (named recording) → version ≡ opening_version graph → told ≡ told_of recording → IsVersionPicture version told file layout name text left_out
    → IsPictureOf recording file layout name text left_out
pictured recording file layout name text left_out graph version told is loaded as_told shows = record {
  graph = graph;
  read = is;
  pictured = subst (λ (told : PlainTold). IsVersionPicture (opening_version graph) told file layout name text left_out) as_told
      (subst (λ (version : PlainVersion). IsVersionPicture version told file layout name text left_out) loaded shows);
}

-- what is made of that version is made of the recording
pub made : (recording : List ℕ) (file : Option (List ℕ)) (layout : Layout) (name : Option (List ℕ)) (graph : PlainGraph) (version : PlainVersion) (told : PlainTold) (result : Result Written RecordingFault)
    → IsNamed (Ok graph) (named recording) → version ≡ opening_version graph → told ≡ told_of recording → IsMadeOf version told file layout name result
    → IsMade recording file layout name result
made recording file layout name graph version told (Ok written) is loaded as_told made_of =
    pictured recording file layout name (string_bytes written.text) written.left_out graph version told is loaded as_told made_of
made recording file layout name graph version told (Err (Refused fault)) is loaded as_told made_of = absurd made_of
made recording file layout name graph version told (Err NoStage) is loaded as_told made_of =
    (graph, is, subst (λ (version : PlainVersion). target_of version.graph name ≡ None) loaded made_of)
made recording file layout name graph version told (Err Write) is loaded as_told made_of = absurd made_of
made recording file layout name graph version told (Err Memory) is loaded as_told made_of = tt
