-- What is drawn of a version.
use Rattle.std.specs.Prelude.{ℕ, ◌≡◌, ◌-◌, ◌==◌, Bool, false, List, [], ◌++◌, Option, None, Some, codes, filter_map, length, map, min, nat_le, nat_lt, position, string_bytes, if◌then◌else◌}
use Rattle.std.specs.Fmt.{decimal}
use Rattle.stage_graph.specs.Plain.{PlainGraph, stage_at, name_of}
use Rattle.scratch_eval.specs.Path.{path}
use Rattle.version_store.specs.Plain.{PlainVersion}
use Rattle.version_rows.specs.declared.candidate.Candidate.{Candidate}
use Rattle.version_rows.specs.declared.drawing.Drawing.{Drawing}
use Rattle.version_rows.specs.declared.left_out.LeftOut.{LeftOut}
use Rattle.version_rows.specs.declared.line.Line.{Line}
use Rattle.version_rows.specs.declared.line.Line.TheVariants.{Stage, Service}
use Rattle.version_rows.specs.declared.room.Room.{Room}
use Rattle.version_rows.specs.declared.selection.Selection.{Selection}
use Rattle.version_rows.specs.Candidates.{IsChosen, asked, candidates}
use Rattle.version_rows.specs.Lines.{IsLaidOut}
use Rattle.version_rows.specs.Rooms.{most_rows}
use Rattle.version_rows.specs.Rows.{plain, row_of}

-- the path of the target; none without one
abbrev pub path_to : PlainGraph → Option ℕ → List ℕ
path_to graph None = []
path_to graph (Some place) = path graph place

-- there is a target, but no stage stands there
abbrev pub IsMissing : PlainGraph → Option ℕ → Type 0
IsMissing graph None = ⊥
IsMissing graph (Some place) = stage_at graph.places place ≡ None

-- a row is that of the stage at a place
abbrev pub is_at : ℕ → Line → Bool
is_at place (Stage candidate) = candidate.place == place
is_at place (Service candidate) = false

-- the row of the stage at a place
abbrev pub row_index : List Line → ℕ → Option ℕ
row_index lines place = position (is_at place) lines

abbrev pub path_title : PlainGraph → Option ℕ → List ℕ
path_title graph None = []
path_title graph (Some place) = codes ", the path of " ++ name_of (stage_at graph.places place)

-- the file that the recording is in, where one is named
abbrev pub file_title : Option (List ℕ) → List ℕ
file_title None = []
file_title (Some file) = codes " of " ++ file

abbrev pub title_text : PlainVersion → Option (List ℕ) → Option ℕ → List ℕ
title_text version file target = codes "Version " ++ decimal version.number ++ file_title file ++ path_title version.graph target

abbrev pub unasked_note : ℕ → List ℕ
unasked_note unasked = if nat_lt 0 unasked then codes ", " ++ decimal unasked ++ codes " left out by --from, --to or --min" else []

abbrev pub room_note : Room → ℕ → List ℕ
room_note room asked = if nat_lt (most_rows room) asked then codes ": those on the path, and those whose own actions took longest" else []

-- of the stages in scope those that are asked for have a row, as far as there is room
abbrev pub shown : Room → ℕ → ℕ
shown room asked = min asked (most_rows room)

abbrev pub note_text : Room → ℕ → ℕ → List ℕ
note_text room count asked =
    if nat_le count (shown room asked) then decimal count ++ codes " stages"
    else decimal (shown room asked) ++ codes " of " ++ decimal count ++ codes " stages" ++ unasked_note (count - asked) ++ room_note room asked

-- the tick by which there was to be a reply, where that is told
abbrev pub deadline_note : Option ℕ → List ℕ
deadline_note None = []
deadline_note (Some deadline) = codes ", deadline " ++ decimal deadline

-- how many stages there are and have a row, and the deadline
abbrev pub heading_note : Room → ℕ → ℕ → Option ℕ → List ℕ
heading_note room count asked deadline = note_text room count asked ++ deadline_note deadline

-- how many of so many stages have no row, as their ticks are not asked for, and as there is no room for them
abbrev pub left_out : Room → ℕ → ℕ → LeftOut
left_out room count asked = record { unasked = count - asked; for_room = asked - most_rows room }

-- the stages in scope, with whether they are asked for
abbrev pub in_scope : PlainGraph → Selection → Option ℕ → List Candidate
in_scope graph selection target = candidates graph selection (path_to graph target)

-- a row for each chosen candidate, where that is asked for by service, and the rows of the path; above them which version of which file it is, on the axis the unit, and over them the deadline
pub record IsDrawing (version : PlainVersion) (file : Option (List ℕ)) (unit : List ℕ) (deadline : Option ℕ) (room : Room) (selection : Selection) (target : Option ℕ) (drawing : Drawing) : Type 0 where
  pub chosen : List Candidate
  pub of_them : IsChosen room (asked (in_scope version.graph selection target)) chosen
  pub lines : List Line
  pub laid_out : IsLaidOut room version.graph chosen lines
  pub rows : map plain drawing.rows.items ≡ map (row_of version.graph) lines
  pub path : drawing.path.items ≡ filter_map (row_index lines) (path_to version.graph target)
  pub title : string_bytes drawing.heading.title ≡ title_text version file target
  pub on_axis : string_bytes drawing.heading.unit ≡ unit
  pub late : drawing.heading.deadline ≡ deadline
  pub note : string_bytes drawing.heading.note ≡ heading_note room (length (in_scope version.graph selection target)) (length (asked (in_scope version.graph selection target))) deadline
  pub left_out : drawing.left_out ≡ left_out room (length (in_scope version.graph selection target)) (length (asked (in_scope version.graph selection target)))
