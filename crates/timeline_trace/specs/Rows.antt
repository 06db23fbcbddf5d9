-- The events of a row, in microseconds: a row is a thread of its process.
use Rattle.std.specs.Prelude.{ℕ, ◌+◌, ◌-◌, Bool, true, false, List, [], ◌∷◌, ◌++◌, codes, nat_lt, ◌&&◌, ◌==◌, if◌then◌else◌, string_bytes}
use Rattle.serde_json.specs.Data.{Data}
use Rattle.timeline_svg.specs.declared.row.Course.{Course}
use Rattle.timeline_svg.specs.declared.row.Course.TheVariants.{Service, Pending, Completed}
use Rattle.timeline_svg.specs.declared.row.Row.{Row}
use Rattle.timeline_svg.specs.declared.row.Run.{Run}
use Rattle.timeline_trace.specs.declared.labels.Labels.{Labels}
use Rattle.timeline_trace.specs.declared.labels.Tick.{Tick}
use Rattle.timeline_trace.specs.declared.labels.Track.{Track}
use Rattle.timeline_trace.specs.Processes.{process_title, track_of}
use Rattle.timeline_trace.specs.Ticks.{in_micros, micros}
use Rattle.timeline_trace.specs.Json.{count, event, line_of, naming_event, object, text}

-- the name of a process
abbrev pub process_event : ℕ → List ℕ → Data
process_event process name = naming_event (record { process = process; row = 0 }) (codes "process_name") name

-- the row's name
abbrev pub name_event : Track → List ℕ → Data
name_event track name = naming_event track (codes "thread_name") name

-- its place among the rows
abbrev pub order_event : Track → Data
order_event track = event (codes "M") track (codes "thread_sort_index") ((codes "args", object ((codes "sort_index", count track.row) ∷ [])) ∷ [])

-- while the action was queued
abbrev pub queued_event : Track → Run → Data
queued_event track run =
    event (codes "X") track (codes "queued") ((codes "cat", text (codes "queued")) ∷ (codes "ts", count run.triggered) ∷ (codes "dur", count (run.started - run.triggered)) ∷ [])

abbrev pub ended_text : Bool → List ℕ
ended_text true = codes "failed"
ended_text false = codes "complete"

-- what is told beside the name
abbrev pub about_object : ℕ → List ℕ → Data
about_object created about = object ((codes "created", count created) ∷ (codes "about", text about) ∷ [])

-- while it ran
abbrev pub ran_event : Track → Row → Run → Data
ran_event track one run =
    event (codes "X") track (string_bytes one.name) ((codes "cat", text (ended_text run.has_failed)) ∷ (codes "ts", count run.started) ∷ (codes "dur", count (run.ended - run.started))
    ∷ (codes "args", about_object one.created (string_bytes one.about)) ∷ [])

-- from its creation on
abbrev pub pending_event : Track → ℕ → Row → Data
pending_event track created one =
    event (codes "i") track (string_bytes one.name) ((codes "cat", text (codes "pending")) ∷ (codes "ts", count created) ∷ (codes "s", text (codes "t"))
    ∷ (codes "args", about_object one.created (string_bytes one.about)) ∷ [])

abbrev pub queued_line : Track → Run → List ℕ
queued_line track run = if nat_lt run.triggered run.started then line_of (queued_event track run) else []

abbrev pub run_lines : Track → Row → Run → List ℕ
run_lines track one run = queued_line track run ++ line_of (ran_event track one run)

abbrev pub course_lines : Tick → Track → Row → Course → List ℕ
course_lines tick track one Service = []
course_lines tick track one Pending = line_of (pending_event track (micros tick one.created) one)
course_lines tick track one (Completed run) = run_lines track one (in_micros tick run)

abbrev pub row_lines : Tick → Track → Row → List ℕ
row_lines tick track one = line_of (name_event track (string_bytes one.name)) ++ line_of (order_event track) ++ course_lines tick track one one.course

-- the name of a process, which a row opens that has its number; that of the first row is named before all rows
abbrev pub opening_line : Labels → List ℕ → Track → List ℕ → List ℕ
opening_line labels title track name =
    if nat_lt 1 track.row && track.process == track.row then line_of (process_event track.process (process_title labels title name)) else []

-- the rows, numbered from here on, of all
abbrev pub rows_lines : Labels → List ℕ → List Row → ℕ → List Row → List ℕ
rows_lines labels title all number [] = []
rows_lines labels title all number (one ∷ others) =
    (opening_line labels title (track_of labels all number (string_bytes one.name)) (string_bytes one.name) ++ row_lines labels.tick (track_of labels all number (string_bytes one.name)) one)
    ++ rows_lines labels title all (number + 1) others
