-- The whole trace: one JSON list of events.
use Rattle.std.specs.Prelude.{ℕ, List, [], ◌∷◌, ◌++◌, codes, string_bytes}
use Rattle.serde_json.specs.Written.{compact_text}
use Rattle.timeline_svg.specs.declared.row.Row.{Row}
use Rattle.timeline_trace.specs.Deadlines.{deadline_line}
use Rattle.timeline_trace.specs.Flows.{arrows}
use Rattle.timeline_trace.specs.declared.labels.Labels.{Labels}
use Rattle.timeline_trace.specs.Processes.{process_title}
use Rattle.timeline_trace.specs.Rows.{process_event, rows_lines}

-- the name of the first process: that of the first row, and the title alone where there is none
abbrev pub first_title : Labels → List ℕ → List Row → List ℕ
first_title labels title [] = title
first_title labels title (row ∷ rows) = process_title labels title (string_bytes row.name)

-- the first process, the rows from 1 on, the path, and the deadline
abbrev pub trace : Labels → List ℕ → List Row → List ℕ → List ℕ
trace labels title rows path =
    codes "[" ++ compact_text (process_event 1 (first_title labels title rows)) ++ rows_lines labels title rows 1 rows ++ arrows labels rows 1 path
    ++ deadline_line labels.tick labels.deadline ++ codes "\n]\n"
