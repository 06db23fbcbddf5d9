-- The path: an arrow to each completed row on it from the one that it waited for.
use Rattle.std.specs.Prelude.{ℕ, ◌+◌, ◌-◌, List, [], ◌∷◌, ◌++◌, Option, None, Some, codes, max, slice_get, string_bytes}
use Rattle.std.specs.Option.{option_and_then}
use Rattle.serde_json.specs.Data.{Data}
use Rattle.timeline_svg.specs.declared.row.Course.{Course}
use Rattle.timeline_svg.specs.declared.row.Course.TheVariants.{Service, Pending, Completed}
use Rattle.timeline_svg.specs.declared.row.Row.{Row}
use Rattle.timeline_trace.specs.declared.flow.End.{End}
use Rattle.timeline_trace.specs.declared.labels.Labels.{Labels}
use Rattle.timeline_trace.specs.declared.labels.Track.{Track}
use Rattle.timeline_trace.specs.Processes.{track_of}
use Rattle.timeline_trace.specs.Ticks.{in_micros}
use Rattle.timeline_trace.specs.Json.{count, event, line_of, text}

-- from the last microsecond of the one's action
abbrev pub leaving_event : ℕ → End → Data
leaving_event number end =
    event (codes "s") end.track (codes "path") ((codes "cat", text (codes "path")) ∷ (codes "id", count number) ∷ (codes "ts", count (max (end.run.ended - 1) end.run.started)) ∷ [])

-- to the first one of the other's
abbrev pub arriving_event : ℕ → End → Data
arriving_event number end =
    event (codes "f") end.track (codes "path") ((codes "cat", text (codes "path")) ∷ (codes "id", count number) ∷ (codes "ts", count end.run.started) ∷ (codes "bp", text (codes "e")) ∷ [])

abbrev pub end_of : Labels → Track → Course → Option End
end_of labels track Service = None
end_of labels track Pending = None
end_of labels track (Completed run) = Some (record { track = track; run = in_micros labels.tick run })

-- where a row that has completed stands, and its run in microseconds
abbrev pub end_in : Labels → List Row → ℕ → Row → Option End
end_in labels rows index row = end_of labels (track_of labels rows (index + 1) (string_bytes row.name)) row.course

abbrev pub end_at : Labels → List Row → ℕ → Option End
end_at labels rows index = option_and_then (end_in labels rows index) (slice_get rows index)

abbrev pub arrow_between : ℕ → Option End → Option End → List ℕ
arrow_between number (Some before) (Some after) = line_of (leaving_event number before) ++ line_of (arriving_event number after)
arrow_between number before after = []

abbrev pub arrow : Labels → List Row → ℕ → ℕ → Option ℕ → List ℕ
arrow labels rows number index None = []
arrow labels rows number index (Some cause) = arrow_between number (end_at labels rows cause) (end_at labels rows index)

-- for each row of the path the row after it is what it waited for
abbrev pub arrows : Labels → List Row → ℕ → List ℕ → List ℕ
arrows labels rows number [] = []
arrows labels rows number (index ∷ others) = arrow labels rows number index (slice_get others 0) ++ arrows labels rows (number + 1) others
