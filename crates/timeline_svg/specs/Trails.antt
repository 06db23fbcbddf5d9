-- The path, drawn over the rows.
use Rattle.std.specs.Prelude.{ℕ, ◌+◌, List, [], ◌∷◌, ◌++◌, Option, None, Some, codes, slice_get}
use Rattle.std.specs.Fmt.{decimal}
use Rattle.timeline.specs.declared.scale.Scale.{Scale}
use Rattle.timeline.specs.Places.{x_of}
use Rattle.timeline_svg.specs.declared.row.Course.{Course}
use Rattle.timeline_svg.specs.declared.row.Course.TheVariants.{Service, Pending, Completed}
use Rattle.timeline_svg.specs.declared.row.Row.{Row}
use Rattle.timeline_svg.specs.Frames.{row_y}

-- where a row completes: at the right end while it is pending
abbrev pub course_end : Scale → Course → ℕ
course_end scale Service = scale.left + scale.width
course_end scale Pending = scale.left + scale.width
course_end scale (Completed run) = x_of scale run.completed

abbrev pub end_of : Scale → Row → ℕ
end_of scale row = course_end scale row.course

-- where a row's own share begins
abbrev pub course_begin : Scale → ℕ → Course → ℕ
course_begin scale created Service = x_of scale created
course_begin scale created Pending = x_of scale created
course_begin scale created (Completed run) = x_of scale run.since

abbrev pub begin_of : Scale → Row → ℕ
begin_of scale row = course_begin scale row.created row.course

-- the middle of a row
abbrev pub middle_of : ℕ → ℕ
middle_of index = row_y index + 9

-- a line from a point, up or down and then to the right
abbrev pub line_text : ℕ → ℕ → ℕ → ℕ → List ℕ
line_text from start y to = codes "M" ++ decimal from ++ codes " " ++ decimal start ++ codes ".5V" ++ decimal y ++ codes ".5H" ++ decimal to

-- from where the row that it waited for completes, or else from where its own share begins, to where it completes
abbrev pub line_to : Scale → ℕ → Row → ℕ → Option Row → List ℕ
line_to scale index row cause None = line_text (begin_of scale row) (middle_of index) (middle_of index) (end_of scale row)
line_to scale index row cause (Some before) = line_text (end_of scale before) (middle_of cause) (middle_of index) (end_of scale row)

abbrev pub line_after : Scale → List Row → ℕ → Row → Option ℕ → List ℕ
line_after scale rows index row None = line_to scale index row 0 None
line_after scale rows index row (Some cause) = line_to scale index row cause (slice_get rows cause)

abbrev pub line_of : Scale → List Row → ℕ → Option Row → Option ℕ → List ℕ
line_of scale rows index None cause = []
line_of scale rows index (Some row) cause = line_after scale rows index row cause

abbrev pub step_text : Scale → List Row → ℕ → Option ℕ → List ℕ
step_text scale rows index cause = line_of scale rows index (slice_get rows index) cause

-- a line for each row of the path, and for each the row after it is what it waited for
abbrev pub steps_text : Scale → List Row → List ℕ → List ℕ
steps_text scale rows [] = []
steps_text scale rows (index ∷ others) = step_text scale rows index (slice_get others 0) ++ steps_text scale rows others

abbrev pub trail_text : Scale → List Row → List ℕ → List ℕ
trail_text scale rows path =
    codes "<path class='halo' d='" ++ steps_text scale rows path ++ codes "'/>\n<path class='path' d='" ++ steps_text scale rows path ++ codes "'/>\n"
