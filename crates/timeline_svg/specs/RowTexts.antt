-- The text of a row.
use Rattle.std.specs.Prelude.{ℕ, ◌+◌, ◌-◌, Bool, true, false, List, [], ◌∷◌, ◌++◌, Option, None, Some, codes, max, nat_le, nat_lt, ◌&&◌, if◌then◌else◌, string_bytes}
use Rattle.std.specs.Fmt.{decimal}
use Rattle.timeline.specs.declared.scale.Bar.{Bar}
use Rattle.timeline.specs.declared.scale.Scale.{Scale}
use Rattle.timeline.specs.Places.{bar_of, x_of}
use Rattle.timeline_svg.specs.declared.row.Course.{Course}
use Rattle.timeline_svg.specs.declared.row.Course.TheVariants.{Service, Pending, Completed}
use Rattle.timeline_svg.specs.declared.row.Row.{Row}
use Rattle.timeline_svg.specs.declared.row.Run.{Run}
use Rattle.timeline_svg.specs.Escape.{cut, element_text}
use Rattle.timeline_svg.specs.Frames.{row_y}

abbrev pub queued_text : Bar → ℕ → List ℕ
queued_text bar y = codes "<rect class='queued' x='" ++ decimal bar.x ++ codes ".5' y='" ++ decimal (y - 4) ++ codes ".5' width='" ++ decimal bar.width ++ codes "' height='7'/>"

abbrev pub ran_text : Bar → ℕ → List ℕ
ran_text bar y = codes "<rect class='ran' x='" ++ decimal bar.x ++ codes "' y='" ++ decimal (y - 5) ++ codes "' width='" ++ decimal bar.width ++ codes "' height='11'/>"

abbrev pub hatched_text : ℕ → ℕ → ℕ → List ℕ
hatched_text x y width = codes "<rect class='cut' x='" ++ decimal x ++ codes "' y='" ++ decimal (y - 4) ++ codes ".5' width='" ++ decimal width ++ codes "' height='9'/>"

abbrev pub cross_text : ℕ → ℕ → List ℕ
cross_text x y = codes "<path class='cross' d='M" ++ decimal x ++ codes " " ++ decimal y ++ codes ".5m-4-4l8 8m0-8l-8 8'/>"

abbrev pub circle_text : ℕ → ℕ → List ℕ
circle_text x y = codes "<circle class='done' cx='" ++ decimal x ++ codes "' cy='" ++ decimal y ++ codes ".5' r='3'/>"

-- a cross where it failed, and else a circle
abbrev pub mark_text : ℕ → ℕ → Bool → List ℕ
mark_text x y true = cross_text x y
mark_text x y false = circle_text x y

abbrev pub wait_text : ℕ → ℕ → ℕ → List ℕ
wait_text y from to = codes "<path class='wait' d='M" ++ decimal from ++ codes " " ++ decimal y ++ codes ".5H" ++ decimal to ++ codes "'/>"

-- the scale has one of the ticks from one to another
abbrev pub shows : Scale → ℕ → ℕ → Bool
shows scale from to = nat_le from scale.last && nat_le scale.first to

-- the light bar, where the action was queued
abbrev pub queue_text : Scale → ℕ → Run → List ℕ
queue_text scale y run = if nat_lt run.triggered run.started && shows scale run.triggered run.started then queued_text (bar_of scale run.triggered run.started) y else []

-- the solid bar, while the action ran
abbrev pub action_text : Scale → ℕ → Run → List ℕ
action_text scale y run = if shows scale run.started run.ended then ran_text (bar_of scale run.started run.ended) y else []

-- the hatched bar, where the action was cut off: from where the stage completed to where the action would have ended, and so wide that it is seen beside the mark
abbrev pub cut_text : Scale → ℕ → ℕ → Option ℕ → List ℕ
cut_text scale y completed None = []
cut_text scale y completed (Some end) = if shows scale completed end then hatched_text (x_of scale completed) y (max (x_of scale end - x_of scale completed) 14) else []

-- how it ended
abbrev pub end_text : Scale → ℕ → Run → List ℕ
end_text scale y run = if shows scale run.completed run.completed then mark_text (x_of scale run.completed) y run.has_failed else []

-- a thin line, the bars, and how it ended, as far as the scale has their ticks
abbrev pub run_text : Scale → ℕ → ℕ → Run → List ℕ
run_text scale y from run =
    wait_text y from (x_of scale run.completed) ++ queue_text scale y run ++ action_text scale y run
    ++ cut_text scale y run.completed run.missed_end ++ end_text scale y run

-- a line to the right end, and an open arrow
abbrev pub pending_text : ℕ → ℕ → ℕ → List ℕ
pending_text y from right =
    wait_text y from right ++ (codes "<path class='open' d='M" ++ decimal right ++ codes " " ++ decimal y ++ codes ".5m-7-5l7 5l-7 5'/>")

-- a line from end to end
abbrev pub rule_text : ℕ → ℕ → ℕ → List ℕ
rule_text y left right = codes "<path class='axis' d='M" ++ decimal left ++ codes " " ++ decimal y ++ codes ".5H" ++ decimal right ++ codes "'/>"

-- from the creation on, about a height; a line, where it is a service
abbrev pub course_text : Scale → ℕ → ℕ → Course → List ℕ
course_text scale y created Service = rule_text y scale.left (scale.left + scale.width)
course_text scale y created Pending = pending_text y (x_of scale created) (scale.left + scale.width)
course_text scale y created (Completed run) = run_text scale y (x_of scale created) run

abbrev pub ended_text : Bool → List ℕ
ended_text true = codes "failed"
ended_text false = codes "complete"

abbrev pub state_text : Course → List ℕ
state_text Service = codes "service"
state_text Pending = codes "pending"
state_text (Completed run) = ended_text run.has_failed

abbrev pub place_text : Bool → List ℕ
place_text true = codes " on"
place_text false = []

abbrev pub group_text : List ℕ → List ℕ → List ℕ
group_text state place = codes "<g class='row " ++ state ++ place ++ codes "'>"

-- what is told where one points at the row
abbrev pub told_text : Row → List ℕ
told_text row = element_text (codes "<title>") (string_bytes row.name) (codes "\n") ++ element_text [] (string_bytes row.about) (codes "</title>")

-- what one points at, and where the name begins
abbrev pub hit_text : ℕ → ℕ → List ℕ
hit_text top base = codes "<rect class='hit' y='" ++ decimal top ++ codes "' width='100%' height='18'/><text x='16' y='" ++ decimal base ++ codes "'>"

-- the name, which is cut at 40 characters
abbrev pub name_text : ℕ → Row → List ℕ
name_text top row = hit_text top (top + 13) ++ cut 40 (string_bytes row.name) ++ codes "</text>"

abbrev pub label_text : ℕ → Row → List ℕ
label_text top row = group_text (state_text row.course) (place_text row.is_on_path) ++ told_text row ++ name_text top row

abbrev pub row_text : Scale → ℕ → Row → List ℕ
row_text scale top row = label_text top row ++ course_text scale (top + 9) row.created row.course ++ codes "</g>\n"

-- the rows from a number on, one below the other
abbrev pub rows_text : Scale → ℕ → List Row → List ℕ
rows_text scale index [] = []
rows_text scale index (row ∷ rows) = row_text scale (row_y index) row ++ rows_text scale (index + 1) rows
