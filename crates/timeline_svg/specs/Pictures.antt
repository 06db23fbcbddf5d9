-- The whole picture.
use Rattle.std.specs.Prelude.{ℕ, ◌≡◌, ◌+◌, ◌/◌, List, ◌++◌, codes, length, string_bytes}
use Rattle.std.specs.List.{flat_map}
use Rattle.timeline.specs.declared.scale.Scale.{Scale}
use Rattle.timeline.specs.Rounds.{IsAxis}
use Rattle.timeline_svg.specs.declared.picture.Heading.{Heading}
use Rattle.timeline_svg.specs.declared.row.Row.{Row}
use Rattle.timeline_svg.specs.declared.window.Window.{Window}
use Rattle.timeline_svg.specs.Deadlines.{deadline_text}
use Rattle.timeline_svg.specs.Frames.{bands_text, grid_text, head_text, row_y, unit_text}
use Rattle.timeline_svg.specs.RowTexts.{rows_text}
use Rattle.timeline_svg.specs.Spans.{IsScaleOf}
use Rattle.timeline_svg.specs.Trails.{trail_text}

-- the heading, the lines down from the axes and at the deadline, an axis with the unit above each fifty rows, the rows, and over them the path
abbrev pub picture : Heading → Scale → List ℕ → List Row → List ℕ → List ℕ
picture heading scale ticks rows path =
    head_text heading (scale.left + 1032) (row_y (length rows) + 24) ++ flat_map (grid_text scale (row_y (length rows))) ticks
    ++ deadline_text scale (row_y (length rows)) heading.deadline ++ bands_text scale (unit_text (string_bytes heading.unit)) ticks (length rows / 50 + 1) ++ rows_text scale 0 rows ++ trail_text scale rows path ++ codes "</svg>\n"

-- the text is the picture of the rows on the scale of a window, whose axes name the multiples of the least round step that goes less than seven times into it
pub record IsPicture (heading : Heading) (window : Window) (rows : List Row) (path text : List ℕ) : Type 0 where
  pub scale : Scale
  pub scaled : IsScaleOf window rows scale
  pub ticks : List ℕ
  pub axis : IsAxis scale.first scale.last 7 ticks
  pub drawn : text ≡ picture heading scale ticks rows path
