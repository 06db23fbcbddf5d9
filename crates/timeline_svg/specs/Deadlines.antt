-- The line of the deadline.
use Rattle.std.specs.Prelude.{ℕ, List, [], ◌++◌, Option, None, Some, codes, if◌then◌else◌}
use Rattle.std.specs.Fmt.{decimal}
use Rattle.timeline.specs.declared.scale.Scale.{Scale}
use Rattle.timeline.specs.Places.{x_of}
use Rattle.timeline_svg.specs.RowTexts.{shows}

-- down the picture, and its name above
abbrev pub deadline_line : ℕ → ℕ → List ℕ
deadline_line x bottom =
    codes "<path class='deadline' d='M" ++ decimal x ++ codes ".5 84V" ++ decimal bottom
    ++ codes "'/><text class='late' x='" ++ decimal x ++ codes "' y='81'>deadline</text>\n"

-- where the scale has its tick
abbrev pub deadline_text : Scale → ℕ → Option ℕ → List ℕ
deadline_text scale bottom None = []
deadline_text scale bottom (Some tick) = if shows scale tick tick then deadline_line (x_of scale tick) bottom else []
