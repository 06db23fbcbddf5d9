-- What stands round the rows of a picture.
use Rattle.std.specs.Prelude.{ℕ, ◌+◌, ◌*◌, ◌/◌, List, [], ◌∷◌, ◌++◌, codes, string_bytes}
use Rattle.std.specs.Fmt.{decimal}
use Rattle.std.specs.List.{flat_map, range_with_len}
use Rattle.timeline.specs.declared.scale.Scale.{Scale}
use Rattle.timeline.specs.Places.{x_of}
use Rattle.timeline_svg.specs.declared.frame.TheConstants.{LEGEND, STYLE}
use Rattle.timeline_svg.specs.declared.picture.Heading.{Heading}
use Rattle.timeline_svg.specs.Escape.{cut, element_text}

-- an axis of 24 units stands above each 50 rows of 18 units; 84 units are above the first
abbrev pub row_y : ℕ → ℕ
row_y index = 84 + (index / 50 + 1) * 24 + index * 18

abbrev pub band_y : ℕ → ℕ
band_y band = 84 + band * (24 + 50 * 18)

-- ---- what comes before all that is drawn

abbrev pub heading_lines : Heading → List ℕ
heading_lines heading =
    element_text (codes "<text class='heading' x='16' y='24'>") (string_bytes heading.title) (codes "</text>\n")
    ++ element_text (codes "<text class='note' x='16' y='43'>") (string_bytes heading.note) (codes "</text>\n")

abbrev pub heading_text : Heading → List ℕ
heading_text heading = element_text (codes "<title>") (string_bytes heading.title) (codes "</title>\n") ++ STYLE.now ++ heading_lines heading

abbrev pub size_text : ℕ → ℕ → List ℕ
size_text width height = codes "<svg xmlns='http://www.w3.org/2000/svg' width='" ++ decimal width ++ codes "' height='" ++ decimal height ++ codes "'>\n"

abbrev pub head_text : Heading → ℕ → ℕ → List ℕ
head_text heading width height = size_text width height ++ heading_text heading ++ LEGEND.now

-- ---- the axes

abbrev pub grid_text : Scale → ℕ → ℕ → List ℕ
grid_text scale bottom tick = codes "<path class='grid' d='M" ++ decimal (x_of scale tick) ++ codes ".5 104V" ++ decimal bottom ++ codes "'/>\n"

abbrev pub axis_text : Scale → ℕ → List ℕ
axis_text scale top = codes "<path class='axis' d='M" ++ decimal scale.left ++ codes " " ++ decimal (top + 20) ++ codes ".5H" ++ decimal (scale.left + scale.width) ++ codes "'/>\n"

-- what a tick is, behind its number, cut at 8 characters; nothing where that is not told
abbrev pub unit_text : List ℕ → List ℕ
unit_text [] = []
unit_text (byte ∷ bytes) = codes " " ++ cut 8 (byte ∷ bytes)

-- a tick's number with its unit, and a mark on the axis
abbrev pub tick_at : List ℕ → ℕ → ℕ → ℕ → ℕ → List ℕ
tick_at unit x foot y tick = codes "<text class='tick' x='" ++ decimal x ++ codes "' y='" ++ decimal foot ++ codes "'>" ++ decimal tick ++ unit
    ++ codes "</text><path class='axis' d='M" ++ decimal x ++ codes ".5 " ++ decimal y ++ codes "v4'/>\n"

abbrev pub tick_text : Scale → List ℕ → ℕ → ℕ → List ℕ
tick_text scale unit top tick = tick_at unit (x_of scale tick) (top + 14) (top + 17) tick

abbrev pub band_text : Scale → List ℕ → List ℕ → ℕ → List ℕ
band_text scale unit ticks top = axis_text scale top ++ flat_map (tick_text scale unit top) ticks

abbrev pub bands_text : Scale → List ℕ → List ℕ → ℕ → List ℕ
bands_text scale unit ticks bands = flat_map (λ band. band_text scale unit ticks (band_y band)) (range_with_len 0 bands)
