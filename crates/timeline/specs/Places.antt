-- Where a tick stands in a picture.
use Rattle.std.specs.Prelude.{ℕ, ◌+◌, ◌-◌, ◌*◌, ◌/◌, ◌≤◌, min, max}
use Rattle.timeline.specs.declared.scale.Scale.{Scale}
use Rattle.timeline.specs.declared.scale.Bar.{Bar}

-- how many ticks after the first one, of those in the span
abbrev pub ticks_into : Scale → ℕ → ℕ
ticks_into scale tick = min (max tick scale.first) scale.last - scale.first

-- as far into the width as the tick is into the span, rounded down
abbrev pub units_into : Scale → ℕ → ℕ
units_into scale tick = ticks_into scale tick * scale.width / max (scale.last - scale.first) 1

abbrev pub x_of : Scale → ℕ → ℕ
x_of scale tick = scale.left + units_into scale tick

-- from where the one tick stands to where the other one does; one unit at least, and no further than the right end
abbrev pub bar_of : Scale → ℕ → ℕ → Bar
bar_of scale from to = record {
  x = min (x_of scale from) (scale.left + scale.width - 1);
  width = max (x_of scale to - x_of scale from) 1;
}

-- the bar stands between the ends of the scale
abbrev pub IsWithin : Scale → Bar → Type 0
IsWithin scale bar = (scale.left ≤ bar.x) × (bar.x + bar.width ≤ scale.left + scale.width)
