-- The scale of the rows, to the right of the names.
use Rattle.std.specs.Prelude.{ℕ, ◌≡◌, ◌+◌, ◌-◌, ◌*◌, ◌^◌, List, [], ◌∷◌, length, max, min, string_bytes, unwrap_or}
use Rattle.std.specs.Str.{chars}
use Rattle.timeline.specs.declared.scale.Scale.{Scale}
use Rattle.timeline_svg.specs.declared.row.Course.{Course}
use Rattle.timeline_svg.specs.declared.row.Course.TheVariants.{Service, Pending, Completed}
use Rattle.timeline_svg.specs.declared.row.Row.{Row}
use Rattle.timeline_svg.specs.declared.window.Window.{Window}

abbrev pub first_of : ℕ → Course → ℕ
first_of created Service = created
first_of created Pending = created
first_of created (Completed run) = min (min (min (min created run.triggered) run.started) run.ended) run.completed

abbrev pub last_of : ℕ → Course → ℕ
last_of created Service = created
last_of created Pending = created
last_of created (Completed run) = max (max (max (max created run.triggered) run.started) run.ended) run.completed

-- the first tick of all rows
abbrev pub first_tick : List Row → ℕ
first_tick [] = 2 ^ 64 - 1
first_tick (row ∷ rows) = min (first_of row.created row.course) (first_tick rows)

-- the last one
abbrev pub last_tick : List Row → ℕ
last_tick [] = 0
last_tick (row ∷ rows) = max (last_of row.created row.course) (last_tick rows)

-- the last one that is shown, no earlier than the first one that is asked for
abbrev pub last_shown : Window → List Row → ℕ
last_shown window rows = unwrap_or window.last (max (last_tick rows) (unwrap_or window.first 0))

-- how many characters the longest name has
abbrev pub longest_name : List Row → ℕ
longest_name [] = 0
longest_name (row ∷ rows) = max (length (chars (string_bytes row.name))) (longest_name rows)

-- from the first tick of the rows to their last one, where no other is asked for; ticks from 2^63 on stand where the tick before them does; 40 characters of a name have room, of 8 units each
pub record IsScaleOf (window : Window) (rows : List Row) (scale : Scale) : Type 0 where
  pub first : scale.first ≡ min (unwrap_or window.first (first_tick rows)) scale.last
  pub last : scale.last ≡ min (last_shown window rows) (2 ^ 63 - 1)
  pub left : scale.left ≡ 32 + min (longest_name rows) 40 * 8
  pub width : scale.width ≡ 960
