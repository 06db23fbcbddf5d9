-- Moments as numbers: three turns a tick.
use Rattle.std.specs.Prelude.{ℕ, ◌+◌, ◌*◌, List, Option, Some, None}
use Rattle.trace_relations.specs.Moments.{end_moment, interval_at, turn_number}
use Rattle.trace_relations.specs.declared.moment.Interval.{Interval}
use Rattle.trace_relations.specs.declared.moment.Moment.{Moment}

abbrev pub number : Moment → ℕ
number moment = moment.tick * 3 + turn_number moment.turn

abbrev pub start_number : List Interval → ℕ → ℕ
start_number intervals place = (interval_at intervals place).start * 3 + 1

abbrev pub number_or : Option Moment → ℕ
number_or None = 0
number_or (Some moment) = number moment

-- none of an open span
abbrev pub end_number : List Interval → ℕ → ℕ
end_number intervals place = number_or (end_moment (interval_at intervals place))
