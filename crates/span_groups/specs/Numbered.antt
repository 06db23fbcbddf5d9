-- What stages count to, by the numbers of their spans' groups.
use Rattle.std.specs.Prelude.{ℕ, List, Option, slice_get}
use Rattle.std.specs.Option.{option_and_then, option_map}
use Rattle.span_groups.specs.declared.grouping.Counted.{Counted}
use Rattle.span_groups.specs.declared.making.StageOf.{StageOf}

abbrev pub numbered_by : List ℕ → StageOf → Option Counted
numbered_by numbers stage = option_map (λ (group : ℕ). record { group = group; stage = stage }) (slice_get numbers stage.span)

abbrev pub numbered : List ℕ → Option StageOf → Option Counted
numbered numbers stage = option_and_then (numbered_by numbers) stage
