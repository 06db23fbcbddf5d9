-- To which group of spans the stage at each place of a recording counts.
use Rattle.std.specs.Prelude.{ℕ, Bool, false, ◌&&◌, ◌==◌, List, Option, Some, None, slice_get, slice_index_or}
use Rattle.std.specs.Option.{option_and_then, option_map}
use Rattle.span_groups.specs.declared.grouping.Counted.{Counted}
use Rattle.span_groups.specs.declared.grouping.Group.{Group}
use Rattle.span_groups.specs.declared.grouping.Grouping.{Grouping}

-- what the stage at a place counts to
abbrev pub counted_at : List (Option Counted) → ℕ → Option Counted
counted_at stages place = slice_index_or stages place None

abbrev pub is_of : ℕ → Option Counted → Bool
is_of group None = false
is_of group (Some counted) = counted.group == group

-- it counts to the group of a number
abbrev pub counts_to : List (Option Counted) → ℕ → ℕ → Bool
counts_to stages group place = is_of group (counted_at stages place)

abbrev pub is_work_of : ℕ → Option Counted → Bool
is_work_of group None = false
is_work_of group (Some counted) = counted.group == group && counted.stage.is_work

-- and is work of that
abbrev pub works_for : List (Option Counted) → ℕ → ℕ → Bool
works_for stages group place = is_work_of group (counted_at stages place)

-- the name of the group of a number
abbrev pub name_of : List Group → ℕ → Option (List ℕ)
name_of groups number = option_map (λ (group : Group). group.name) (slice_get groups number)

-- that of the group to which the stage at a place counts
abbrev pub name_at : Grouping → ℕ → Option (List ℕ)
name_at grouping place = option_and_then (λ (counted : Counted). name_of grouping.groups.items counted.group) (counted_at grouping.stages.items place)
