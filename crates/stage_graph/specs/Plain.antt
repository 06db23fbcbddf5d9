-- The plain graph: what a graph holds, with nothing that is kept beside it.
use Rattle.std.specs.Prelude.{ℕ, Bool, false, nat_eq, List, ◌++◌, [], length, Option, Some, None, slice_index_or, IsSome, position}
use Rattle.std.specs.List.{list_any, filter, range_with_len}
use Rattle.std.specs.Str.{bytes_eq}
use Rattle.std.specs.Option.{option_and_then}
use Rattle.act_expr.specs.declared.outcome.Mode.{Mode}
use Rattle.stage_graph.specs.declared.stage.Stage.{Stage}

-- a mode, and places of which each is empty or holds a live stage
pub record PlainGraph : Type 0 where
  pub mode : Mode
  pub places : List (Option Stage)

-- the stage at a place; none at an empty place and past the end
abbrev pub stage_at : List (Option Stage) → ℕ → Option Stage
stage_at places place = slice_index_or places place None

-- a stage stands at the place
abbrev pub IsLive : List (Option Stage) → ℕ → Type 0
IsLive places place = IsSome (stage_at places place)

-- the name of the stage at a place; nothing at an empty one
abbrev pub name_of : Option Stage → List ℕ
name_of None = []
name_of (Some stage) = stage.name

-- the stage at a place has the name
abbrev pub has_name : List ℕ → Option Stage → Bool
has_name name None = false
has_name name (Some stage) = bytes_eq stage.name name

-- the place where the stage of a name stands
abbrev pub place_named : List (Option Stage) → List ℕ → Option ℕ
place_named places name = position (has_name name) places

-- the stage of a name
abbrev pub stage_named : List (Option Stage) → List ℕ → Option Stage
stage_named places name = option_and_then (stage_at places) (place_named places name)

-- the sources, and then the inner stages
abbrev pub feeds_of : Stage → List ℕ
feeds_of stage = stage.sources ++ stage.inner

-- the feeds of the stage at a place
abbrev pub feeds_of_place : Option Stage → List ℕ
feeds_of_place None = []
feeds_of_place (Some stage) = feeds_of stage

abbrev pub feeds_at : List (Option Stage) → ℕ → List ℕ
feeds_at places place = feeds_of_place (stage_at places place)

-- a feed of the stage is the place
abbrev pub uses : ℕ → Option Stage → Bool
uses place None = false
uses place (Some stage) = list_any (nat_eq place) (feeds_of stage)

-- all places, in order
abbrev pub all_places : List (Option Stage) → List ℕ
all_places places = range_with_len 0 (length places)

-- the places whose feeds name the place
abbrev pub dependents : List (Option Stage) → ℕ → List ℕ
dependents places place = filter (λ dependent. uses place (stage_at places dependent)) (all_places places)
