-- Who is told of the changes of a level, place by place.
use Rattle.std.specs.Prelude.{◌≡◌, ◌<◌, ℕ, Bool, false, List, Option, None, IfSome, is_some, length, slice_index_or}
use Rattle.std.specs.Option.{option_map_or}
use Rattle.stage_graph.specs.Plain.{dependents}
use Rattle.stage_ops.specs.declared.state.State.{State}
use Rattle.stage_ops.specs.States.{seen_at, seen_of, state_at}
use Rattle.propagate.specs.Completions.{differ}
use Rattle.propagate.specs.Reach.{Stages}
use Rattle.propagate.specs.declared.telling.Told.{Told}

-- whether dependents see something else at a place, if it has a state anew
abbrev pub is_another : List State → ℕ → Option State → Bool
is_another states place after = option_map_or (λ state. differ (seen_at (state_at states) place) (seen_of state)) after false

-- for each of the first places, whether it has changed
pub record AreCompared (states : List State) (level : List ℕ) (results : List (Option State)) (count : ℕ) (changed : List Bool) : Type 0 where
  pub long : length changed ≡ count
  pub each : (at : ℕ) → at < count → slice_index_or changed at false ≡ is_another states (slice_index_or level at 0) (slice_index_or results at None)

-- the dependents of a place, if it has changed
pub record IsListed (stages : Stages) (place : ℕ) (changed : Bool) (found : Option Told) : Type 0 where
  pub some : is_some found ≡ changed
  pub listed : IfSome found (λ (told : Told). told.dependents.now ≡ dependents stages place)

-- the same of each of the first places
pub record AreListed (stages : Stages) (level : List ℕ) (changed : List Bool) (count : ℕ) (told : List (Option Told)) : Type 0 where
  pub long : length told ≡ count
  pub each : (at : ℕ) → at < count → IsListed stages (slice_index_or level at 0) (slice_index_or changed at false) (slice_index_or told at None)

-- what is found for each place of a level
pub record AreFound (stages : Stages) (states : List State) (level : List ℕ) (results : List (Option State)) (told : List (Option Told)) : Type 0 where
  pub long : length told ≡ length level
  pub each : (at : ℕ) → at < length level → IsListed stages (slice_index_or level at 0) (is_another states (slice_index_or level at 0) (slice_index_or results at None)) (slice_index_or told at None)
