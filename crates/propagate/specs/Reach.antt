-- The stages that a change of a graph touches.
use Rattle.std.specs.Prelude.{◌≡◌, ℕ, ◌<◌, ◌≤◌, Bool, true, false, not, List, [], ◌++◌, length, Option, Some, None, ◌==◌, ◌&&◌, ◌||◌, filter, is_some, slice_get, slice_index_or}
use Rattle.std.specs.List.{list_any, flat_map}
use Rattle.std.specs.Option.{option_to_list}
use Rattle.stage_graph.specs.declared.stage.Stage.{Stage}
use Rattle.stage_graph.specs.Plain.{stage_at, feeds_at}
use Rattle.stage_graph.specs.Walk.{rank, step_at}
use Rattle.rank_order.specs.Lists.{is_among}
use Rattle.stage_graph.specs.Plain.{all_places}
use Rattle.stage_ops.specs.declared.state.State.{State}
use Rattle.stage_ops.specs.declared.state.Reads.{Reads}
use Rattle.stage_ops.specs.declared.state.Reads.TheVariants.{Nothing, Sources, Picked}
use Rattle.stage_ops.specs.States.{Completion, pending, seen_at, state_at}
use Rattle.stage_ops.specs.Evaluation.{at, on_states}
use Rattle.propagate.specs.Completions.{differ}

-- the places of a graph, each empty or with a stage
abbrev pub Stages : Type 0
Stages = List (Option Stage)

-- what dependents see at each place
abbrev pub Seen : Type 0
Seen = ℕ → Option Completion

-- the state of a stage, by what it sees at its feeds
abbrev pub Step : Type 0
Step = Stage → Seen → State

-- the feeds that a stage with these reads has read
abbrev pub read_places : Stage → Reads → List ℕ
read_places stage Nothing = []
read_places stage Sources = stage.sources
read_places stage (Picked index) = stage.sources ++ option_to_list (slice_get stage.inner index)

-- the same of what stands at a place
abbrev pub reads_of : Option Stage → Reads → List ℕ
reads_of None reads = []
reads_of (Some stage) reads = read_places stage reads

-- the state of a place, by the states of its feeds
abbrev pub come_to : Step → Option Stage → (ℕ → State) → State
come_to step here states = step_at pending (on_states step) states here

-- the places that a place reads in a graph
abbrev pub reads_at : Step → Stages → ℕ → List ℕ
reads_at step stages place = reads_of (stage_at stages place) (at step stages place).reads

-- whether a place is edited, or read in the old graph a place at which dependents now see something else
abbrev pub is_reached : Step → Stages → (ℕ → Bool) → Seen → ℕ → Bool
is_reached step old edited now place =
    edited place || list_any (λ read. differ (seen_at (at step old) read) (now read)) (reads_at step old place)

-- whether the change touches a place: a live stage of the new graph, edited or with an input that changed
abbrev pub is_touched : Step → Stages → Stages → (ℕ → Bool) → ℕ → Bool
is_touched step old new edited place = is_some (stage_at new place) && is_reached step old edited (seen_at (at step new)) place

-- the touched stages, by rank in the new graph, and then by place
abbrev pub touched : Step → Stages → Stages → (ℕ → Bool) → List ℕ
touched step old new edited =
    flat_map (λ level. filter (λ place. rank new place == level && is_touched step old new edited place) (all_places new)) (all_places new)

-- The graph keeps its places, and may have more; what stands at a place that is not edited stays.
pub record IsChange (old new : Stages) (edited : ℕ → Bool) : Type 0 where
  pub longer : length old ≤ length new
  pub elsewhere : (place : ℕ) → edited place ≡ false → stage_at new place ≡ stage_at old place

-- whether the place is edited, and nothing stands there any more
abbrev pub is_emptied : Stages → List ℕ → ℕ → Bool
is_emptied new edited place = is_among place edited && not (is_some (stage_at new place))

-- the place is among the reads of the other one
abbrev pub has_read : Stages → (ℕ → State) → ℕ → ℕ → Bool
has_read stages states read place = is_among read (reads_of (stage_at stages place) (states place).reads)

-- no place of the list is above a later one
abbrev pub Climbs : List ℕ → Type 0
Climbs places = (i j : ℕ) → i ≤ j → j < length places → slice_index_or places i 0 ≤ slice_index_or places j 0

-- whether a place has read a feed at which dependents see something else afterwards
abbrev pub is_told : Stages → (ℕ → State) → (ℕ → State) → ℕ → ℕ → Bool
is_told stages before after place feed =
    differ (seen_at before feed) (seen_at after feed) && (is_among feed (feeds_at stages place) && has_read stages before feed place)

-- the states are those of evaluation from scratch
pub record AreStates (step : Step) (stages : Stages) (states : List State) : Type 0 where
  pub count : length states ≡ length stages
  pub each : (place : ℕ) → state_at states place ≡ at step stages place

-- a stage that is not among the touched ones stays as it was, and keeps its state
abbrev pub StaysUntouched : (Stages → ℕ → State) → (Stages → ℕ → State) → Stages → Stages → List ℕ → Type 0
StaysUntouched came comes old new touched = (place : ℕ) → is_some (stage_at new place) ≡ true → is_among place touched ≡ false
    → (stage_at new place ≡ stage_at old place) × (comes new place ≡ came old place)
