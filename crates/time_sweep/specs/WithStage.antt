-- The graph with other stages in place of those that stand there.
use Rattle.std.specs.Prelude.{ℕ, ◌≡◌, ◌<◌, ◌==◌, if◌then◌else◌, Bool, List, [], ◌∷◌, Option, Some, None, All, AllPairs, slice_set}
use Rattle.std.specs.List.{list_any}
use Rattle.std.specs.Option.{option_map}
use Rattle.stage_graph.specs.declared.stage.Stage.{Stage}
use Rattle.stage_graph.specs.Plain.{PlainGraph, stage_at}
use Rattle.stage_graph.specs.Sound.{IsSoundStage}

abbrev pub with_stage : PlainGraph → Stage → PlainGraph
with_stage graph stage = record graph { places = slice_set graph.places stage.place (Some stage) }

-- The stage keeps every rule at its place, so it has the name of the one that stands there; and it has the feeds of that one.
pub record IsFitting (stages : List (Option Stage)) (stage : Stage) : Type 0 where
  pub sound : IsSoundStage stages stage.place stage
  pub sources : option_map (λ (here : Stage). here.sources) (stage_at stages stage.place) ≡ Some stage.sources
  pub inner : option_map (λ (here : Stage). here.inner) (stage_at stages stage.place) ≡ Some stage.inner

-- ---- several stages, each at its place

abbrev pub places_with : List (Option Stage) → List Stage → List (Option Stage)
places_with places [] = places
places_with places (stage ∷ stages) = places_with (slice_set places stage.place (Some stage)) stages

abbrev pub with_stages : PlainGraph → List Stage → PlainGraph
with_stages graph stages = record graph { places = places_with graph.places stages }

-- their places ascend, so each has its own
abbrev pub Ascend : List Stage → Type 0
Ascend stages = AllPairs (λ (one other : Stage). one.place < other.place) stages

-- each keeps every rule at its place, and has the feeds of the one that stands there
pub record AreFitting (places : List (Option Stage)) (stages : List Stage) : Type 0 where
  pub each : All (IsFitting places) stages
  pub ascend : Ascend stages

-- one of them stands at the place
abbrev pub is_changed : List Stage → ℕ → Bool
is_changed stages place = list_any (λ (stage : Stage). place == stage.place) stages

-- that one
abbrev pub stage_among : List Stage → ℕ → Option Stage
stage_among [] place = None
stage_among (stage ∷ stages) place = if place == stage.place then Some stage else stage_among stages place
