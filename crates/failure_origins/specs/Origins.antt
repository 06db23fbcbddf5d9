-- For each place the origin of the exception that its stage holds.
use Rattle.std.specs.Prelude.{ℕ, ◌≡◌, ◌<◌, Bool, true, false, ◌==◌, if◌then◌else◌, List, length, Option, Some, None, IfSome, slice_index_or}
use Rattle.stage_graph.specs.Plain.{PlainGraph}
use Rattle.stage_ops.specs.declared.state.Done.{Done}
use Rattle.stage_ops.specs.Sources.{is_exceptional}
use Rattle.failure_origins.specs.Failures.{is_origin, holds}

-- the origin that is known of a place; none where its stage holds no exception
abbrev pub origin_at : List (Option ℕ) → ℕ → Option ℕ
origin_at origins place = slice_index_or origins place None

-- the origin is this place
abbrev pub is_from : ℕ → Option ℕ → Bool
is_from origin None = false
is_from origin (Some known) = known == origin

-- the stage at the place holds the exception of this origin, by what is known
abbrev pub comes_from : List (Option ℕ) → ℕ → ℕ → Bool
comes_from origins origin place = is_from origin (origin_at origins place)

-- the origin of an exception: that of the source that is blamed, or else the place itself
abbrev pub origin_after : List (Option ℕ) → ℕ → Option ℕ → Option ℕ
origin_after origins place None = Some place
origin_after origins place (Some source) = origin_at origins source

-- the origin of a place by its completion, where those of its sources are known
abbrev pub origin_by : List (Option ℕ) → ℕ → Option Done → Option ℕ
origin_by origins place None = None
origin_by origins place (Some done) = if is_exceptional done.outcome then origin_after origins place done.from else None

-- what is known is the one origin whose exception the stage at the place holds, if there is one
pub record KnowsOrigin (graph : PlainGraph) (place : ℕ) (known : Option ℕ) : Type 0 where
  pub arose : IfSome known (λ origin. is_origin graph origin ≡ true)
  pub held : IfSome known (λ origin. holds graph origin place ≡ true)
  pub only : (origin : ℕ) → is_origin graph origin ≡ true → holds graph origin place ≡ true → known ≡ Some origin

pub record AreOrigins (graph : PlainGraph) (origins : List (Option ℕ)) : Type 0 where
  pub long : length origins ≡ length graph.places
  pub each : (place : ℕ) → KnowsOrigin graph place (origin_at origins place)

-- each origin is one of this many places
abbrev pub AreWithin : List (Option ℕ) → ℕ → Type 0
AreWithin origins count = (place : ℕ) → IfSome (origin_at origins place) (λ origin. origin < count)
