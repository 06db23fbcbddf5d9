-- An order of the live stages, and the closed walk that there is where they have none.
use Rattle.std.specs.Prelude.{ℕ, ◌+◌, ◌-◌, ◌<◌, ◌≡◌, List, length, Option, slice_index, All, Contains, count_by, take, is_some}
use Rattle.stage_graph.specs.declared.stage.Stage.{Stage}
use Rattle.stage_graph.specs.declared.order.OrderFault.{OrderFault}
use Rattle.stage_graph.specs.declared.order.OrderFault.TheVariants.{Cycle, Memory}
use Rattle.stage_graph.specs.Plain.{feeds_at, IsLive}

-- each live place stands in the order once, after its feeds
pub record IsFeedsFirst (places : List (Option Stage)) (order : List ℕ) : Type 0 where
  pub live : All (IsLive places) order
  pub all : (place : ℕ) → IsLive places place → Contains order place
  pub once : length order ≡ count_by is_some places
  pub feeds : (k : ℕ) → k < length order → All (Contains (take k order)) (feeds_at places (slice_index order k))

-- each place is followed by one of its feeds
abbrev pub IsWalk : List (Option Stage) → List ℕ → Type 0
IsWalk places path = (k : ℕ) → k + 1 < length path → Contains (feeds_at places (slice_index path k)) (slice_index path (k + 1))

-- a walk that ends where it began
pub record IsClosedWalk (places : List (Option Stage)) (path : List ℕ) : Type 0 where
  pub steps : 1 < length path
  pub walk : IsWalk places path
  pub closed : slice_index path 0 ≡ slice_index path (length path - 1)

-- a cycle: a closed walk
abbrev pub IsOrderFault : List (Option Stage) → OrderFault → Type 0
IsOrderFault places (Cycle path) = IsClosedWalk places path
IsOrderFault places Memory = Unit {0}
