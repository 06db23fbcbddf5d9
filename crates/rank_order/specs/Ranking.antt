-- Ranks under a change.
use Rattle.std.specs.Prelude.{ℕ, ◌-◌, ◌<◌, ◌≡◌, ◌≢◌, true, false, List, [], length, Option, Contains, slice_index, if◌then◌else◌}
use Rattle.stage_graph.specs.declared.stage.Stage.{Stage}
use Rattle.stage_graph.specs.Plain.{feeds_at}
use Rattle.stage_graph.specs.Walk.{above_all}
use Rattle.stage_graph.specs.Order.{IsWalk, IsClosedWalk}
use Rattle.rank_order.specs.declared.fault.PatchFault.{PatchFault}
use Rattle.rank_order.specs.declared.fault.PatchFault.TheVariants.{Cycle, Memory}
use Rattle.rank_order.specs.Lists.{is_among}

-- the feeds of a place, where the stages at some places are removed
abbrev pub feeds_left : List (Option Stage) → List ℕ → ℕ → List ℕ
feeds_left places out place = if is_among place out then [] else feeds_at places place

-- each place has the rank that its feeds give it
abbrev pub AreRanks : (ℕ → List ℕ) → (ℕ → ℕ) → Type 0
AreRanks feeds ranks = (place : ℕ) → ranks place ≡ above_all ranks (feeds place)

-- each place except these
abbrev pub AreRanksBut : List ℕ → (ℕ → List ℕ) → (ℕ → ℕ) → Type 0
AreRanksBut moved feeds ranks = (place : ℕ) → is_among place moved ≡ false → ranks place ≡ above_all ranks (feeds place)

-- a feed of the place has another rank now, and each of its feeds had a lower one
pub record IsTraced (feeds : ℕ → List ℕ) (before now : ℕ → ℕ) (place : ℕ) : Type 0 where
  pub feed : ℕ
  pub is_feed : Contains (feeds place) feed
  pub changed : now feed ≢ before feed
  pub lower : (other : ℕ) → Contains (feeds place) other → before other < before place

-- each place whose rank has changed is one of these, or can be traced to a feed
abbrev pub AreTraced : List ℕ → (ℕ → List ℕ) → (ℕ → ℕ) → (ℕ → ℕ) → Type 0
AreTraced moved feeds before now = (place : ℕ) → now place ≢ before place → is_among place moved ≡ false → IsTraced feeds before now place

-- a walk from one of the moved places, which is not removed, to one of them
pub record IsStop (places : List (Option Stage)) (out moved path : List ℕ) : Type 0 where
  pub steps : 1 < length path
  pub walk : IsWalk places path
  pub begins : is_among (slice_index path 0) moved ≡ true
  pub stays : is_among (slice_index path 0) out ≡ false
  pub ends : is_among (slice_index path (length path - 1)) moved ≡ true

abbrev pub IsStopFault : List (Option Stage) → List ℕ → List ℕ → PatchFault → Type 0
IsStopFault places out moved (Cycle path) = IsStop places out moved path
IsStopFault places out moved Memory = Unit {0}

-- a cycle begins and ends at one of these places
abbrev pub IsCycleAmong : List (Option Stage) → List ℕ → PatchFault → Type 0
IsCycleAmong places moved (Cycle path) = IsClosedWalk places path × (is_among (slice_index path 0) moved ≡ true)
IsCycleAmong places moved Memory = Unit {0}
