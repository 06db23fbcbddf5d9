-- The places that a target can wait for.
use Rattle.std.specs.Prelude.{ℕ, ◌≡◌, ◌+◌, ◌⊎◌, Bool, true, false, nat_lt, List, length, Option, Some, None, Contains, IsSome, slice_index_or}
use Rattle.std.specs.List.{sum_by}
use Rattle.stage_graph.specs.Plain.{feeds_at, IsLive}
use Rattle.stage_graph.specs.Walk.{rank}
use Rattle.rank_order.specs.Lists.{is_among}
use Rattle.propagate.specs.Reach.{Stages}

abbrev pub rank_in : List (Option ℕ) → ℕ → Option ℕ
rank_in ranks place = slice_index_or ranks place None

-- a rank is known for the place
abbrev pub IsKnown : List (Option ℕ) → ℕ → Type 0
IsKnown ranks place = IsSome (rank_in ranks place)

-- each rank that is known is that of the place by this order
abbrev pub AreRanksBy : (ℕ → ℕ) → List (Option ℕ) → Type 0
AreRanksBy order ranks = (place known : ℕ) → rank_in ranks place ≡ Some known → known ≡ order place

-- the ranks of the target and of all places that it can wait for, and maybe of others
pub record AreRanksFor (stages : Stages) (target : ℕ) (ranks : List (Option ℕ)) : Type 0 where
  pub count : length ranks ≡ length stages
  pub own : IsKnown ranks target
  pub live : (place : ℕ) → IsKnown ranks place → IsLive stages place
  pub rank : (place known : ℕ) → rank_in ranks place ≡ Some known → known ≡ rank stages place
  pub feeds : (place feed : ℕ) → IsKnown ranks place → Contains (feeds_at stages place) feed → IsKnown ranks feed

-- both ranks are known, and the first is below the second
abbrev pub is_below : Option ℕ → Option ℕ → Bool
is_below (Some one) (Some other) = nat_lt one other
is_below one other = false

-- each rank that is known is that of a stage
pub record IsFinding (stages : Stages) (ranks : List (Option ℕ)) : Type 0 where
  pub count : length ranks ≡ length stages
  pub live : (place : ℕ) → IsKnown ranks place → IsLive stages place
  pub rank : (place known : ℕ) → rank_in ranks place ≡ Some known → known ≡ rank stages place

-- 1 where no rank is known
abbrev pub unknown : Option ℕ → ℕ
unknown None = 1
unknown (Some rank) = 0

-- More ranks may be known, and each further place waits. Of the places that are not known or wait there are as many as before.
pub record IsFurther (ranks : List (Option ℕ)) (waiting : List ℕ) (ranks_then : List (Option ℕ)) (waiting_then : List ℕ) : Type 0 where
  pub kept : (place : ℕ) → IsKnown ranks place → IsKnown ranks_then place
  pub fresh : (place : ℕ) → IsKnown ranks_then place → IsKnown ranks place ⊎ (is_among place waiting_then ≡ true)
  pub waits : (place : ℕ) → is_among place waiting ≡ true → is_among place waiting_then ≡ true
  pub count : sum_by unknown ranks_then + length waiting_then ≡ sum_by unknown ranks + length waiting
