-- How long the replies take where a group takes no time.
use Rattle.std.specs.Prelude.{ℕ, ◌≡◌, ◌+◌, ◌-◌, List, [], MatchOption, Option}
use Rattle.fleet_summary.specs.declared.group.GroupCounts.{GroupCounts}
use Rattle.fleet_summary.specs.Histogram.{IsHistogram, capped, count_at}
use Rattle.fleet_answer.specs.Quantiles.{IsQuantile}

-- at each step stands what is left of one where another is taken away
abbrev pub IsLeft : List (ℕ × ℕ) → List (ℕ × ℕ) → List (ℕ × ℕ) → Type 0
IsLeft all taken left = (step : ℕ) → count_at left step ≡ count_at all step - count_at taken step

-- the replies of the group's traces take what they take then, and the others what they took
abbrev pub IsWithout : List (ℕ × ℕ) → GroupCounts → List (ℕ × ℕ) → Type 0
IsWithout all group without = (step : ℕ) → count_at without step ≡ capped (count_at all step - count_at group.times step + count_at group.times_then step)

-- the p99 of all replies then; none where there is no reply
pub record IsP99Without (all : List (ℕ × ℕ)) (group : GroupCounts) (p99 : Option ℕ) : Type 0 where
  pub without : List (ℕ × ℕ)
  pub sound : IsHistogram without
  pub is : IsWithout all group without
  pub p99_is : MatchOption p99 (without ≡ []) (IsQuantile 99 without)
