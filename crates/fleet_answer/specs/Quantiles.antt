-- The quantiles that an answer tells of times.
use Rattle.std.specs.Prelude.{ℕ, ◌≡◌, ◌*◌, ◌-◌, ◌^◌, ◌<◌, ◌≤◌, List, All, length}
use Rattle.fleet_summary.specs.Histogram.{total_of}
use Rattle.fleet_summary.specs.Quantiles.{IsHistogramOf, IsOfRank, IsStepOfRank, rank_of}
use Rattle.fleet_summary.specs.Steps.{upper_end}
use Rattle.fleet_answer.specs.declared.times.Times.{Times}

-- of any times that the histogram is of, it is at most a 64th above the exact one, and not below it
abbrev pub IsNear : ℕ → List (ℕ × ℕ) → ℕ → Type 0
IsNear hundredths histogram time = (times : List ℕ) (exact : ℕ) → All (λ other. other < 2 ^ 64) times → length times < 2 ^ 64 → IsHistogramOf times histogram → exact < 2 ^ 64
    → IsOfRank (rank_of hundredths (length times)) times exact → (exact ≤ time) × (64 * (time - exact) ≤ exact)

-- the greatest time of the step that so many hundredths of the times are not above
pub record IsQuantile (hundredths : ℕ) (histogram : List (ℕ × ℕ)) (time : ℕ) : Type 0 where
  pub at : (step : ℕ) × (time ≡ upper_end step) × IsStepOfRank (rank_of hundredths (total_of histogram)) histogram step
  pub near : IsNear hundredths histogram time

pub record AreTimesOf (histogram : List (ℕ × ℕ)) (times : Times) : Type 0 where
  pub p50 : IsQuantile 50 histogram times.p50
  pub p90 : IsQuantile 90 histogram times.p90
  pub p99 : IsQuantile 99 histogram times.p99
  pub longest : IsQuantile 100 histogram times.longest
