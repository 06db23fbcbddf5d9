-- Quantiles: of times, and of histograms of them.
use Rattle.std.specs.Prelude.{ℕ, ◌≡◌, ◌*◌, ◌<◌, ◌≤◌, ◌==◌, if◌then◌else◌, List, count_by, max, nat_le, nat_lt, sum_by}
use Rattle.std.specs.Int.{div_ceil}
use Rattle.fleet_summary.specs.Histogram.{capped, count_at}
use Rattle.fleet_summary.specs.Steps.{step_of}

-- the histogram of times: at each step how many of them have it
abbrev pub IsHistogramOf : List ℕ → List (ℕ × ℕ) → Type 0
IsHistogramOf times histogram = (step : ℕ) → count_at histogram step ≡ capped (count_by (λ time. step == step_of time) times)

-- the least number, from 1, that is at least so many hundredths of all
abbrev pub rank_of : ℕ → ℕ → ℕ
rank_of hundredths all = max (div_ceil (hundredths * all) 100) 1

-- In order of time it has the rank: fewer are below it, and so many or more are not above it.
pub record IsOfRank (rank : ℕ) (times : List ℕ) (time : ℕ) : Type 0 where
  pub above : count_by (λ other. nat_lt other time) times < rank
  pub reached : rank ≤ count_by (λ other. nat_le other time) times

-- the same of a step of a histogram, which stands for as many times as its number says
pub record IsStepOfRank (rank : ℕ) (histogram : List (ℕ × ℕ)) (step : ℕ) : Type 0 where
  pub above : sum_by (λ entry. if nat_lt entry.0 step then entry.1 else 0) histogram < rank
  pub reached : rank ≤ sum_by (λ entry. if nat_le entry.0 step then entry.1 else 0) histogram
