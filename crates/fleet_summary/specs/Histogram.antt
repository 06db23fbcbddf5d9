-- Histograms of times: a list of steps of times, each with its number.
use Rattle.std.specs.Prelude.{ℕ, ◌≡◌, ◌+◌, ◌-◌, ◌^◌, ◌<◌, List, All, min, sum, unwrap_or}
use Rattle.std.specs.BTreeMap.{is_at}
use Rattle.std.specs.List.Sorted.{IsStrictlySortedBy}
use Rattle.std.specs.Map.{keys_of, lookup, values_of}
use Rattle.std.specs.Ordering.{nat_cmp}
use Rattle.fleet_summary.specs.declared.steps.TheConstants.{STEPS}

-- a sum that ends at the greatest number of 64 bits
abbrev pub capped : ℕ → ℕ
capped sum = min sum (2 ^ 64 - 1)

-- the number at a step, 0 where it has none
abbrev pub count_at : List (ℕ × ℕ) → ℕ → ℕ
count_at histogram step = unwrap_or (lookup (is_at (nat_cmp step)) histogram) 0

-- the sum of all numbers
abbrev pub total_of : List (ℕ × ℕ) → ℕ
total_of histogram = sum (values_of histogram)

-- the steps are in order, each once and with a number of 64 bits above 0
pub record IsHistogram (histogram : List (ℕ × ℕ)) : Type 0 where
  pub ordered : IsStrictlySortedBy nat_cmp (keys_of histogram)
  pub steps : All (λ step. step < STEPS) (keys_of histogram)
  pub positive : All (λ number. 0 < number) (values_of histogram)
  pub fits : All (λ number. number < 2 ^ 64) (values_of histogram)

-- at each step stands the sum of what stands there in both
abbrev pub IsJoin : List (ℕ × ℕ) → List (ℕ × ℕ) → List (ℕ × ℕ) → Type 0
IsJoin left right joined = (step : ℕ) → count_at joined step ≡ capped (count_at left step + count_at right step)
