-- How many replies failed by what.
use Rattle.std.specs.Prelude.{ℕ, ◌^◌, ◌<◌, List, All, unwrap_or}
use Rattle.std.specs.BTreeMap.{is_at}
use Rattle.std.specs.List.Sorted.{IsStrictlySortedBy}
use Rattle.std.specs.Map.{keys_of, lookup, values_of}
use Rattle.fleet_summary.specs.declared.facts.Failure.{Failure}
use Rattle.fleet_summary.specs.Names.{failure_cmp}

-- how many replies failed by one
abbrev pub failed_by : List (Failure × ℕ) → Failure → ℕ
failed_by failures failure = unwrap_or (lookup (is_at (failure_cmp failure)) failures) 0

-- they are in order, each once and with a number of 64 bits above 0
pub record IsFailures (failures : List (Failure × ℕ)) : Type 0 where
  pub ordered : IsStrictlySortedBy failure_cmp (keys_of failures)
  pub positive : All (λ replies. 0 < replies) (values_of failures)
  pub fits : All (λ replies. replies < 2 ^ 64) (values_of failures)
