-- What is counted of each group, by names.
use Rattle.std.specs.Prelude.{ℕ, if◌then◌else◌, List, All, sum_by}
use Rattle.std.specs.BTreeMap.{is_at}
use Rattle.std.specs.List.Sorted.{IsStrictlySortedBy}
use Rattle.std.specs.Map.{keys_of, lookup, values_of}
use Rattle.std.specs.Option.{option_map_or}
use Rattle.std.specs.Ordering.{is_eq}
use Rattle.fleet_summary.specs.declared.facts.GroupFacts.{GroupFacts}
use Rattle.fleet_summary.specs.declared.group.GroupCounts.{GroupCounts}
use Rattle.fleet_summary.specs.GroupCounters.{GroupCounter, IsGroup, group_amount, group_facts_at}
use Rattle.fleet_summary.specs.Names.{name_cmp}

-- the number of a counter of a group, 0 where it is in no trace
abbrev pub amount_of : List (List ℕ × GroupCounts) → List ℕ → GroupCounter → ℕ
amount_of groups name counter = option_map_or (λ counts. group_amount counts counter) (lookup (is_at (name_cmp name)) groups) 0

-- what the groups of one trace add to it, where its reply took a time
abbrev pub facts_of : ℕ → List GroupFacts → List ℕ → GroupCounter → ℕ
facts_of time groups name counter = sum_by (λ group. if is_eq (name_cmp name group.name) then group_facts_at time group counter else 0) groups

-- the names are in order, each once
pub record IsGroups (groups : List (List ℕ × GroupCounts)) : Type 0 where
  pub ordered : IsStrictlySortedBy name_cmp (keys_of groups)
  pub each : All IsGroup (values_of groups)
