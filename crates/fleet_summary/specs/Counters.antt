-- The counters of a summary.
use Rattle.std.specs.Prelude.{ℕ, ◌≡◌, ◌+◌, ◌^◌, ◌<◌, ◌==◌, if◌then◌else◌, List, is_some, sum_by}
use Rattle.std.specs.Option.{option_map_or}
use Rattle.std.specs.Ordering.{is_eq}
use Rattle.fleet_summary.specs.declared.facts.Failure.{Failure}
use Rattle.fleet_summary.specs.declared.facts.TraceFacts.{TraceFacts}
use Rattle.fleet_summary.specs.declared.summary.Summary.{Summary}
use Rattle.fleet_summary.specs.Histogram.{IsHistogram, capped, count_at}
use Rattle.fleet_summary.specs.Failures.{IsFailures, failed_by}
use Rattle.fleet_summary.specs.GroupCounters.{GroupCounter}
use Rattle.fleet_summary.specs.Groups.{IsGroups, amount_of, facts_of}
use Rattle.fleet_summary.specs.Names.{failure_cmp}
use Rattle.fleet_summary.specs.Steps.{step_of}

-- replies, those that failed, those that took a time of a step, those of a group by its name, and the failures
pub data Counter : Type 0 where
  replied : Counter
  failed : Counter
  replied_at : ℕ → Counter
  in_group : List ℕ → GroupCounter → Counter
  failed_with : Failure → Counter

-- what a trace adds to a counter
abbrev pub facts_at : TraceFacts → Counter → ℕ
facts_at facts replied = 1
facts_at facts failed = if is_some facts.failure then 1 else 0
facts_at facts (replied_at step) = if step == step_of facts.time then 1 else 0
facts_at facts (in_group name counter) = facts_of facts.time facts.groups.items name counter
facts_at facts (failed_with failure) = option_map_or (λ own. if is_eq (failure_cmp failure own) then 1 else 0) facts.failure 0

-- the number of a counter
abbrev pub amount : Summary → Counter → ℕ
amount summary replied = summary.replies.count
amount summary failed = summary.replies.failed
amount summary (replied_at step) = count_at summary.replies.times step
amount summary (in_group name counter) = amount_of summary.groups name counter
amount summary (failed_with failure) = failed_by summary.failures failure

-- the summary of traces: each number is the sum of what they add
abbrev pub IsSummaryOf : List TraceFacts → Summary → Type 0
IsSummaryOf traces summary = (counter : Counter) → amount summary counter ≡ capped (sum_by (λ facts. facts_at facts counter) traces)

-- two summaries, joined: each number is the sum of both
abbrev pub IsSummaryJoin : Summary → Summary → Summary → Type 0
IsSummaryJoin left right joined = (counter : Counter) → amount joined counter ≡ capped (amount left counter + amount right counter)

-- what holds of each summary that the crate makes
pub record IsSound (summary : Summary) : Type 0 where
  pub times : IsHistogram summary.replies.times
  pub groups : IsGroups summary.groups
  pub failures : IsFailures summary.failures
  pub fits : (counter : Counter) → amount summary counter < 2 ^ 64
