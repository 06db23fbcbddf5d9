-- The counters of a group.
use Rattle.std.specs.Prelude.{ℕ, ◌-◌, ◌^◌, ◌<◌, ◌==◌, if◌then◌else◌}
use Rattle.fleet_summary.specs.declared.facts.GroupFacts.{GroupFacts}
use Rattle.fleet_summary.specs.declared.group.GroupCounts.{GroupCounts}
use Rattle.fleet_summary.specs.Histogram.{IsHistogram, count_at}
use Rattle.fleet_summary.specs.Steps.{step_of}

-- how many traces it is in, how many spans it has, and so on; those at a step are of a histogram's steps
pub data GroupCounter : Type 0 where
  in_traces : GroupCounter
  in_spans : GroupCounter
  on_paths : GroupCounter
  comes_sooner : GroupCounter
  ran_at : ℕ → GroupCounter
  queued_at : ℕ → GroupCounter
  took_at : ℕ → GroupCounter
  then_at : ℕ → GroupCounter

-- the number of a counter
abbrev pub group_amount : GroupCounts → GroupCounter → ℕ
group_amount counts in_traces = counts.traces
group_amount counts in_spans = counts.spans
group_amount counts on_paths = counts.paths
group_amount counts comes_sooner = counts.sooner
group_amount counts (ran_at step) = count_at counts.ran step
group_amount counts (queued_at step) = count_at counts.queued step
group_amount counts (took_at step) = count_at counts.times step
group_amount counts (then_at step) = count_at counts.times_then step

-- what one trace adds to it by what the group came to in it, where its reply took a time
abbrev pub group_facts_at : ℕ → GroupFacts → GroupCounter → ℕ
group_facts_at time facts in_traces = 1
group_facts_at time facts in_spans = facts.spans
group_facts_at time facts on_paths = if facts.is_on_path then 1 else 0
group_facts_at time facts comes_sooner = time - facts.time_then
group_facts_at time facts (ran_at step) = if step == step_of time then facts.ran else 0
group_facts_at time facts (queued_at step) = if step == step_of time then facts.queued else 0
group_facts_at time facts (took_at step) = if step == step_of time then 1 else 0
group_facts_at time facts (then_at step) = if step == step_of facts.time_then then 1 else 0

-- The group is in a trace, and each number has 64 bits.
pub record IsGroup (counts : GroupCounts) : Type 0 where
  pub some : 0 < counts.traces
  pub fits : (counter : GroupCounter) → group_amount counts counter < 2 ^ 64
  pub ran : IsHistogram counts.ran
  pub queued : IsHistogram counts.queued
  pub times : IsHistogram counts.times
  pub times_then : IsHistogram counts.times_then
