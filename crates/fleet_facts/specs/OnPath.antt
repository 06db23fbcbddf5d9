-- What a group did on a path. No sum of ticks reaches the end of 64 bits: a path's ticks are those to its reply.
use Rattle.std.specs.Prelude.{ℕ, if◌then◌else◌, List, Option, sum_by}
use Rattle.stage_graph.specs.Plain.{PlainGraph}
use Rattle.scratch_eval.specs.Path.{reason_at}
use Rattle.fleet_summary.specs.Histogram.{capped}
use Rattle.span_groups.specs.Grouping.{counts_to}
use Rattle.span_groups.specs.declared.grouping.Counted.{Counted}

-- how many ticks the action of the stage at a place ran, and was queued, since the cause of its state
abbrev pub ran_at : PlainGraph → ℕ → ℕ
ran_at graph place = (reason_at graph place).ran

abbrev pub queued_at : PlainGraph → ℕ → ℕ
queued_at graph place = (reason_at graph place).queued

-- the ticks of the stages of a group among some places
abbrev pub of_group : (ℕ → ℕ) → List (Option Counted) → ℕ → List ℕ → ℕ
of_group ticks stages group places = capped (sum_by (λ place. if counts_to stages group place then ticks place else 0) places)

-- those in which they ran
abbrev pub ran_on : PlainGraph → List (Option Counted) → ℕ → List ℕ → ℕ
ran_on graph stages group path = of_group (ran_at graph) stages group path

-- and were queued
abbrev pub queued_on : PlainGraph → List (Option Counted) → ℕ → List ℕ → ℕ
queued_on graph stages group path = of_group (queued_at graph) stages group path
