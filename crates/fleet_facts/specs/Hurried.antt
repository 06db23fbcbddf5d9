-- A group's work at no time.
use Rattle.std.specs.Prelude.{ℕ, Bool, ◌&&◌, ◌||◌, nat_lt, if◌then◌else◌, List, Option, Some, None, filter_map, is_some}
use Rattle.stage_graph.specs.declared.stage.Stage.{Stage}
use Rattle.stage_graph.specs.Plain.{PlainGraph, all_places, stage_at}
use Rattle.stage_ops.specs.declared.state.Done.{Done}
use Rattle.time_sweep.specs.Hastened.{hastened_stage, whole_haste}
use Rattle.time_sweep.specs.Sweep.{completion_of}
use Rattle.time_sweep.specs.WithStage.{with_stages}
use Rattle.span_groups.specs.Grouping.{works_for}
use Rattle.span_groups.specs.declared.grouping.Counted.{Counted}

-- the stage has an action that is queued or runs for some ticks
abbrev pub takes_time : Stage → Bool
takes_time stage = is_some stage.action && (nat_lt 0 stage.queued || nat_lt 0 stage.runs)

-- at no time, if it took some
abbrev pub hurried : Option Stage → Option Stage
hurried None = None
hurried (Some stage) = if takes_time stage then Some (hastened_stage whole_haste stage) else None

-- the same of the stage at a place, if it is work of the group
abbrev pub hurried_at : PlainGraph → List (Option Counted) → ℕ → ℕ → Option Stage
hurried_at graph stages group place = if works_for stages group place then hurried (stage_at graph.places place) else None

-- all work of the group at no time
abbrev pub all_hurried : PlainGraph → List (Option Counted) → ℕ → List Stage
all_hurried graph stages group = filter_map (hurried_at graph stages group) (all_places graph.places)

-- how a reply completes then: one what-if for the whole group
abbrev pub completion_then : PlainGraph → List (Option Counted) → ℕ → ℕ → Option Done
completion_then graph stages group reply = completion_of (with_stages graph (all_hurried graph stages group)) reply
