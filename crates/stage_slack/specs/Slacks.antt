-- How many ticks longer the actions of stages may run before a target completes otherwise.
use Rattle.std.specs.Prelude.{ℕ, ◌≡◌, ◌+◌, ◌-◌, ◌^◌, ◌&&◌, ◌==◌, Bool, true, false, nat_le, if◌then◌else◌, List, [], ◌∷◌, Option, Some, None, filter_map, is_some, max, unwrap_or, IfSome}
use Rattle.std.specs.Option.{option_map}
use Rattle.stage_graph.specs.declared.stage.Stage.{Stage}
use Rattle.stage_graph.specs.Plain.{PlainGraph, stage_at}
use Rattle.stage_ops.specs.declared.state.Done.{Done}
use Rattle.propagate.specs.Completions.{same_outcome}
use Rattle.version_store.specs.Queries.{start_in, state_of}
use Rattle.time_sweep.specs.ByKey.{by_key}
use Rattle.time_sweep.specs.Sweep.{completion_of}
use Rattle.time_sweep.specs.Waits.{can_wait_for, waited_for}
use Rattle.time_sweep.specs.WithStage.{with_stage}
use Rattle.stage_slack.specs.declared.slack.Slack.{Slack}
use Rattle.stage_slack.specs.Search.{most_ticks, IsEdge}

-- the stage, with an action that runs this many ticks longer
abbrev pub longer : Stage → ℕ → Stage
longer stage ticks = record stage { runs = stage.runs + ticks }

-- as many ticks longer as a recording may say
abbrev pub most_longer : Stage → ℕ
most_longer stage = 2 ^ 40 - stage.runs

-- of one outcome and one moment, or both pending
abbrev pub agree : Option Done → Option Done → Bool
agree None None = true
agree (Some one) (Some other) = same_outcome one.outcome other.outcome && one.moment == other.moment
agree None (Some other) = false
agree (Some one) None = false

-- the target's outcome and moment are the same where the stage's action runs this many ticks longer
abbrev pub stays : PlainGraph → ℕ → Stage → ℕ → Bool
stays graph target stage ticks = agree (completion_of graph target) (completion_of (with_stage graph (longer stage ticks)) target)

-- the slack of a stage whose action started at this tick
abbrev pub slack_from : PlainGraph → ℕ → ℕ → Stage → ℕ → Slack
slack_from graph target place stage start = record { place = place; ticks = most_ticks (most_longer stage) (stays graph target stage); start = start }

-- of a stage with an action, if that started
abbrev pub slack_of : PlainGraph → ℕ → ℕ → Option Stage → Option Slack
slack_of graph target place None = None
slack_of graph target place (Some stage) =
    if is_some stage.action then option_map (slack_from graph target place stage) (start_in (state_of graph place)) else None

abbrev pub slack_at : PlainGraph → ℕ → ℕ → Option Slack
slack_at graph target place = slack_of graph target place (stage_at graph.places place)

-- no more than these ticks, if any are named
abbrev pub is_within : Option ℕ → Option ℕ → Bool
is_within None ticks = true
is_within (Some most) None = false
is_within (Some most) (Some ticks) = nat_le ticks most

abbrev pub kept : Option ℕ → Option Slack → Option Slack
kept within None = None
kept within (Some slack) = if is_within within slack.ticks then Some slack else None

-- those of the stages that the target can wait for, by place
abbrev pub slacks_within : PlainGraph → ℕ → Option ℕ → List Slack
slacks_within graph target within = filter_map (λ place. kept within (slack_at graph target place)) (waited_for graph.places target)

-- a slack that has no end comes after all others
abbrev pub order_key : Slack → ℕ
order_key slack = unwrap_or slack.ticks (2 ^ 40)

abbrev pub above_keys : List Slack → ℕ
above_keys [] = 0
above_keys (slack ∷ slacks) = max (order_key slack + 1) (above_keys slacks)

-- the least first, and those of as many ticks by place
abbrev pub least_first : List Slack → List Slack
least_first slacks = by_key order_key 0 (above_keys slacks) slacks

abbrev pub slacks : PlainGraph → ℕ → Option ℕ → List Slack
slacks graph target within = least_first (slacks_within graph target within)

-- what a slack says
pub record IsSlack (graph : PlainGraph) (target : ℕ) (slack : Slack) : Type 0 where
  pub waits : can_wait_for graph.places target slack.place ≡ true
  pub start : start_in (state_of graph slack.place) ≡ Some slack.start
  pub ticks : IfSome (stage_at graph.places slack.place) (λ stage. IsEdge (most_longer stage) (stays graph target stage) slack.ticks)
