-- Which single changes of stages would have saved a reply.
use Rattle.std.specs.Prelude.{ℕ, ◌≡◌, ◌+◌, ◌≤◌, true, if◌then◌else◌, List, [], ◌∷◌, map, Option, None, Some, filter_map, is_some, max, Contains, IfSome}
use Rattle.std.specs.Option.{option_map}
use Rattle.std.specs.List.{flat_map}
use Rattle.act_expr.specs.declared.outcome.Outcome.TheVariants.{Value as Normal}
use Rattle.act_expr.specs.declared.outcome.Value.{Value}
use Rattle.stage_graph.specs.declared.stage.Stage.{Stage}
use Rattle.stage_graph.specs.Plain.{PlainGraph, stage_at}
use Rattle.stage_ops.specs.declared.state.Done.{Done}
use Rattle.time_sweep.specs.ByKey.{by_key}
use Rattle.time_sweep.specs.Sweep.{completion_of}
use Rattle.time_sweep.specs.Waits.{can_wait_for, waited_for}
use Rattle.time_sweep.specs.WithStage.{with_stage}
use Rattle.reply_rescue.specs.declared.change.Change.{Change}
use Rattle.reply_rescue.specs.declared.reply.Reply.{Reply}
use Rattle.reply_rescue.specs.declared.rescue.Rescue.{Rescue}
use Rattle.reply_rescue.specs.Changed.{changed}
use Rattle.reply_rescue.specs.Changes.{changes_of}
use Rattle.reply_rescue.specs.Replies.{reply_of}

-- one change of the stage at a place
pub record Trial : Type 0 where
  pub place : ℕ
  pub change : Change

abbrev pub trial_at : ℕ → Change → Trial
trial_at place change = record { place = place; change = change }

abbrev pub trials_of : PlainGraph → Value → ℕ → Option Stage → List Trial
trials_of graph value place None = []
trials_of graph value place (Some stage) = map (trial_at place) (changes_of graph value place stage)

abbrev pub trials_at : PlainGraph → Value → ℕ → List Trial
trials_at graph value place = trials_of graph value place (stage_at graph.places place)

-- those of the stages that the target can wait for, by place; a target that has a value in time needs none
abbrev pub trials : PlainGraph → ℕ → Option ℕ → Value → List Trial
trials graph target by value =
    if is_some (reply_of by (completion_of graph target)) then [] else flat_map (trials_at graph value) (waited_for graph.places target)

-- how the target completes where a stage is changed
abbrev pub completion_with : PlainGraph → ℕ → Change → Option Stage → Option Done
completion_with graph target change None = None
completion_with graph target change (Some stage) = completion_of (with_stage graph (changed stage change)) target

abbrev pub rescue_by : Trial → Reply → Rescue
rescue_by trial reply = record { place = trial.place; change = trial.change; value = reply.value; moment = reply.moment }

-- the trial, if the target has a value in time where the stage is changed
abbrev pub saves : PlainGraph → ℕ → Option ℕ → Trial → Option Rescue
saves graph target by trial = option_map (rescue_by trial) (reply_of by (completion_with graph target trial.change (stage_at graph.places trial.place)))

abbrev pub rescue_moment : Rescue → ℕ
rescue_moment rescue = rescue.moment

abbrev pub above_moments : List Rescue → ℕ
above_moments [] = 0
above_moments (rescue ∷ rescues) = max (rescue_moment rescue + 1) (above_moments rescues)

-- the soonest first, and those of one moment in the order of their trials
abbrev pub soonest_first : List Rescue → List Rescue
soonest_first rescues = by_key rescue_moment 0 (above_moments rescues) rescues

abbrev pub rescues : PlainGraph → ℕ → Option ℕ → Value → List Rescue
rescues graph target by value = soonest_first (filter_map (saves graph target by) (trials graph target by value))

-- what a rescue says
pub record IsRescue (graph : PlainGraph) (target : ℕ) (by : Option ℕ) (value : Value) (rescue : Rescue) : Type 0 where
  pub waits : can_wait_for graph.places target rescue.place ≡ true
  -- the stage that is changed
  pub stage : Stage
  pub stands : stage_at graph.places rescue.place ≡ Some stage
  pub tried : Contains (changes_of graph value rescue.place stage) rescue.change
  -- with the change the target completes so
  pub done : Done
  pub completes : completion_of (with_stage graph (changed stage rescue.change)) target ≡ Some done
  pub outcome : done.outcome ≡ Normal rescue.value
  pub moment : done.moment ≡ rescue.moment
  pub in_time : IfSome by (λ last. rescue.moment ≤ last)
