-- Which stages are worth making faster: how much sooner a stage would complete if the action of another took less time.
use Rattle.std.specs.Prelude.{ℕ, ◌≡◌, Bool, true, false, not, List, ◌++◌, Option, Some, None, filter, filter_map, is_some, nat_lt, ◌==◌, if◌then◌else◌, IsPermutation}
use Rattle.std.specs.List.{flat_map, range_with_len}
use Rattle.std.specs.List.Sorted.{IsNonDecreasingBy, IsStableByKey}
use Rattle.std.specs.Ordering.{nat_cmp}
use Rattle.act_expr.specs.declared.outcome.Outcome.{Outcome}
use Rattle.act_expr.specs.declared.outcome.Outcome.TheVariants as came_to
use Rattle.stage_graph.specs.declared.stage.Stage.{Stage}
use Rattle.stage_graph.specs.Plain.{PlainGraph, stage_at, all_places}
use Rattle.stage_ops.specs.declared.state.Done.{Done}
use Rattle.version_store.specs.Queries.{state_of}
use Rattle.time_sweep.specs.declared.haste.Haste.{Haste}
use Rattle.time_sweep.specs.declared.trial.Trial.{Trial}
use Rattle.time_sweep.specs.Hastened.{hastened}

-- the completion of a stage in a graph; none while it is pending
abbrev pub completion_of : PlainGraph → ℕ → Option Done
completion_of graph place = (state_of graph place).done

-- a trial that completes sooner
abbrev pub sooner_trial : ℕ → Option Done → Option Done → Option Trial
sooner_trial place (Some old) (Some new) = if nat_lt new.moment old.moment then Some (record { place = place; outcome = new.outcome; moment = new.moment }) else None
sooner_trial place old new = None

-- the completion of the target if the action of a stage was so much faster, if it has one and the target would complete sooner
abbrev pub trial_of : PlainGraph → Haste → ℕ → ℕ → Option Stage → Option Trial
trial_of graph haste target place None = None
trial_of graph haste target place (Some stage) =
    if is_some stage.action then sooner_trial place (completion_of graph target) (completion_of (hastened graph haste stage) target) else None

abbrev pub trial_at : PlainGraph → Haste → ℕ → ℕ → Option Trial
trial_at graph haste target place = trial_of graph haste target place (stage_at graph.places place)

-- all of them, by place
abbrev pub trials : PlainGraph → Haste → ℕ → List Trial
trials graph haste target = filter_map (trial_at graph haste target) (all_places graph.places)

-- ---- values and failures

abbrev pub is_value : Outcome → Bool
is_value (came_to.Value value) = true
is_value (came_to.Bare name) = false
is_value (came_to.Wrapped name) = false

-- the target then completes with a value
abbrev pub has_value : Trial → Bool
has_value trial = is_value trial.outcome

abbrev pub fails : Trial → Bool
fails trial = not (has_value trial)

abbrev pub values : List Trial → List Trial
values trials = filter has_value trials

abbrev pub failures : List Trial → List Trial
failures trials = filter fails trials

-- ---- the soonest first

abbrev pub trial_moment : Trial → ℕ
trial_moment trial = trial.moment

-- those at one tick, by place
abbrev pub at_tick : List Trial → ℕ → List Trial
at_tick trials tick = filter (λ trial. trial.moment == tick) trials

-- those at each tick of a number of ticks, one tick after the other
abbrev pub by_tick : ℕ → ℕ → List Trial → List Trial
by_tick start count trials = flat_map (at_tick trials) (range_with_len start count)

-- all of a target's trials are sooner than this tick
abbrev pub ticks_of : Option Done → ℕ
ticks_of None = 0
ticks_of (Some done) = done.moment

-- of a target's trials: the soonest first, and at one tick by place
abbrev pub soonest : PlainGraph → ℕ → List Trial → List Trial
soonest graph target trials = by_tick 0 (ticks_of (completion_of graph target)) trials

-- those by which the target has a value, and after them those by which it fails
abbrev pub sweep : PlainGraph → Haste → ℕ → List Trial
sweep graph haste target = soonest graph target (values (trials graph haste target)) ++ soonest graph target (failures (trials graph haste target))

-- ---- the same as the result of a sort

-- no moment is before the one that it follows, and those at one tick stand as they stood
pub record IsSoonestFirst (trials found : List Trial) : Type 0 where
  pub permutation : IsPermutation trials found
  pub ordered : IsNonDecreasingBy trial_moment found
  pub by_place : IsStableByKey trial_moment nat_cmp trials found

-- all values stand before all failures
pub record IsRanked (trials found : List Trial) : Type 0 where
  pub values_first : found ≡ values found ++ failures found
  pub of_values : IsSoonestFirst (values trials) (values found)
  pub of_failures : IsSoonestFirst (failures trials) (failures found)

abbrev pub IsSweep : PlainGraph → Haste → ℕ → List Trial → Type 0
IsSweep graph haste target found = IsRanked (trials graph haste target) found
