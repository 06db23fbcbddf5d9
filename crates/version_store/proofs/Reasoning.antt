-- The causes of the states of an evaluated graph, and when its actions start, by the states that are kept.
use Rattle.std.proofs.Common.{◌≡◌, ◌^◌, ℕ, List, length, Some, sym, ap, subst}
use Rattle.std.specs.Prelude.{All}
use Rattle.stage_graph.specs.declared.stage.Stage.{Stage}
use Rattle.stage_graph.specs.Plain.{PlainGraph, stage_at}
use Rattle.stage_graph.specs.Sound.{IsSound}
use Rattle.stage_graph.proofs.Lists.{same_function}
use Rattle.stage_ops.specs.declared.state.State.{State}
use Rattle.stage_ops.specs.Among.{IsSoundAmong}
use Rattle.stage_ops.specs.Java.{java_step}
use Rattle.stage_ops.specs.JavaLaws.{java_reads_decide, java_soon}
use Rattle.stage_ops.specs.Reasons.{reason}
use Rattle.stage_ops.specs.Starts.{action_start}
use Rattle.stage_ops.specs.States.{seen_at, seen_of, state_at, IsBy}
use Rattle.stage_ops.proofs.AmongLemmas.{sound_among}
use Rattle.scratch_eval.specs.Path.{reason_in}
use Rattle.scratch_eval.proofs.Evaluating.{moments_follow_ranks}
use Rattle.rank_order.specs.Orders.{PlainOrder}
use Rattle.propagate.proofs.Turns.{all_in_time, in_time}
use Rattle.version_store.specs.Evaluated.{IsEvaluated}
use Rattle.version_store.specs.Queries.{state_of}

module _ (graph : PlainGraph) (order : PlainOrder) (states : List State) (evaluated : IsEvaluated graph order states) (sound : IsSound graph) where
  pub kept_in_time : All (λ state. IsBy (2 ^ 62) (seen_of state)) states
  kept_in_time =
      all_in_time states
      (λ place. subst (λ (state : State). IsBy (2 ^ 62) (seen_of state)) (sym (evaluated.evaluated.each place))
      (in_time (java_step graph.mode) (moments_follow_ranks (java_step graph.mode) (java_reads_decide graph.mode) (java_soon graph.mode)) graph evaluated.ranked sound place))

  pub sound_among_kept : (stage : Stage) → stage_at graph.places stage.place ≡ Some stage → IsSoundAmong (length states) stage
  sound_among_kept stage here =
      subst (λ count. IsSoundAmong count stage) (sym evaluated.evaluated.count) (sound_among graph.places stage.place stage (sound.stages stage.place stage here))

  pub kept_reason : (stage : Stage) → reason graph.mode stage (seen_at (state_at states)) ≡ reason_in graph stage
  kept_reason stage = ap (λ (kept : ℕ → State). reason graph.mode stage (seen_at kept)) (same_function evaluated.evaluated.each)

  pub kept_start : (stage : Stage) → action_start graph.mode stage (seen_at (state_at states)) ≡ action_start graph.mode stage (seen_at (state_of graph))
  kept_start stage = ap (λ (kept : ℕ → State). action_start graph.mode stage (seen_at kept)) (same_function evaluated.evaluated.each)
