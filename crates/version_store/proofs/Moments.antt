-- The moments that a version reports are no later than the ranks allow.
use Rattle.std.proofs.Common.{ℕ, ◌≡◌, ◌≤◌, ◌+◌, ◌*◌, ◌^◌, Option, Some, None, Result, sym, subst}
use Rattle.std.specs.Option.{option_map}
use Rattle.std.specs.Prelude.{IfOk, IfSome}
use Rattle.stage_graph.specs.declared.stage.Stage.{Stage}
use Rattle.stage_graph.specs.Plain.{PlainGraph, stage_at}
use Rattle.stage_graph.specs.Sound.{IsSound}
use Rattle.stage_graph.specs.Walk.{IsRanked, rank}
use Rattle.stage_ops.specs.declared.state.State.{State}
use Rattle.stage_ops.specs.declared.state.Done.{Done}
use Rattle.stage_ops.specs.States.{IsBy, seen, seen_of}
use Rattle.stage_ops.specs.Java.{java_step}
use Rattle.stage_ops.specs.JavaLaws.{java_reads_decide, java_soon, java_prompt}
use Rattle.scratch_eval.specs.Answers.{NoneQueued}
use Rattle.stage_graph.specs.declared.fault.NoStage.{NoStage}
use Rattle.scratch_eval.proofs.Evaluating.{moments_follow_ranks, moments_follow_ranks_unqueued}
use Rattle.version_store.specs.Queries.{state_of, told, of_stage, moment_in}

abbrev IsTickBy : ℕ → Result (Option ℕ) NoStage → Type 0
IsTickBy limit answer = IfOk answer (λ moment. IfSome moment (λ tick. tick ≤ limit))

-- a stage that has completed by a moment reports no later one
told_by : (limit : ℕ) (state : State) (here : Option Stage) → IsBy limit (seen_of state) → IsTickBy limit (of_stage here (moment_in state))
told_by limit state None by = tt
told_by limit state (Some stage) by = of_done state.done by where
  of_done : (done : Option Done) → IsBy limit (option_map seen done) → IfSome (option_map (λ (done : Done). done.moment) done) (λ tick. tick ≤ limit)
  of_done None by = tt
  of_done (Some done) by = by

module _ (graph : PlainGraph) (sound : IsSound graph) (ranked : IsRanked graph.places) (place : ℕ) (answer : Result (Option ℕ) NoStage)
    (is : answer ≡ told graph place (moment_in (state_of graph place))) where
  pub by_rank : IsTickBy (2 ^ 42 + rank graph.places place * 2 ^ 41) answer
  by_rank =
      subst (IsTickBy (2 ^ 42 + rank graph.places place * 2 ^ 41)) (sym is)
      (told_by (2 ^ 42 + rank graph.places place * 2 ^ 41) (state_of graph place) (stage_at graph.places place)
      (moments_follow_ranks (java_step graph.mode) (java_reads_decide graph.mode) (java_soon graph.mode) graph sound ranked place))

  pub by_rank_unqueued : NoneQueued graph.places → IsTickBy (2 ^ 41 + rank graph.places place * 2 ^ 40) answer
  by_rank_unqueued idle =
      subst (IsTickBy (2 ^ 41 + rank graph.places place * 2 ^ 40)) (sym is)
      (told_by (2 ^ 41 + rank graph.places place * 2 ^ 40) (state_of graph place) (stage_at graph.places place)
      (moments_follow_ranks_unqueued (java_step graph.mode) (java_reads_decide graph.mode) (java_prompt graph.mode) graph sound ranked idle place))
