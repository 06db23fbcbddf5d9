-- The ranks that evaluation from scratch gives are those of the order.
use Rattle.std.proofs.Common.{◌≡◌, ℕ, List, map, Option, Some, None, refl, sym, ap, ◌∙◌}
use Rattle.std.proofs.Math.ListN.{get_or-map}
use Rattle.std.proofs.lemmas.List.{length-map}
use Rattle.stage_graph.specs.declared.stage.Stage.{Stage}
use Rattle.stage_graph.specs.Plain.{stage_at, all_places}
use Rattle.stage_graph.specs.Walk.{rank}
use Rattle.stage_ops.specs.declared.state.State.{State}
use Rattle.stage_ops.specs.States.{Completion}
use Rattle.scratch_eval.specs.declared.answers.Answer.{Answer}
use Rattle.scratch_eval.specs.Answers.{AreAnswers, answer_for, rank_of}
use Rattle.rank_order.proofs.Listed.{empty_rank, ranks_listed}

module _ (step : Stage → (ℕ → Option Completion) → State) (places : List (Option Stage)) where
  rank_for : (place : ℕ) (here : Option Stage) → stage_at places place ≡ here → rank_of (answer_for step places place here) ≡ rank places place
  rank_for place None here = sym (empty_rank places place here)
  rank_for place (Some stage) here = refl

  pub ranks_told : (answers : List (Option Answer)) → AreAnswers step places answers → map rank_of answers ≡ map (rank places) (all_places places)
  ranks_told answers are =
      ranks_listed places (map rank_of answers) (length-map answers rank_of ∙ are.each)
      (λ place. get_or-map rank_of answers place None ∙ ap rank_of (are.answer place) ∙ rank_for place (stage_at places place) refl)
