-- The states of these answers are those of evaluation from scratch.
use Rattle.std.proofs.Common.{◌≡◌, ℕ, zero, suc, ◌+◌, ◌-◌, ◌<◌, ◌≤◌, List, [], ◌∷◌, ◌++◌, Option, Some, None, length, get_or, refl, ap, sym, ◌∙◌, ⊎_elim, arith}
use Rattle.std.proofs.Math.ListN.{get_or-append}
use Rattle.std.proofs.Math.Seq.{get_or-append_right}
use Rattle.std.proofs.lemmas.Bool.{cases_lt}
use Rattle.std.proofs.lemmas.List.{get_or_past}
use Rattle.stage_graph.specs.declared.stage.Stage.{Stage}
use Rattle.stage_graph.specs.Plain.{stage_at}
use Rattle.stage_graph.specs.Walk.{from_feeds, step_at}
use Rattle.stage_ops.specs.declared.state.State.{State}
use Rattle.stage_ops.specs.States.{pending, state_at}
use Rattle.stage_ops.specs.Evaluation.{at, on_states}
use Rattle.scratch_eval.specs.declared.answers.Answer.{Answer}
use Rattle.scratch_eval.specs.Answers.{AreAnswers, answer_at, answer_for, state_of}
use Rattle.propagate.specs.Reach.{Stages, Step, AreStates}

-- an empty place is pending
empty_pending : (step : Step) (stages : Stages) (place levels : ℕ) → stage_at stages place ≡ None → from_feeds pending (on_states step) stages levels place ≡ pending
empty_pending step stages place zero e = refl
empty_pending step stages place (suc levels) e = ap (step_at pending (on_states step) (from_feeds pending (on_states step) stages levels)) e

-- the state that an answer gives a place
told_at : (step : Step) (stages : Stages) (place : ℕ) (here : Option Stage) → stage_at stages place ≡ here → state_of (answer_for step stages place here) ≡ at step stages place
told_at step stages place None e = sym (empty_pending step stages place (length stages) e)
told_at step stages place (Some stage) e = refl

-- one state more
pub told_more : (answers : List (Option Answer)) (states : List State) (state : State) → ((place : ℕ) → place < length states → state_at states place ≡ state_of (answer_at answers place)) → state ≡ state_of (answer_at answers (length states))
    → (place : ℕ) → place < length states + 1 → state_at (states ++ state ∷ []) place ≡ state_of (answer_at answers place)
told_more answers states state so_far here place within =
    ⊎_elim
    (λ before. get_or-append states (state ∷ []) pending place before ∙ so_far place before)
    (λ (from : length states ≤ place).
    let last : length states ≡ place = omega arith in
    let first : place - length states ≡ 0 = omega arith in
    get_or-append_right states (state ∷ []) place pending from ∙ ap (λ k. get_or (state ∷ []) k pending) first ∙ here ∙ ap (λ p. state_of (answer_at answers p)) last)
    (cases_lt place (length states))

-- a state for each place
pub all_told : (step : Step) (stages : Stages) (answers : List (Option Answer)) (states : List State) → AreAnswers step stages answers → length states ≡ length stages
    → ((place : ℕ) → place < length states → state_at states place ≡ state_of (answer_at answers place)) → AreStates step stages states
all_told step stages answers states are size told =
    record {
      count = size;
      each = λ place.
          ⊎_elim
          (λ within. told place within ∙ ap state_of (are.answer place) ∙ told_at step stages place (stage_at stages place) refl)
          (λ (past : length states ≤ place).
          let outside : length stages ≤ place = omega arith in
          get_or_past states place pending past ∙ sym (empty_pending step stages place (length stages) (get_or_past stages place None outside)))
          (cases_lt place (length states));
    }
