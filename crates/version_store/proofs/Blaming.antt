-- Chains of blame, by the states of a graph.
use Rattle.std.proofs.Common.{◌≡◌, ℕ, zero, suc, length, Option, None, refl, ap}
use Rattle.stage_graph.specs.declared.stage.Stage.{Stage}
use Rattle.stage_graph.specs.Plain.{PlainGraph, stage_at}
use Rattle.stage_graph.specs.Sound.{IsSound}
use Rattle.stage_graph.specs.Walk.{from_feeds, step_at}
use Rattle.stage_ops.specs.declared.state.State.{State}
use Rattle.stage_ops.specs.States.{Completion, pending}
use Rattle.stage_ops.specs.Evaluation.{at, on_states}
use Rattle.scratch_eval.specs.Blame.{chain, followed}
use Rattle.scratch_eval.proofs.Querying.{followed_is_found}

module _ (step : Stage → (ℕ → Option Completion) → State) (graph : PlainGraph) where
  -- an empty place is pending at each level
  nothing_at : (place : ℕ) → stage_at graph.places place ≡ None → (levels : ℕ) → from_feeds pending (on_states step) graph.places levels place ≡ pending
  nothing_at place nothing zero = refl
  nothing_at place nothing (suc levels) = ap (step_at pending (on_states step) (from_feeds pending (on_states step) graph.places levels)) nothing

  -- following the states step by step gives the chain
  pub followed_chain : IsSound graph → (place : ℕ) → followed (at step graph.places) (length graph.places) place ≡ chain step graph.places place
  followed_chain sound place =
      followed_is_found (at step graph.places) graph.places
      (λ place nothing. ap (λ (state : State). state.done) (nothing_at place nothing (length graph.places)))
      (λ place stage here. (sound.stages place stage here).own_place) (length graph.places) place
