-- A graph is ranked where its stages stand in an order after their feeds, and never where it has a closed walk.
use Rattle.std.proofs.Common.{◌≡◌, ℕ, suc, zero, ◌+◌, ◌-◌, ◌<◌, ◌≤◌, inl, inr, List, length, take, Option, Some, None, sym, refl, ap, ◌∙◌, subst, arith}
use Rattle.std.specs.Prelude.{Contains, slice_index, IsSome, is_some}
use Rattle.stage_graph.specs.declared.stage.Stage.{Stage}
use Rattle.stage_graph.specs.Plain.{stage_at, feeds_at, feeds_of_place}
use Rattle.stage_graph.specs.Walk.{Walk, IsRanked}
use Rattle.stage_graph.specs.Order.{IsFeedsFirst, IsClosedWalk}
use Rattle.stage_graph.proofs.Placing.{place_from_live}
use Rattle.std.proofs.lemmas.List.{get_or-take, get_or_default, length-take}
use Rattle.std.proofs.lemmas.List.Elements.{All-contains}
use Rattle.std.proofs.lemmas.List.Sums.{count_by-le-length}
use Rattle.std.proofs.lemmas.Bool.{cases_lt}

-- a stage with a feed is live
pub live_from_feed : (here : Option Stage) (feed : ℕ) → Contains (feeds_of_place here) feed → IsSome here
live_from_feed None feed (k, within, at) = absurd (omega arith)
live_from_feed (Some stage) feed here = refl

module _ (places : List (Option Stage)) where
  -- from the stage at k in the order no walk makes more than k steps
  pub steps_within_order : (order : List ℕ) → IsFeedsFirst places order → (steps k : ℕ) → k < length order → Walk places steps (slice_index order k) → steps ≤ k
  steps_within_order order first zero k within walk = omega arith
  steps_within_order order first (suc steps) k within (feed, here, rest) =
      let earlier : Contains (take k order) feed = All-contains (Contains (take k order)) (feeds_at places (slice_index order k)) feed (first.feeds k within) here in
      let before : earlier.0 < k = omega (arith, earlier.1, length-take k order) in
      let same : feed ≡ slice_index order earlier.0 = sym earlier.2 ∙ get_or-take k order earlier.0 feed before ∙ get_or_default order earlier.0 feed 0 (omega arith) in
      let fewer : steps ≤ earlier.0 = steps_within_order order first steps earlier.0 (omega arith) (subst (Walk places steps) same rest) in
      omega arith

  no_walk_past_order : (order : List ℕ) → IsFeedsFirst places order → (steps place : ℕ) → length places ≤ steps → Walk places steps place → ⊥
  no_walk_past_order order first zero place enough walk = omega arith
  no_walk_past_order order first (suc steps) place enough (feed, here, rest) =
      let at : Contains order place = first.all place (live_from_feed (stage_at places place) feed here) in
      let same : place ≡ slice_index order at.0 = sym at.2 ∙ get_or_default order at.0 place 0 at.1 in
      let walk : Walk places (suc steps) place = (feed, here, rest) in
      let most : suc steps ≤ at.0 = steps_within_order order first (suc steps) at.0 at.1 (subst (Walk places (suc steps)) same walk) in
      omega (arith, at.1, first.once, count_by-le-length is_some places)

  pub ranked_from_order : (order : List ℕ) → IsFeedsFirst places order → IsRanked places
  ranked_from_order order first place walk = no_walk_past_order order first (length places) place (omega arith) walk

  -- a place that has a next one on the path
  place_of_path : (path : List ℕ) → IsClosedWalk places path → (k : ℕ) → k + 1 < length path → slice_index path k < length places
  place_of_path path closed k more =
      place_from_live places (slice_index path k) (live_from_feed (stage_at places (slice_index path k)) (slice_index path (k + 1)) (closed.walk k more))

  -- a closed walk can be followed for ever
  endless : (path : List ℕ) → IsClosedWalk places path → (steps k : ℕ) → k < length path → Walk places steps (slice_index path k)
  endless path closed zero k within = elim (cases_lt (k + 1) (length path)) [
    | inl more ↦ place_of_path path closed k more
    | inr last ↦
        let ends : k ≡ length path - 1 = omega (arith, closed.steps) in
        let begin : slice_index path 0 ≡ slice_index path k = closed.closed ∙ ap (slice_index path) (sym ends) in
        subst (λ place. place < length places) begin (place_of_path path closed 0 (omega (arith, closed.steps)))
  ]
  endless path closed (suc steps) k within = elim (cases_lt (k + 1) (length path)) [
    | inl more ↦ (slice_index path (k + 1), closed.walk k more, endless path closed steps (k + 1) more)
    | inr last ↦
        let ends : k ≡ length path - 1 = omega (arith, closed.steps) in
        let begin : slice_index path 0 ≡ slice_index path k = closed.closed ∙ ap (slice_index path) (sym ends) in
        let second : 0 + 1 < length path = omega (arith, closed.steps) in
        subst (Walk places (suc steps)) begin (slice_index path (0 + 1), closed.walk 0 second, endless path closed steps (0 + 1) second)
  ]

  pub not_ranked_from_closed_walk : (path : List ℕ) → IsClosedWalk places path → IsRanked places → ⊥
  not_ranked_from_closed_walk path closed ranked = let steps = closed.steps in ranked (slice_index path 0) (endless path closed (length places) 0 (omega arith))
