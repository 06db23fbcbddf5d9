-- A whole propagation: its initial state and its result.
use Rattle.std.proofs.Common.{◌≡◌, ℕ, ◌<◌, Bool, true, false, cond, List, [], Option, Some, None, length, refl, ap, sym, ◌∙◌, arith, ⊎_elim}
use Rattle.std.specs.Prelude.{not, ◌&&◌, ◌||◌, suc, is_some, if◌then◌else◌}
use Rattle.std.specs.List.{list_any}
use Rattle.std.proofs.lemmas.Bool.{or_cases, or_left, and_from, and_parts, true≢false, false≢true, cases_Bool, cond-true, cond-false}
use Rattle.stage_graph.specs.declared.stage.Stage.{Stage}
use Rattle.stage_graph.specs.Plain.{stage_at}
use Rattle.stage_graph.specs.Walk.{rank}
use Rattle.stage_ops.specs.declared.state.State.{State}
use Rattle.stage_ops.specs.States.{pending, seen_at}
use Rattle.stage_ops.specs.Evaluation.{at, ReadsDecide}
use Rattle.rank_order.specs.Lists.{is_among}
use Rattle.stage_graph.specs.Plain.{all_places}
use Rattle.propagate.specs.Reach.{Stages, StaysUntouched, Step, come_to, reads_at, is_reached, is_touched, touched}
use Rattle.propagate.proofs.Members.{same_tests, some_passes, false_unless}
use Rattle.propagate.proofs.Scratch.{scratch_meets}
use Rattle.propagate.proofs.Ranks.{rank_below, live_within}
use Rattle.propagate.proofs.Steps.{IsRankedChange, IsProgress, is_computed_change, is_reached_so_far, touched_below, holds_below, untouched_same}
use Rattle.propagate.proofs.Ascending.{IsBefore, ascends_from_pairs, same_ascending, among_levels, levels_among, levels_ascend, range_among, before_strict}

pub empty_none : (stage : Option Stage) → is_some stage ≡ false → stage ≡ None
empty_none None h = refl
empty_none (Some stage) h = cc

-- an empty place is pending
pub empty_pending : {step : Step} → ReadsDecide step → {old new : Stages} {edited : ℕ → Bool} → IsRankedChange old new edited → (s : ℕ) → is_some (stage_at new s) ≡ false → at step new s ≡ pending
empty_pending {step} law {old} {new} edit s h =
    scratch_meets law new edit.new_ranked s ∙ ap (λ p. come_to step p (at step new)) (empty_none (stage_at new s) h)

-- nothing is reached from no computed places but the edited one
none_reached : (step : Step) (old new : Stages) (edited : ℕ → Bool) (s : ℕ) → is_reached_so_far step old new edited [] s ≡ (edited s)
none_reached step old new edited s =
    same_tests (is_reached_so_far step old new edited [] s) (edited s)
    (λ h. ⊎_elim (λ l. l)
    (λ r. let (read, c, t) = some_passes (is_computed_change step old new []) (reads_at step old s) r in absurd (false≢true t))
    (or_cases (edited s) (list_any (is_computed_change step old new []) (reads_at step old s)) h))
    (λ h. or_left (edited s) (list_any (is_computed_change step old new []) (reads_at step old s)) h)

-- Nothing is computed, and the edited place is marked if it is a stage. Each place holds what it seen_at, but the edited one where it is empty now.
pub begun : {step : Step} → ReadsDecide step → {old new : Stages} {edited : ℕ → Bool} → IsRankedChange old new edited → (marked : ℕ → Bool) (states : ℕ → State)
    → ((s : ℕ) → marked s ≡ (is_some (stage_at new s) && edited s))
    → ((s : ℕ) → states s ≡ (if is_some (stage_at new s) then at step old s else pending))
    → IsProgress step old new edited [] marked states
begun {step} law {old} {new} {edited} edit marked states m h = record {
  hold = λ s.
      ⊎_elim
      (λ live. h s ∙ cond-true (is_some (stage_at new s)) (at step old s) pending live
      ∙ sym (ap (λ b. cond (not b) (at step new s) (at step old s)) live))
      (λ empty. h s ∙ cond-false (is_some (stage_at new s)) (at step old s) pending empty
      ∙ sym (empty_pending law edit s empty)
      ∙ sym (ap (λ b. cond (not b) (at step new s) (at step old s)) empty))
      (cases_Bool (is_some (stage_at new s)));
  marks = λ s. m s ∙ sym (ap (λ b. is_some (stage_at new s) && b) (none_reached step old new edited s));
  before = λ c s k. absurd (false≢true k);
  ascending = λ i j d below within. absurd (omega arith);
  each_touched = λ s k. absurd (false≢true k);
}

pub touched_live : (step : Step) (old new : Stages) (edited : ℕ → Bool) (s : ℕ) → is_touched step old new edited s ≡ true → is_some (stage_at new s) ≡ true
touched_live step old new edited s t = (and_parts (is_some (stage_at new s)) (is_reached step old edited (seen_at (at step new)) s) t).0

-- the touched stages are listed
pub touched_listed : (step : Step) {old new : Stages} {edited : ℕ → Bool} → IsRankedChange old new edited → (s : ℕ) → is_touched step old new edited s ≡ true → is_among s (touched step old new edited) ≡ true
touched_listed step {old} {new} {edited} edit s t =
    let live : is_some (stage_at new s) ≡ true = touched_live step old new edited s t in
    let within : s < length new = live_within new s live in
    let low : rank new s < length new = rank_below new edit.new_ranked edit.live s live in
    levels_among new (is_touched step old new edited) (all_places new) 0 (length new) s (omega arith) (omega arith)
    (range_among s 0 (length new) (omega arith) (omega arith)) t

module _ {step : Step} (law : ReadsDecide step) {old new : Stages} {edited : ℕ → Bool} (edit : IsRankedChange old new edited) {computed : List ℕ} {marked : ℕ → Bool} {states : ℕ → State}
    (progress : IsProgress step old new edited computed marked states) (unmarked : (s : ℕ) → marked s ≡ false) where
  all_computed : (s : ℕ) → is_touched step old new edited s ≡ true → is_among s computed ≡ true
  all_computed s t =
      touched_below law edit progress (suc (rank new s)) (λ m h. absurd (true≢false (sym h ∙ unmarked m))) (suc (rank new s)) s (omega arith) (omega arith) t

  -- in the end each place has its state in the new graph
  pub ended_states : (s : ℕ) → states s ≡ at step new s
  ended_states s = holds_below law edit progress (suc (rank new s)) (λ m h. absurd (true≢false (sym h ∙ unmarked m))) s (omega arith)

  -- in the end the computed places are the touched ones, in their order
  pub ended_touched : computed ≡ touched step old new edited
  ended_touched =
      same_ascending (IsBefore new) (before_strict new) computed (touched step old new edited)
      (ascends_from_pairs (IsBefore new) computed progress.ascending)
      (levels_ascend new (is_touched step old new edited) (length new) 0 (length new))
      (λ s. same_tests (is_among s computed) (is_among s (touched step old new edited))
      (λ c. touched_listed step edit s (progress.each_touched s c))
      (λ c. let (low, within, t) = among_levels new (is_touched step old new edited) (all_places new) 0 (length new) s c in all_computed s t))

-- a place that is not touched keeps its state
pub stays_untouched : {step : Step} → ReadsDecide step → {old new : Stages} {edited : ℕ → Bool} → IsRankedChange old new edited → (found : List ℕ) → found ≡ touched step old new edited
    → StaysUntouched (at step) (at step) old new found
stays_untouched {step} law {old} {new} {edited} edit found is s live elsewhere =
    let none : is_reached step old edited (seen_at (at step new)) s ≡ false =
    false_unless (is_reached step old edited (seen_at (at step new)) s)
    (λ reached. false_is_true (sym elsewhere ∙ ap (is_among s) is
    ∙ touched_listed step edit s (and_from (is_some (stage_at new s)) (is_reached step old edited (seen_at (at step new)) s) live reached))) in
    (edit.change.elsewhere s (no_edit (edited s) _ none), sym (untouched_same law edit s none)) where
      false_is_true : false ≡ true → ⊥
      false_is_true e = cc

      no_edit : (e other : Bool) → (e || other) ≡ false → e ≡ false
      no_edit false other none = refl
      no_edit true other none = cc
