-- One more visit.
use Rattle.std.proofs.Common.{◌≡◌, ℕ, ◌+◌, ◌<◌, List, [], ◌∷◌, Option, cond, get_or, length, take, sym, ap, ◌∙◌}
use Rattle.std.specs.Prelude.{nat_eq}
use Rattle.std.proofs.lemmas.List.{take_more}
use Rattle.std.proofs.lemmas.List.Sums.{fold-append}
use Rattle.trace_stages.specs.declared.stage.Exception.{Exception}
use Rattle.trace_stages.specs.declared.outcomes.Outcome.{Outcome}
use Rattle.trace_stages.specs.EndOutcomes.{end_outcome, own_sight}
use Rattle.trace_stages.specs.Failures.{failure, failures_by, none_fails, with_visit}
use Rattle.trace_stages.specs.Known.{PlainKnown, had_at}
use Rattle.trace_stages.specs.Outcomes.{PlainSight, join_outcomes, outcome_of}
use Rattle.trace_stages.specs.declared.tour.visit.Visit.{Visit}
use Rattle.trace_stages.specs.declared.tour.visit.Visit.TheVariants.{Enters, Leaves}
use Rattle.trace_stages.specs.declared.walk.stage_id.StageId.{StageId}

-- functions that agree everywhere are the same
pub same_function : {A B : Type 0} (f g : A → B) → ((x : A) → f x ≡ g x) → f ≡ g
same_function f g same = λ i x. same x i

visits_more : (known : PlainKnown) (visits : List Visit) (i : ℕ) (visit : Visit) → i < length visits → failures_by known (take (i + 1) visits) ≡ with_visit known (failures_by known (take i visits)) (get_or visits i visit)
visits_more known visits i visit lt = ap (λ those. failures_by known those) (take_more visits i visit lt) ∙ fold-append (with_visit known) none_fails (take i visits) (get_or visits i visit ∷ [])

pub one_left : (known : PlainKnown) (visits : List Visit) (i place : ℕ) (visit : Visit) (old new : ℕ → Option Exception) (found : Option Exception) → i < length visits → get_or visits i visit ≡ Leaves place → ((q : ℕ) → old q ≡ failures_by known (take i visits) q) → found ≡ failure known old place → ((q : ℕ) → new q ≡ cond (nat_eq place q) found (old q)) → (q : ℕ) → new q ≡ failures_by known (take (i + 1) visits) q
one_left known visits i place visit old new found lt is so_far is_found updated q =
    updated q
    ∙ ap (λ o. cond (nat_eq place q) o (old q)) is_found
    ∙ ap (λ f. with_visit known f (Leaves place) q) (same_function old (failures_by known (take i visits)) so_far)
    ∙ ap (λ v. with_visit known (failures_by known (take i visits)) v q) (sym is)
    ∙ ap (λ f. f q) (sym (visits_more known visits i visit lt))

pub one_entered : (known : PlainKnown) (visits : List Visit) (i place : ℕ) (visit : Visit) (old : ℕ → Option Exception) → i < length visits → get_or visits i visit ≡ Enters place → ((q : ℕ) → old q ≡ failures_by known (take i visits) q) → (q : ℕ) → old q ≡ failures_by known (take (i + 1) visits) q
one_entered known visits i place visit old lt is so_far q =
    so_far q
    ∙ ap (λ v. with_visit known (failures_by known (take i visits)) v q) (sym is)
    ∙ ap (λ f. f q) (sym (visits_more known visits i visit lt))

-- what a span has at its end ends as the definition names it
pub ends_as : (known : PlainKnown) (failures : ℕ → Option Exception) (place : ℕ) (sight : PlainSight) (joins : List (List StageId)) (own shown : List Outcome) (has : StageId) (outcome : Outcome) → sight ≡ own_sight known failures → joins ≡ (had_at known.hads place).joins → own ≡ join_outcomes sight joins → shown ≡ own → has ≡ (had_at known.hads place).has → outcome ≡ outcome_of sight shown has → outcome ≡ end_outcome known failures place
ends_as known failures place sight joins own shown has outcome is_sight are_joins are is_own is_had is =
    is
    ∙ ap (λ those. outcome_of those shown has) is_sight
    ∙ ap (λ those. outcome_of (own_sight known failures) those has)
    (is_own ∙ are ∙ ap (λ those. join_outcomes those joins) is_sight ∙ ap (λ those. join_outcomes (own_sight known failures) those) are_joins)
    ∙ ap (λ those. outcome_of (own_sight known failures) (join_outcomes (own_sight known failures) (had_at known.hads place).joins) those) is_had
