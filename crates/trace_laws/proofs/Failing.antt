-- How the last stage of a span ends, by how the span went and by its source.
use Rattle.std.proofs.Common.{◌≡◌, ℕ, ◌+◌, ◌<◌, ◌≤◌, List, [], ◌∷◌, Bool, true, false, cond, length, map, Option, Some, None, refl, sym, ap, ◌∙◌, arith, length-append}
use Rattle.std.specs.Prelude.{◌||◌, IfSome, filter, fold, is_some, min, not, slice_get, unwrap_or}
use Rattle.std.proofs.lemmas.Bool.{eqb-true, false≢true}
use Rattle.std.proofs.lemmas.List.Sums.{fold-append}
use Rattle.std.proofs.lemmas.Option.{none-some, same_Some, slice_get_past}
use Rattle.stage_ops.specs.States.{Completion}
use Rattle.trace_relations.specs.Relations.{PlainRelations}
use Rattle.trace_relations.specs.declared.as_told.AsTold.{AsTold}
use Rattle.trace_spans.specs.declared.span.Span.{Span}
use Rattle.trace_stages.specs.Called.{call_end}
use Rattle.trace_stages.specs.EndOutcomes.{end_outcome, own_sight}
use Rattle.trace_stages.specs.Failures.{after_failure, failure_after, failure_of_thrower, given, handed_on, last_step, thrown}
use Rattle.trace_stages.specs.Fates.{exception_told, fate, fate_at, fate_of}
use Rattle.trace_stages.specs.HandedOn.{all_handed, handed_from, is_handed, same_exception, thrower}
use Rattle.trace_stages.specs.Known.{PlainKnown, gave_up, had_at, has_ended}
use Rattle.trace_stages.specs.Moments.{AreMoments, At}
use Rattle.trace_stages.specs.Order.{join_sources}
use Rattle.trace_stages.specs.Outcomes.{join_outcome, join_outcomes, outcome_of, with_join}
use Rattle.trace_stages.specs.Scene.{PlainScene, handed_join, list_at, scene_of}
use Rattle.trace_stages.specs.StagesOf.{had, known_of}
use Rattle.trace_stages.specs.Works.{at_end, end_with}
use Rattle.trace_stages.specs.declared.stage.Action.TheVariants as acts
use Rattle.trace_stages.specs.declared.stage.Exception.{Exception}
use Rattle.trace_stages.specs.declared.stage.Exception.TheVariants as exception
use Rattle.trace_stages.specs.declared.stage.Op.TheVariants.{Handle}
use Rattle.trace_stages.specs.declared.walk.holding.OwnWork.{OwnWork}
use Rattle.trace_stages.specs.declared.walk.joins.JoinsOf.TheVariants as joins_of
use Rattle.trace_stages.specs.declared.walk.stage_id.StageId.{StageId}
use Rattle.trace_stages.specs.declared.walk.stage_id.StageId.TheVariants.{Whole, Join, Tried}
use Rattle.trace_laws.specs.Completes.{CompletesAt, action_of, op_of}
use Rattle.trace_laws.proofs.Each.{filter_each}
use Rattle.trace_laws.proofs.Falling.{handed_is, handed_last, last_in, own_made}
use Rattle.trace_laws.proofs.Having.{HadBase}
use Rattle.trace_laws.proofs.Joining.{extends-longer}
use Rattle.trace_laws.proofs.Keys.{joins_at, own_joins}
use Rattle.trace_laws.proofs.Relations.{IsFamily, mapped_range}
use Rattle.trace_laws.proofs.Stepping.{Done_of, SeesOne, handle_completes, plain_stage, run_completes, watch_completes}
use Rattle.trace_laws.proofs.Sure.{all_sure, has_sure, plain, plain_in_all, sure_joins}
use Rattle.trace_laws.proofs.Ticking.{Outcome, made_settled, outcomes_extend}
use Rattle.trace_laws.proofs.Timing.{join_ends, outcome, outcomes_count, own_settled, part_own}
use Rattle.trace_laws.proofs.Trying.{first_itself, first_last}

same_exception_is : (one other : Exception) → same_exception one other ≡ true → one ≡ other
same_exception_is exception.SpanFailed exception.SpanFailed is = refl
same_exception_is exception.SpanFailed (exception.Of place) is = absurd (false≢true is)
same_exception_is (exception.Of place) exception.SpanFailed is = absurd (false≢true is)
same_exception_is (exception.Of place) (exception.Of other) is = ap exception.Of (eqb-true place other is)

module _ (spans : List Span) (place : ℕ) where
  -- a span that failed or not, and told this exception or none
  abbrev as_told : Span → Bool → Option (List ℕ) → Span
  as_told span failed told = record span { failed = failed; exception = told }

  module _ (exceptions : Exception → List ℕ) (inputs : ℕ → Option Completion) (position : ℕ) (name : List ℕ) (source tick queued runs : ℕ) where
    after_completes : (failed : Exception) (found : Option Span) → SeesOne exceptions inputs source tick (Some failed)
        → CompletesAt exceptions (Some (tick + queued)) (tick + queued + runs) (after_failure failed (fate_of spans place found)).failure
        (Done_of exceptions inputs (plain_stage position name (op_of (after_failure failed (fate_of spans place found)).op) (source ∷ []) [] 0 queued runs (Some (action_of exceptions (after_failure failed (fate_of spans place found)).action))))
    after_completes failed None sees = handle_completes exceptions inputs position name source tick queued runs failed acts.Null tt sees
    after_completes failed (Some span) sees = by_told span.failed span.exception
      where
        by_same : (own : Exception) (b : Bool)
            → CompletesAt exceptions (Some (tick + queued)) (tick + queued + runs) (cond b (handed_on failed) (record { op = Handle; action = acts.ThrowsIfFailed own; failure = Some own })).failure
            (Done_of exceptions inputs (plain_stage position name (op_of (cond b (handed_on failed) (record { op = Handle; action = acts.ThrowsIfFailed own; failure = Some own })).op) (source ∷ []) [] 0 queued runs
            (Some (action_of exceptions (cond b (handed_on failed) (record { op = Handle; action = acts.ThrowsIfFailed own; failure = Some own })).action))))
        by_same own true = watch_completes exceptions inputs position name source tick queued runs failed sees
        by_same own false = handle_completes exceptions inputs position name source tick queued runs failed (acts.ThrowsIfFailed own) tt sees

        by_told : (b : Bool) (told : Option (List ℕ))
            → CompletesAt exceptions (Some (tick + queued)) (tick + queued + runs) (after_failure failed (fate_of spans place (Some (as_told span b told)))).failure
            (Done_of exceptions inputs (plain_stage position name (op_of (after_failure failed (fate_of spans place (Some (as_told span b told)))).op) (source ∷ []) [] 0 queued runs (Some (action_of exceptions (after_failure failed (fate_of spans place (Some (as_told span b told)))).action))))
        by_told false told = handle_completes exceptions inputs position name source tick queued runs failed acts.Null tt sees
        by_told true None = watch_completes exceptions inputs position name source tick queued runs failed sees
        by_told true (Some own) = by_same (exception_told spans place own) (same_exception (exception_told spans place own) failed)

    -- the last stage of a span after its source
    pub last_completes : (failure : Option Exception) (found : Option Span) → SeesOne exceptions inputs source tick failure
        → CompletesAt exceptions (Some (tick + queued)) (tick + queued + runs) (last_step failure (fate_of spans place found)).failure
        (Done_of exceptions inputs (plain_stage position name (op_of (last_step failure (fate_of spans place found)).op) (source ∷ []) [] 0 queued runs (Some (action_of exceptions (last_step failure (fate_of spans place found)).action))))
    last_completes None found sees = run_completes exceptions inputs position name source tick queued runs (thrown (fate_of spans place found)) sees
    last_completes (Some failed) found sees = after_completes failed found sees

  -- an exception exactly if the span failed, and its own where it tells one
  abbrev pub SpanFails : Span → Option Exception → Type 0
  SpanFails span failure = (is_some failure ≡ span.failed) × ((name : List ℕ) → span.failed ≡ true → span.exception ≡ Some name → failure ≡ Some (exception_told spans place name))

  -- it fails exactly if the span did, and with its exception
  pub step_fails : (failure : Option Exception) (span : Span) → SpanFails span (last_step failure (fate_of spans place (Some span))).failure
  step_fails failure span = by_told failure span.failed span.exception
    where
      by_same : (failed own : Exception) (name : List ℕ) (b : Bool) → own ≡ exception_told spans place name → same_exception own failed ≡ b
          → SpanFails (as_told span true (Some name)) (cond b (handed_on failed) (record { op = Handle; action = acts.ThrowsIfFailed own; failure = Some own })).failure
      by_same failed own name true is same = (refl, λ other _ told. let e : failed ≡ own = sym (same_exception_is own failed same) in ap Some (e ∙ is ∙ ap (exception_told spans place) (same_Some name other told)))
      by_same failed own name false is same = (refl, λ other _ told. ap Some (is ∙ ap (exception_told spans place) (same_Some name other told)))

      by_told : (failure : Option Exception) (b : Bool) (told : Option (List ℕ)) → SpanFails (as_told span b told) (last_step failure (fate_of spans place (Some (as_told span b told)))).failure
      by_told None false told = (refl, λ name fails _. absurd (false≢true fails))
      by_told None true None = (refl, λ name _ same. absurd (none-some name same))
      by_told None true (Some own) = (refl, λ name _ same. ap (λ n. Some (exception_told spans place n)) (same_Some own name same))
      by_told (Some failed) false told = (refl, λ name fails _. absurd (false≢true fails))
      by_told (Some failed) true None = (refl, λ name _ same. absurd (none-some name same))
      by_told (Some failed) true (Some own) = by_same failed (exception_told spans place own) own (same_exception (exception_told spans place own) failed) refl refl

-- of two where the first did not fail
second_fails : (first second : Outcome) → first.failure ≡ None → (join_outcome (first ∷ second ∷ [])).failure ≡ second.failure
second_fails first second none = by_second second.failure
  where
    by_second : (failure : Option Exception) → (join_outcome (first ∷ record { tick = second.tick; failure = failure } ∷ [])).failure ≡ failure
    by_second None = ap (λ f. (join_outcome (record { tick = first.tick; failure = f } ∷ record { tick = second.tick; failure = None } ∷ [])).failure) none
    by_second (Some failed) = ap (λ f. (join_outcome (record { tick = first.tick; failure = f } ∷ record { tick = second.tick; failure = Some failed } ∷ [])).failure) none

module _ {as_told : AsTold} (spans : List Span) (relations : PlainRelations) (is : IsFamily as_told spans relations) (moments : List At) (are : AreMoments relations.intervals moments) (failures : ℕ → Option Exception) where
  abbrev Known : PlainKnown
  Known = known_of spans relations as_told moments

  abbrev Scene : PlainScene
  Scene = scene_of (known_of spans relations as_told moments) failures

  abbrev ends : StageId → Outcome
  ends id = outcome spans relations is moments are failures id

  abbrev mine : ℕ → List (List StageId)
  mine place = own_joins spans relations is moments are failures place

  abbrev all : ℕ → List (List StageId)
  all place = joins_at spans relations is moments are failures place

  abbrev handed_of : ℕ → List StageId
  handed_of place = list_at (all_handed Known failures) place

  abbrev works_at : ℕ → List OwnWork
  works_at place = (had relations moments place).works

  pub fate_is : (place : ℕ) → place < length spans → fate_at Known.fates place ≡ fate_of spans place (slice_get spans place)
  fate_is place lt = ap (λ found. unwrap_or found (fate_of spans place None)) (mapped_range (fate spans) (length spans) place lt)

  -- what a span has at its end ends the same with the join by which it hands a failure on
  has_outcome : (place : ℕ) → place < length relations.intervals → ends (had_at Known.hads place).has ≡ end_outcome Known failures place
  has_outcome place lt =
      let both = own_made spans relations is moments are failures place lt in
      let sight = own_sight Known failures in
      let has = (had_at Known.hads place).has in
      let split : join_outcomes (own_sight Known failures) (all place) ≡ fold (with_join (own_sight Known failures)) (join_outcomes (own_sight Known failures) (mine place)) (handed_join (handed_of place)) =
      fold-append (with_join (own_sight Known failures)) [] (mine place) (handed_join (handed_of place)) in
      let extends = outcomes_extend sight (join_outcomes sight (mine place)) (handed_join (handed_of place)) in
      let settles = made_settled sight (joins_of.Holding place) (λ those k. refl) (HadBase relations (works_at place) place) (own_settled spans relations is moments are failures place) (length (mine place)) has both.1
      (join_outcomes sight (mine place)) extends.0 (same_le (length (mine place)) (length (join_outcomes sight (mine place))) (outcomes_count spans relations is moments are failures sight (mine place))) in
      sym (part_own spans relations is moments are failures place (length (plain spans relations is moments are failures place).joins) has
      (extends-longer (plain spans relations is moments are failures place).joins (all place) (plain_in_all spans relations is moments are failures place lt)) (has_sure spans relations is moments are failures place lt))
      ∙ ap (λ those. outcome_of (own_sight Known failures) those (had_at Known.hads place).has) (split ∙ extends.1) ∙ settles
    where
      same_le : (a b : ℕ) → b ≡ a → a ≤ b
      same_le a b same = omega arith

  -- a call fails as its last attempt
  call_fails : (child : ℕ) (next : Option ℕ) → relations.attempts.next child ≡ None → relations.attempts.next (relations.attempts.first child) ≡ next
      → (ends (cond (is_some next) (Tried (relations.attempts.first child)) (Whole (relations.attempts.first child)))).failure ≡ failures child
  call_fails child None last none = ap failures (first_itself spans relations is child last none)
  call_fails child (Some again) last some = ap failures (first_last spans relations is child last)

  handed_are : (place : ℕ) → place < length relations.intervals → gave_up Known place ≡ false → has_ended relations.intervals place ≡ true → handed_of place ≡ handed_from Known failures place (thrower Known failures place)
  handed_are place lt kept ended =
      handed_is spans relations is moments are failures place lt
      ∙ ap (λ b. cond (b || not (has_ended relations.intervals place)) [] (handed_from Known failures place (thrower Known failures place))) kept
      ∙ ap (λ b. cond (not b) [] (handed_from Known failures place (thrower Known failures place))) ended

  abbrev given_by : Option Exception → Option ℕ → Option Exception
  given_by None child = failure_of_thrower failures child
  given_by (Some failed) child = Some failed

  given_is : (place : ℕ) (failed : Option Exception) → given_by failed (thrower Known failures place) ≡ given Known failures place failed
  given_is place None = refl
  given_is place (Some failed) = refl

  -- the join by which a failure is handed on
  joined_fails : (place child : ℕ) → place < length relations.intervals → gave_up Known place ≡ false → is_handed Known failures place child ≡ true → (end_outcome Known failures place).failure ≡ None
      → handed_of place ≡ (had_at Known.hads place).has ∷ call_end relations.attempts (relations.attempts.first child) ∷ [] → (ends (Join place (length (mine place)))).failure ≡ failures child
  joined_fails place child lt kept handed none those =
      let sources : join_sources Scene place (length (mine place)) ≡ (had_at Known.hads place).has ∷ call_end relations.attempts (relations.attempts.first child) ∷ [] =
      ap (λ found. unwrap_or found (handed_of place)) (slice_get_past (mine place) (length (mine place)) (itself (length (mine place)))) ∙ those in
      let count : length (sure_joins spans relations is moments are failures place) ≡ length (mine place) + length (handed_join (handed_of place)) =
      ap length (sym (all_sure spans relations is moments are failures place lt kept)) ∙ length-append (mine place) (handed_join (handed_of place)) in
      ap (λ o. o.failure) (join_ends spans relations is moments are failures place (length (mine place)) lt
      (sure (length (sure_joins spans relations is moments are failures place)) (length (mine place)) (length (handed_join (handed_of place))) count (ap (λ some. length (handed_join some)) those)))
      ∙ ap (λ some. (join_outcome (map ends some)).failure) sources
      ∙ second_fails (ends (had_at Known.hads place).has) (ends (call_end relations.attempts (relations.attempts.first child))) (ap (λ o. o.failure) (has_outcome place lt) ∙ none)
      ∙ call_fails child (relations.attempts.next (relations.attempts.first child)) (handed_last spans relations is moments are failures place child handed) refl
    where
      itself : (n : ℕ) → n ≤ n
      itself n = omega arith

      sure : (a b c : ℕ) → a ≡ b + c → c ≡ 1 → min b b < a
      sure a b c one two = omega arith

  -- what a span has at its end, with the call whose failure it hands on, fails as it is given
  pub end_fails : (place : ℕ) → place < length relations.intervals → gave_up Known place ≡ false → has_ended relations.intervals place ≡ true
      → (ends (at_end Scene place)).failure ≡ given Known failures place (end_outcome Known failures place).failure
  end_fails place lt kept ended =
      by_cases (thrower Known failures place)
      (last_in relations.intervals (λ child. is_handed Known failures place child ≡ true) None (filter (is_handed Known failures place) (Known.children place)) tt (filter_each (is_handed Known failures place) (Known.children place)))
      (handed_are place lt kept ended) (end_outcome Known failures place).failure refl
      ∙ given_is place (end_outcome Known failures place).failure
    where
      by_has : (failed : Option Exception) → (end_outcome Known failures place).failure ≡ failed → handed_of place ≡ [] → (ends (end_with Scene place (handed_of place))).failure ≡ failed
      by_has failed fails none = ap (λ those. (ends (end_with Scene place those)).failure) none ∙ ap (λ o. o.failure) (has_outcome place lt) ∙ fails

      by_cases : (child : Option ℕ) → IfSome child (λ those. is_handed Known failures place those ≡ true) → handed_of place ≡ handed_from Known failures place child → (failed : Option Exception) → (end_outcome Known failures place).failure ≡ failed
          → (ends (end_with Scene place (handed_of place))).failure ≡ given_by failed child
      by_cases None here none None fails = by_has None fails none
      by_cases None here none (Some failed) fails = by_has (Some failed) fails none
      by_cases (Some child) here those (Some failed) fails =
          by_has (Some failed) fails (those ∙ ap (λ f. cond (is_some f) [] ((had_at Known.hads place).has ∷ call_end relations.attempts (relations.attempts.first child) ∷ [])) fails)
      by_cases (Some child) here those None fails =
          let some : handed_of place ≡ (had_at Known.hads place).has ∷ call_end relations.attempts (relations.attempts.first child) ∷ [] =
          those ∙ ap (λ f. cond (is_some f) [] ((had_at Known.hads place).has ∷ call_end relations.attempts (relations.attempts.first child) ∷ [])) fails in
          ap (λ sources. (ends (end_with Scene place sources)).failure) some ∙ joined_fails place child lt kept here fails some

  -- the last stage of a span fails as the span does
  pub last_fails : (place : ℕ) → place < length relations.intervals → gave_up Known place ≡ false → has_ended relations.intervals place ≡ true
      → (last_step (ends (at_end Scene place)).failure (fate_at Known.fates place)).failure ≡ failure_after Known failures place
  last_fails place lt kept ended = ap (λ f. (last_step f (fate_at Known.fates place)).failure) (end_fails place lt kept ended)
