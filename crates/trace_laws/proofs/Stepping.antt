-- How a stage of a trace completes after its sources.
use Rattle.std.proofs.Common.{◌≡◌, ℕ, ◌+◌, ◌≤◌, inl, inr, List, [], ◌∷◌, Bool, true, false, cond, Option, Some, None, refl, sym, ap, ◌∙◌, subst, arith}
use Rattle.std.specs.Prelude.{◌&&◌, filter, is_some, max, nat_lt}
use Rattle.std.specs.List.{cons_option}
use Rattle.std.specs.Option.{option_map}
use Rattle.std.proofs.lemmas.Bool.{false≢true, le-ltb}
use Rattle.std.proofs.lemmas.Option.{none-some}
use Rattle.act_expr.specs.declared.outcome.Mode.TheVariants.{Computed}
use Rattle.act_expr.specs.declared.outcome.Outcome.{Outcome as Result}
use Rattle.act_expr.specs.declared.outcome.Outcome.TheVariants.{Value as Normal, Bare, Wrapped}
use Rattle.act_expr.specs.declared.outcome.Value.TheVariants as value
use Rattle.act_expr.specs.Outcome.{wrap}
use Rattle.stage_graph.specs.declared.op.Op.{Op}
use Rattle.stage_graph.specs.declared.op.Op.TheVariants as op
use Rattle.stage_graph.specs.declared.stage.Stage.{Stage}
use Rattle.stage_ops.specs.AfterAll.{after_all, unless_failed}
use Rattle.stage_ops.specs.AfterOne.{after_earliest, decided}
use Rattle.stage_ops.specs.Earliest.{earliest as soonest, sooner}
use Rattle.stage_ops.specs.Ended.{ended}
use Rattle.stage_ops.specs.Java.{java_step}
use Rattle.stage_ops.specs.Natural.{finished, progress_of, taken_over}
use Rattle.stage_ops.specs.Pinned.{pinned}
use Rattle.stage_ops.specs.Sources.{completed, earliest_failed, has_failed as is_failed, have_completed, is_exceptional, latest as latest_of, moment_of, source_at, source_of}
use Rattle.stage_ops.specs.States.{Completion}
use Rattle.stage_ops.specs.declared.state.Done.{Done}
use Rattle.trace_stages.specs.Failures.{action_of as action_for}
use Rattle.trace_stages.specs.Outcomes.{earlier_of, earliest, failure_of, has_failed, join_outcome, latest}
use Rattle.trace_stages.specs.declared.stage.Action.{Action}
use Rattle.trace_stages.specs.declared.stage.Action.TheVariants as acts
use Rattle.trace_stages.specs.declared.stage.Exception.{Exception}
use Rattle.trace_laws.specs.Completes.{CompletesAt, action_of, outcome_for}
use Rattle.trace_laws.proofs.Each.{In}
use Rattle.trace_laws.proofs.Ticking.{Outcome}

abbrev TypeOf : {A : Type 0} → A → Type 0
TypeOf {A} x = A

abbrev Source : Type 0
Source = TypeOf (source_of 0 (record { outcome = Normal value.Null; moment = 0; from = None }))

-- a stage with neither pins nor ends
abbrev pub plain_stage : ℕ → List ℕ → Op → List ℕ → List ℕ → ℕ → ℕ → ℕ → Option (TypeOf (action_of (λ e. []) acts.Null)) → Stage
plain_stage place name op sources inner created queued runs action = record {
  place = place;
  name = name;
  op = op;
  sources = sources;
  inner = inner;
  created = created;
  queued = queued;
  runs = runs;
  action = action;
  pin_result = None;
  pin_moment = None;
  ends = [];
}

module _ (exceptions : Exception → List ℕ) (inputs : ℕ → Option Completion) where
  -- what is seen of a stage that completed so
  abbrev pub Sees : ℕ → Outcome → Type 0
  Sees place outcome = («from» : Option ℕ) × (inputs place ≡ Some (record { outcome = outcome_for exceptions outcome.failure; moment = outcome.tick; from = «from» }))

  abbrev pub SeesAll : List ℕ → List Outcome → Type 0
  SeesAll [] [] = Unit {0}
  SeesAll [] (outcome ∷ outcomes) = ⊥
  SeesAll (place ∷ places) [] = ⊥
  SeesAll (place ∷ places) (outcome ∷ outcomes) = Sees place outcome × SeesAll places outcomes

  abbrev source_for : ℕ → Outcome → Source
  source_for place outcome = record { place = place; outcome = outcome_for exceptions outcome.failure; moment = outcome.tick }

  abbrev sources_for : List ℕ → List Outcome → List Source
  sources_for [] outcomes = []
  sources_for (place ∷ places) [] = []
  sources_for (place ∷ places) (outcome ∷ outcomes) = source_for place outcome ∷ sources_for places outcomes

  seen_source : (place : ℕ) (outcome : Outcome) → Sees place outcome → source_at inputs place ≡ Some (source_for place outcome)
  seen_source place outcome sees = ap (option_map (source_of place)) sees.1

  seen_sources : (places : List ℕ) (outcomes : List Outcome) → SeesAll places outcomes → completed inputs places ≡ sources_for places outcomes
  seen_sources [] [] sees = refl
  seen_sources [] (outcome ∷ outcomes) sees = absurd sees
  seen_sources (place ∷ places) [] sees = absurd sees
  seen_sources (place ∷ places) (outcome ∷ outcomes) sees =
      ap (λ first. cons_option first (completed inputs places)) (seen_source place outcome sees.0) ∙ ap (λ rest. source_for place outcome ∷ rest) (seen_sources places outcomes sees.1)

  all_completed : (places : List ℕ) (outcomes : List Outcome) → SeesAll places outcomes → have_completed inputs places ≡ true
  all_completed [] [] sees = refl
  all_completed [] (outcome ∷ outcomes) sees = absurd sees
  all_completed (place ∷ places) [] sees = absurd sees
  all_completed (place ∷ places) (outcome ∷ outcomes) sees =
      ap (λ first. is_some first && have_completed inputs places) (seen_source place outcome sees.0) ∙ all_completed places outcomes sees.1

  same_latest : (places : List ℕ) (outcomes : List Outcome) → SeesAll places outcomes → latest_of 0 (sources_for places outcomes) ≡ latest outcomes
  same_latest [] [] sees = refl
  same_latest [] (outcome ∷ outcomes) sees = absurd sees
  same_latest (place ∷ places) [] sees = absurd sees
  same_latest (place ∷ places) (outcome ∷ outcomes) sees = ap (max outcome.tick) (same_latest places outcomes sees.1)

  -- the earliest that failed is one on either side
  abbrev Alike : Option Source → Option Outcome → Type 0
  Alike None None = Unit {0}
  Alike None (Some outcome) = ⊥
  Alike (Some source) None = ⊥
  Alike (Some source) (Some outcome) = (source.outcome ≡ outcome_for exceptions outcome.failure) × (source.moment ≡ outcome.tick) × (is_some outcome.failure ≡ true)

  alike_pick : (a b : Bool) (source first : Source) (outcome second : Outcome) → a ≡ b → Alike (Some source) (Some outcome) → Alike (Some first) (Some second) → Alike (Some (cond a source first)) (Some (cond b outcome second))
  alike_pick true true source first outcome second same one other = one
  alike_pick true false source first outcome second same one other = absurd (false≢true (sym same))
  alike_pick false true source first outcome second same one other = absurd (false≢true same)
  alike_pick false false source first outcome second same one other = other

  alike_sooner : (source : Source) (outcome : Outcome) (rest : Option Source) (others : Option Outcome) → Alike (Some source) (Some outcome) → Alike rest others → Alike (Some (sooner moment_of source rest)) (Some (earlier_of outcome others))
  alike_sooner source outcome None None one rest = one
  alike_sooner source outcome None (Some other) one rest = absurd rest
  alike_sooner source outcome (Some other) None one rest = absurd rest
  alike_sooner source outcome (Some other) (Some second) one rest =
      alike_pick (nat_lt other.moment source.moment) (nat_lt second.tick outcome.tick) other source second outcome
      (ap (λ m. nat_lt m source.moment) rest.1 ∙ ap (nat_lt second.tick) one.1) rest one

  alike_kept : (source : Source) (outcome : Outcome) (sources : List Source) (outcomes : List Outcome) (failure : Option Exception) → failure ≡ outcome.failure → source.outcome ≡ outcome_for exceptions failure → source.moment ≡ outcome.tick
      → Alike (earliest_failed sources) (earliest (filter has_failed outcomes)) → Alike (earliest_failed (source ∷ sources)) (earliest (filter has_failed (outcome ∷ outcomes)))
  alike_kept source outcome sources outcomes None none same at rest =
      subst (λ o. Alike (soonest moment_of (cond (is_exceptional o) (source ∷ filter is_failed sources) (filter is_failed sources))) (earliest (filter has_failed (outcome ∷ outcomes)))) (sym same)
      (subst (λ f. Alike (earliest_failed sources) (earliest (cond (is_some f) (outcome ∷ filter has_failed outcomes) (filter has_failed outcomes)))) none rest)
  alike_kept source outcome sources outcomes (Some exception) some same at rest =
      subst (λ o. Alike (soonest moment_of (cond (is_exceptional o) (source ∷ filter is_failed sources) (filter is_failed sources))) (earliest (filter has_failed (outcome ∷ outcomes)))) (sym same)
      (subst (λ f. Alike (Some (sooner moment_of source (earliest_failed sources))) (earliest (cond (is_some f) (outcome ∷ filter has_failed outcomes) (filter has_failed outcomes)))) some
      (alike_sooner source outcome (earliest_failed sources) (earliest (filter has_failed outcomes)) (same ∙ ap (outcome_for exceptions) some, at, ap is_some (sym some)) rest))

  alike_all : (places : List ℕ) (outcomes : List Outcome) → SeesAll places outcomes → Alike (earliest_failed (sources_for places outcomes)) (earliest (filter has_failed outcomes))
  alike_all [] [] sees = tt
  alike_all [] (outcome ∷ outcomes) sees = absurd sees
  alike_all (place ∷ places) [] sees = absurd sees
  alike_all (place ∷ places) (outcome ∷ outcomes) sees =
      alike_kept (source_for place outcome) outcome (sources_for places outcomes) outcomes outcome.failure refl refl refl (alike_all places outcomes sees.1)

  -- ---- the state of a stage

  abbrev pub Done_of : Stage → Option Done
  Done_of stage = (java_step Computed stage inputs).done

  wrap_same : (failure : Option Exception) → wrap (outcome_for exceptions failure) ≡ outcome_for exceptions failure
  wrap_same None = refl
  wrap_same (Some exception) = refl

  joined : (place : ℕ) (name places : List ℕ) (outcomes : List Outcome) → SeesAll places outcomes
      → after_all op.AllOf Computed (plain_stage place name op.AllOf places [] 0 0 0 None) inputs
      ≡ unless_failed op.AllOf Computed (plain_stage place name op.AllOf places [] 0 0 0 None) inputs (latest_of 0 (sources_for places outcomes)) (earliest_failed (sources_for places outcomes))
  joined place name places outcomes sees = rw (all_completed places outcomes sees, seen_sources places outcomes sees) refl

  join_ends : (stage : Stage) (source : Option Source) (outcome : Option Outcome) (tick : ℕ) → stage.pin_result ≡ None → stage.pin_moment ≡ None → stage.ends ≡ [] → Alike source outcome
      → CompletesAt exceptions None tick (failure_of outcome) (ended stage (pinned stage (finished inputs (unless_failed op.AllOf Computed stage inputs tick source))))
  join_ends stage None None tick result moment ends alike = rw (result, moment, ends) (None, refl)
  join_ends stage None (Some outcome) tick result moment ends alike = absurd alike
  join_ends stage (Some source) None tick result moment ends alike = absurd alike
  join_ends stage (Some source) (Some outcome) tick result moment ends alike =
      rw (result, moment, ends) (Some source.place, ap (λ o. Some (record { outcome = o; moment = tick; from = Some source.place; start = None })) (ap wrap alike.0 ∙ wrap_same outcome.failure))

  -- an `allOf` completes with the latest of its sources
  pub join_completes : (place : ℕ) (name places : List ℕ) (outcomes : List Outcome) → SeesAll places outcomes
      → CompletesAt exceptions None (join_outcome outcomes).tick (join_outcome outcomes).failure (Done_of (plain_stage place name op.AllOf places [] 0 0 0 None))
  join_completes place name places outcomes sees =
      subst (λ progress. CompletesAt exceptions None (latest outcomes) (failure_of (earliest (filter has_failed outcomes))) (ended (plain_stage place name op.AllOf places [] 0 0 0 None) (pinned (plain_stage place name op.AllOf places [] 0 0 0 None) (finished inputs progress))))
      (sym (joined place name places outcomes sees))
      (subst (λ tick. CompletesAt exceptions None tick (failure_of (earliest (filter has_failed outcomes))) (ended (plain_stage place name op.AllOf places [] 0 0 0 None) (pinned (plain_stage place name op.AllOf places [] 0 0 0 None) (finished inputs
      (unless_failed op.AllOf Computed (plain_stage place name op.AllOf places [] 0 0 0 None) inputs (latest_of 0 (sources_for places outcomes)) (earliest_failed (sources_for places outcomes)))))))
      (same_latest places outcomes sees)
      (join_ends (plain_stage place name op.AllOf places [] 0 0 0 None) (earliest_failed (sources_for places outcomes)) (earliest (filter has_failed outcomes)) (latest_of 0 (sources_for places outcomes)) refl refl refl (alike_all places outcomes sees)))

  -- a stage without sources
  pub first_completes : (place : ℕ) (name : List ℕ) (created runs : ℕ) (failure : Option Exception)
      → CompletesAt exceptions (Some (created + 0)) (created + 0 + runs) failure (Done_of (plain_stage place name op.Async [] [] created 0 runs (Some (action_of exceptions (action_for failure)))))
  first_completes place name created runs None = (None, refl)
  first_completes place name created runs (Some exception) = (None, refl)

  pub never_completes : (place : ℕ) (name : List ℕ) (created : ℕ) → Done_of (plain_stage place name op.Manual [] [] created 0 0 None) ≡ None
  never_completes place name created = refl

  -- ---- one source

  abbrev pub SeesOne : ℕ → ℕ → Option Exception → Type 0
  SeesOne place tick failure = («from» : Option ℕ) × (inputs place ≡ Some (record { outcome = outcome_for exceptions failure; moment = tick; from = «from» }))

  one_seen : (source tick : ℕ) (failure : Option Exception) → SeesOne source tick failure
      → completed inputs (source ∷ []) ≡ record { place = source; outcome = outcome_for exceptions failure; moment = tick } ∷ []
  one_seen source tick failure sees = ap (λ found. cons_option (option_map (source_of source) found) []) sees.1

  no_sooner : (tick : ℕ) → max 0 tick ≡ tick
  no_sooner tick = omega arith

  later_done : (result : Result) (source : Option ℕ) (tick queued runs : ℕ)
      → ◌≡◌ {A = Option Done} (Some (record { outcome = result; moment = max 0 tick + queued + runs; from = source; start = Some (max 0 tick + queued) })) (Some (record { outcome = result; moment = tick + queued + runs; from = source; start = Some (tick + queued) }))
  later_done result source tick queued runs = ap (λ t. Some (record { outcome = result; moment = t + queued + runs; from = source; start = Some (t + queued) })) (no_sooner tick)

  -- `thenRun` after a source that did not fail
  pub run_completes : (place : ℕ) (name : List ℕ) (source tick queued runs : ℕ) (failure : Option Exception) → SeesOne source tick None
      → CompletesAt exceptions (Some (tick + queued)) (tick + queued + runs) failure (Done_of (plain_stage place name op.ThenRun (source ∷ []) [] 0 queued runs (Some (action_of exceptions (action_for failure)))))
  run_completes place name source tick queued runs None sees = rw (one_seen source tick None sees) (None, later_done (outcome_for exceptions None) None tick queued runs)
  run_completes place name source tick queued runs (Some exception) sees = rw (one_seen source tick None sees) (None, later_done (outcome_for exceptions (Some exception)) None tick queued runs)

  -- how an action ends after a failure
  abbrev pub failure_by : Action → Option Exception
  failure_by acts.Null = None
  failure_by acts.PicksFirst = None
  failure_by (acts.Throws exception) = Some exception
  failure_by (acts.ThrowsIfFailed exception) = Some exception

  -- it gives no number
  abbrev pub GivesNull : Action → Type 0
  GivesNull acts.Null = Unit {0}
  GivesNull acts.PicksFirst = ⊥
  GivesNull (acts.Throws exception) = Unit {0}
  GivesNull (acts.ThrowsIfFailed exception) = Unit {0}

  -- `handle` after one that failed
  pub handle_completes : (place : ℕ) (name : List ℕ) (source tick queued runs : ℕ) (exception : Exception) (action : Action) → GivesNull action → SeesOne source tick (Some exception)
      → CompletesAt exceptions (Some (tick + queued)) (tick + queued + runs) (failure_by action) (Done_of (plain_stage place name op.Handle (source ∷ []) [] 0 queued runs (Some (action_of exceptions action))))
  handle_completes place name source tick queued runs exception acts.Null given sees = rw (one_seen source tick (Some exception) sees) (None, later_done (outcome_for exceptions None) None tick queued runs)
  handle_completes place name source tick queued runs exception acts.PicksFirst given sees = absurd given
  handle_completes place name source tick queued runs exception (acts.Throws other) given sees = rw (one_seen source tick (Some exception) sees) (None, later_done (outcome_for exceptions (Some other)) None tick queued runs)
  handle_completes place name source tick queued runs exception (acts.ThrowsIfFailed other) given sees = rw (one_seen source tick (Some exception) sees) (None, later_done (outcome_for exceptions (Some other)) None tick queued runs)

  -- `whenComplete` after one that failed
  pub watch_completes : (place : ℕ) (name : List ℕ) (source tick queued runs : ℕ) (exception : Exception) → SeesOne source tick (Some exception)
      → CompletesAt exceptions (Some (tick + queued)) (tick + queued + runs) (Some exception) (Done_of (plain_stage place name op.WhenComplete (source ∷ []) [] 0 queued runs (Some (action_of exceptions acts.Null))))
  watch_completes place name source tick queued runs exception sees = rw (one_seen source tick (Some exception) sees) (Some source, later_done (outcome_for exceptions (Some exception)) (Some source) tick queued runs)

  -- ---- a source that is pending

  pending_source : (places : List ℕ) (place : ℕ) → In places place → inputs place ≡ None → have_completed inputs places ≡ false
  pending_source [] place here none = absurd here
  pending_source (first ∷ places) place (inl same) none = ap (λ p. is_some (source_at inputs p) && have_completed inputs places) same ∙ ap (λ found. is_some (option_map (source_of place) found) && have_completed inputs places) none
  pending_source (first ∷ places) place (inr further) none = ap (λ rest. is_some (source_at inputs first) && rest) (pending_source places place further none) ∙ never (is_some (source_at inputs first))
    where
      never : (b : Bool) → (b && false) ≡ false
      never true = refl
      never false = refl

  -- an `allOf` with one is pending
  pub join_waits : (at : ℕ) (name places : List ℕ) (place : ℕ) → In places place → inputs place ≡ None → Done_of (plain_stage at name op.AllOf places [] 0 0 0 None) ≡ None
  join_waits at name places place here none =
      ap (λ b. ended (plain_stage at name op.AllOf places [] 0 0 0 None) (pinned (plain_stage at name op.AllOf places [] 0 0 0 None) (finished inputs (cond b
      (unless_failed op.AllOf Computed (plain_stage at name op.AllOf places [] 0 0 0 None) inputs (latest_of 0 (completed inputs places)) (earliest_failed (completed inputs places))) (progress_of op.Manual Computed (plain_stage at name op.AllOf places [] 0 0 0 None) inputs))))) (pending_source places place here none)

  -- so of one that has completed each source has
  pub join_sources_done : (at : ℕ) (name places : List ℕ) (place : ℕ) (done : Done) → In places place → Done_of (plain_stage at name op.AllOf places [] 0 0 0 None) ≡ Some done → (completion : Completion) × (inputs place ≡ Some completion)
  join_sources_done at name places place done here ended_at = by_found (inputs place) refl
    where
      by_found : (found : Option Completion) → inputs place ≡ found → (completion : Completion) × (inputs place ≡ Some completion)
      by_found None none = absurd (none-some done (sym (join_waits at name places place here none) ∙ ended_at))
      by_found (Some completion) some = (completion, some)

  -- ---- the earliest source

  -- how a stage goes on from its earliest source
  after_first : (o : Op) (stage : Stage) (source : Source) → soonest moment_of (completed inputs stage.sources) ≡ Some source
      → ended stage (pinned stage (finished inputs (after_earliest o Computed stage inputs))) ≡ ended stage (pinned stage (finished inputs (decided o Computed stage (Some source))))
  after_first o stage source first = ap (λ found. ended stage (pinned stage (finished inputs (decided o Computed stage found)))) first

  only_first : (place : ℕ) (completion : Completion) → inputs place ≡ Some completion → soonest moment_of (completed inputs (place ∷ [])) ≡ Some (source_of place completion)
  only_first place completion seen = ap (λ found. soonest moment_of (cons_option (option_map (source_of place) found) [])) seen

  -- `whenComplete`, whatever its source came to
  watched_from : (at : ℕ) (name : List ℕ) (place runs moment : ℕ) («from» : Option ℕ) (outcome : Result)
      → (done : Done) × (ended (plain_stage at name op.WhenComplete (place ∷ []) [] 0 0 runs (Some (action_of exceptions acts.Null))) (pinned (plain_stage at name op.WhenComplete (place ∷ []) [] 0 0 runs (Some (action_of exceptions acts.Null)))
      (finished inputs (decided op.WhenComplete Computed (plain_stage at name op.WhenComplete (place ∷ []) [] 0 0 runs (Some (action_of exceptions acts.Null))) (Some (source_of place (record { outcome = outcome; moment = moment; from = «from» })))))) ≡ Some done)
      × (done.moment ≡ max 0 moment + 0 + runs)
  watched_from at name place runs moment «from» (Normal given) = (_, refl, refl)
  watched_from at name place runs moment «from» (Bare thrown) = (_, refl, refl)
  watched_from at name place runs moment «from» (Wrapped thrown) = (_, refl, refl)

  pub watch_ends : (at : ℕ) (name : List ℕ) (place runs : ℕ) (completion : Completion) → inputs place ≡ Some completion
      → (done : Done) × (Done_of (plain_stage at name op.WhenComplete (place ∷ []) [] 0 0 runs (Some (action_of exceptions acts.Null))) ≡ Some done) × (completion.moment + runs ≤ done.moment)
  watch_ends at name place runs completion seen =
      let last = watched_from at name place runs completion.moment completion.from completion.outcome in
      (last.0, after_first op.WhenComplete (plain_stage at name op.WhenComplete (place ∷ []) [] 0 0 runs (Some (action_of exceptions acts.Null))) (source_of place completion) (only_first place completion seen) ∙ last.1, later completion.moment runs last.0.moment last.2)
    where
      later : (a b c : ℕ) → c ≡ max 0 a + 0 + b → a + b ≤ c
      later a b c same = omega arith

  pub watch_waits : (at : ℕ) (name : List ℕ) (place runs : ℕ) → inputs place ≡ None → Done_of (plain_stage at name op.WhenComplete (place ∷ []) [] 0 0 runs (Some (action_of exceptions acts.Null))) ≡ None
  watch_waits at name place runs none =
      ap (λ found. ended (plain_stage at name op.WhenComplete (place ∷ []) [] 0 0 runs (Some (action_of exceptions acts.Null))) (pinned (plain_stage at name op.WhenComplete (place ∷ []) [] 0 0 runs (Some (action_of exceptions acts.Null)))
      (finished inputs (decided op.WhenComplete Computed (plain_stage at name op.WhenComplete (place ∷ []) [] 0 0 runs (Some (action_of exceptions acts.Null))) (soonest moment_of (cons_option (option_map (source_of place) found) [])))))) none

  -- of two the first, where the second is pending or completed no earlier
  abbrev pub IsNoSooner : ℕ → Option Completion → Type 0
  IsNoSooner tick None = Unit {0}
  IsNoSooner tick (Some completion) = tick ≤ completion.moment

  first_of_two : (one two : ℕ) (completion : Completion) (other : Option Completion) → inputs one ≡ Some completion → inputs two ≡ other → IsNoSooner completion.moment other
      → soonest moment_of (completed inputs (one ∷ two ∷ [])) ≡ Some (source_of one completion)
  first_of_two one two completion other seen second later =
      ap (λ found. soonest moment_of (cons_option (option_map (source_of one) found) (cons_option (option_map (source_of two) (inputs two)) []))) seen
      ∙ ap (λ found. soonest moment_of (source_of one completion ∷ cons_option (option_map (source_of two) found) [])) second
      ∙ by_other other later
    where
      by_other : (other : Option Completion) → IsNoSooner completion.moment other → soonest moment_of (source_of one completion ∷ cons_option (option_map (source_of two) other) []) ≡ Some (source_of one completion)
      by_other None later = refl
      by_other (Some last) later = let not_less : nat_lt last.moment completion.moment ≡ false = le-ltb last.moment completion.moment later in ap (λ b. Some (cond b (source_of two last) (source_of one completion))) not_less

  any_from : (at : ℕ) (name places : List ℕ) (place tick : ℕ) («from» : Option ℕ) (failure : Option Exception)
      → CompletesAt exceptions None tick failure (ended (plain_stage at name op.AnyOf places [] 0 0 0 None) (pinned (plain_stage at name op.AnyOf places [] 0 0 0 None)
      (finished inputs (decided op.AnyOf Computed (plain_stage at name op.AnyOf places [] 0 0 0 None) (Some (source_of place (record { outcome = outcome_for exceptions failure; moment = tick; from = «from» })))))))
  any_from at name places place tick «from» None = (None, ap (λ t. Some (record { outcome = outcome_for exceptions None; moment = t; from = None; start = None })) (no_sooner tick))
  any_from at name places place tick «from» (Some exception) = (Some place, ap (λ t. Some (record { outcome = outcome_for exceptions (Some exception); moment = t; from = Some place; start = None })) (no_sooner tick))

  -- `anyOf`
  pub any_completes : (at : ℕ) (name : List ℕ) (one two tick : ℕ) (failure : Option Exception) (other : Option Completion) → SeesOne one tick failure → inputs two ≡ other → IsNoSooner tick other
      → CompletesAt exceptions None tick failure (Done_of (plain_stage at name op.AnyOf (one ∷ two ∷ []) [] 0 0 0 None))
  any_completes at name one two tick failure other sees second later =
      subst (CompletesAt exceptions None tick failure)
      (sym (after_first op.AnyOf (plain_stage at name op.AnyOf (one ∷ two ∷ []) [] 0 0 0 None) (source_of one (record { outcome = outcome_for exceptions failure; moment = tick; from = sees.0 }))
      (first_of_two one two (record { outcome = outcome_for exceptions failure; moment = tick; from = sees.0 }) other sees.1 second later)))
      (any_from at name (one ∷ two ∷ []) one tick sees.0 failure)

  -- what the inner stage came to
  abbrev taken : ℕ → List ℕ → List ℕ → ℕ → ℕ → Option Completion → Option Done
  taken at name places inner tick found =
      ended (plain_stage at name op.ExceptionallyCompose places (inner ∷ []) 0 0 0 (Some (action_of exceptions acts.PicksFirst))) (pinned (plain_stage at name op.ExceptionallyCompose places (inner ∷ []) 0 0 0 (Some (action_of exceptions acts.PicksFirst)))
      (option_map (taken_over (record { index = 0; place = inner; start = max 0 tick + 0; end = max 0 tick + 0 + 0 })) (option_map (source_of inner) found)))

  -- `exceptionallyCompose` after one that failed, where its function picks its only inner stage, which completed no earlier
  composed_from : (at : ℕ) (name places : List ℕ) (place inner tick last : ℕ) («from» other : Option ℕ) (exception : Exception) (failure : Option Exception) → tick ≤ last
      → inputs inner ≡ Some (record { outcome = outcome_for exceptions failure; moment = last; from = other })
      → (start : Option ℕ) × CompletesAt exceptions start last failure (ended (plain_stage at name op.ExceptionallyCompose places (inner ∷ []) 0 0 0 (Some (action_of exceptions acts.PicksFirst)))
      (pinned (plain_stage at name op.ExceptionallyCompose places (inner ∷ []) 0 0 0 (Some (action_of exceptions acts.PicksFirst)))
      (finished inputs (decided op.ExceptionallyCompose Computed (plain_stage at name op.ExceptionallyCompose places (inner ∷ []) 0 0 0 (Some (action_of exceptions acts.PicksFirst)))
      (Some (source_of place (record { outcome = outcome_for exceptions (Some exception); moment = tick; from = «from» })))))))
  composed_from at name places place inner tick last «from» other exception failure le seen = (Some (max 0 tick + 0), by_failure failure (in_stage (inputs inner) (Some (record { outcome = outcome_for exceptions failure; moment = last; from = other })) seen))
    where
      in_stage : (found seen_there : Option Completion) → found ≡ seen_there → taken at name places inner tick found ≡ taken at name places inner tick seen_there
      in_stage found seen_there same = ap (taken at name places inner tick) same

      at_last : max (max 0 tick + 0 + 0) last ≡ last
      at_last = omega arith

      by_failure : (failure : Option Exception) → taken at name places inner tick (inputs inner) ≡ taken at name places inner tick (Some (record { outcome = outcome_for exceptions failure; moment = last; from = other }))
          → CompletesAt exceptions (Some (max 0 tick + 0)) last failure (taken at name places inner tick (inputs inner))
      by_failure None same = (None, same ∙ ap (λ t. Some (record { outcome = outcome_for exceptions None; moment = t; from = None; start = Some (max 0 tick + 0) })) at_last)
      by_failure (Some thrown) same = (Some inner, same ∙ ap (λ t. Some (record { outcome = outcome_for exceptions (Some thrown); moment = t; from = Some inner; start = Some (max 0 tick + 0) })) at_last)

  pub compose_completes : (at : ℕ) (name : List ℕ) (place inner tick last : ℕ) (exception : Exception) (failure : Option Exception) → SeesOne place tick (Some exception) → SeesOne inner last failure → tick ≤ last
      → (start : Option ℕ) × CompletesAt exceptions start last failure (Done_of (plain_stage at name op.ExceptionallyCompose (place ∷ []) (inner ∷ []) 0 0 0 (Some (action_of exceptions acts.PicksFirst))))
  compose_completes at name place inner tick last exception failure sees picks le =
      let composed = composed_from at name (place ∷ []) place inner tick last sees.0 picks.0 exception failure le picks.1 in (
        composed.0,
        subst (CompletesAt exceptions composed.0 last failure)
            (sym (after_first op.ExceptionallyCompose (plain_stage at name op.ExceptionallyCompose (place ∷ []) (inner ∷ []) 0 0 0 (Some (action_of exceptions acts.PicksFirst)))
            (source_of place (record { outcome = outcome_for exceptions (Some exception); moment = tick; from = sees.0 })) (only_first place (record { outcome = outcome_for exceptions (Some exception); moment = tick; from = sees.0 }) sees.1))) composed.1,
      )
