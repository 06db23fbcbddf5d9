-- The stages of spans have as many sources as their operations take, actions where those have one, and times that are no later than the last tick.
use Rattle.std.proofs.Common.{◌≡◌, ℕ, ◌-◌, ◌≤◌, List, [], ◌∷◌, Bool, true, false, cond, length, map, max, Option, Some, None, option_map, IsTrue, refl, sym, arith}
use Rattle.std.specs.Prelude.{slice_get, unwrap_or}
use Rattle.std.specs.List.{AllByRecursion as Each}
use Rattle.std.specs.Option.{option_to_list}
use Rattle.std.proofs.lemmas.Bool.{true≢false}
use Rattle.std.proofs.lemmas.Bool.Decides.{nat_tests}
use Rattle.std.proofs.lemmas.List.{length-map}
use Rattle.act_expr.specs.Expression.{Expression}
use Rattle.stage_graph.specs.Checks.{are_few, fits_action, fits_times, has_arity, is_tick}
use Rattle.trace_relations.specs.Moments.{interval_at}
use Rattle.trace_relations.specs.Ticks.{last_tick}
use Rattle.trace_stages.specs.Failures.{action_of, after_failure, handed_on, last_step, thrown}
use Rattle.trace_stages.specs.Fates.{fate_at}
use Rattle.trace_stages.specs.HandedOn.{same_exception}
use Rattle.trace_stages.specs.Known.{gave_up, had_at}
use Rattle.trace_stages.specs.Naming.{PlainStage, imported, imported_join, imported_tried, imported_work, name_of}
use Rattle.trace_stages.specs.Order.{entry_sources, join_sources}
use Rattle.trace_stages.specs.Outcomes.{has_failed}
use Rattle.trace_stages.specs.Scene.{PlainScene, entry_at}
use Rattle.trace_stages.specs.Works.{after_source, answer_from, answer_tick, at_end, begin_from, begin_work, first_outcome, had_outcome, last_outcome, last_work, limit_work, manual, whole_with, whole_work, work_after}
use Rattle.trace_laws.proofs.Timed.{IsTimed, timed_at}
use Rattle.trace_stages.specs.declared.fates.Fate.TheVariants.{Succeeded, Failed, Threw}
use Rattle.trace_stages.specs.declared.stage.Action.{Action}
use Rattle.trace_stages.specs.declared.stage.Action.TheVariants.{Null, ThrowsIfFailed}
use Rattle.trace_stages.specs.declared.stage.Exception.{Exception}
use Rattle.trace_stages.specs.declared.stage.Op.{Op}
use Rattle.trace_stages.specs.declared.stage.Op.TheVariants.{ThenRun, Handle, WhenComplete, AllOf, AnyOf}
use Rattle.trace_stages.specs.declared.walk.holding.Answer.{Answer as AnswerOf}
use Rattle.trace_stages.specs.declared.walk.holding.OwnWork.{OwnWork}
use Rattle.trace_stages.specs.declared.walk.stage_id.StageId.{StageId}
use Rattle.trace_stages.specs.declared.walk.stage_id.StageId.TheVariants.{Start, Whole, Entry, Join, Work, Tried, Limit, Answer}
use Rattle.trace_import.specs.Specs.{imported_op}
use Rattle.trace_laws.proofs.Types.{Fate, Outcome}

-- what a stage has to keep by itself, but for its name
pub record IsShaped (stage : PlainStage) : Type 0 where
  pub arity : IsTrue (has_arity (imported_op stage.op) (length stage.sources) (length (option_to_list stage.inner)))
  pub acts : (f : Action → Expression) → IsTrue (fits_action (imported_op stage.op) (option_map f stage.action))
  pub few : IsTrue (are_few (length stage.sources))
  pub few_inner : IsTrue (are_few (length (option_to_list stage.inner)))
  pub created : IsTrue (is_tick stage.created)
  pub queued : IsTrue (is_tick stage.queued)
  pub runs : IsTrue (is_tick stage.runs)
  pub times : IsTrue (fits_times (imported_op stage.op) stage.queued stage.runs)

tick : (n : ℕ) → n ≤ last_tick → IsTrue (is_tick n)
tick n h = grind (arith, nat_tests)

-- an operation that takes one source, and has an action
abbrev takes_one : Op → Bool
takes_one ThenRun = true
takes_one Handle = true
takes_one WhenComplete = true
takes_one other = false

one_if : (b : Bool) → takes_one (cond b Handle ThenRun) ≡ true
one_if true = refl
one_if false = refl

one_after : (failed : Exception) (fate : Fate) → takes_one (after_failure failed fate).op ≡ true
one_after failed Succeeded = refl
one_after failed Failed = refl
one_after failed (Threw own) = by (same_exception own failed)
  where
    by : (b : Bool) → takes_one (cond b (handed_on failed) (record { op = Handle; action = ThrowsIfFailed own; failure = Some own })).op ≡ true
    by true = refl
    by false = refl

one_source : (failure : Option Exception) (fate : Fate) → takes_one (last_step failure fate).op ≡ true
one_source None fate = refl
one_source (Some failed) fate = one_after failed fate

-- joins have few sources, and no work ends later than the last tick
abbrev pub IsTimely : PlainScene → StageId → Type 0
IsTimely scene (Entry span number) = length (entry_sources scene span number) ≤ 1024
IsTimely scene (Join span number) = length (join_sources scene span number) ≤ 1024
IsTimely scene (Work span number) = (work : OwnWork) → slice_get (had_at scene.known.hads span).works number ≡ Some work → work.until ≤ last_tick
IsTimely scene (Answer place) = (answer : AnswerOf) → (had_at scene.known.hads place).answer ≡ Some answer → answer.since ≤ last_tick
IsTimely scene other = Unit {0}

module _ (scene : PlainScene) (timed : Each IsTimed scene.known.relations.intervals) where
  start_low : (place : ℕ) → (interval_at scene.known.relations.intervals place).start ≤ last_tick
  start_low place = let is = timed_at scene.known.relations.intervals place timed in is.start

  end_low : (place t : ℕ) → (interval_at scene.known.relations.intervals place).end ≡ Some t → t ≤ last_tick
  end_low place t e = let is = timed_at scene.known.relations.intervals place timed in let both = is.end t e in both.0

  -- ---- stages of one source

  manual_shaped : (id : StageId) (created : ℕ) → created ≤ last_tick → IsShaped (imported_work scene id (manual created))
  manual_shaped id created low = record { arity = refl; acts = λ f. refl; few = refl; few_inner = refl; created = tick created low; queued = refl; runs = refl; times = refl }

  one_shaped : (id : StageId) (op : Op) (source : StageId) (queued runs : ℕ) (action : Action) → takes_one op ≡ true → queued ≤ last_tick → runs ≤ last_tick
      → IsShaped (imported_work scene id (record { op = op; created = 0; source = Some source; queued = queued; runs = runs; action = Some action }))
  one_shaped id ThenRun source queued runs action one wait low = record { arity = refl; acts = λ f. refl; few = refl; few_inner = refl; created = refl; queued = tick queued wait; runs = tick runs low; times = refl }
  one_shaped id Handle source queued runs action one wait low = record { arity = refl; acts = λ f. refl; few = refl; few_inner = refl; created = refl; queued = tick queued wait; runs = tick runs low; times = refl }
  one_shaped id WhenComplete source queued runs action one wait low = record { arity = refl; acts = λ f. refl; few = refl; few_inner = refl; created = refl; queued = tick queued wait; runs = tick runs low; times = refl }
  one_shaped id other source queued runs action one wait low = absurd (true≢false (sym one))

  after_shaped : (id : StageId) (start : ℕ) (source : StageId) (outcome : Outcome) (runs : ℕ) (action : Action) → start ≤ last_tick → runs ≤ last_tick → IsShaped (imported_work scene id (after_source start source outcome runs action))
  after_shaped id start source outcome runs action begins low =
      one_shaped id (cond (has_failed outcome) Handle ThenRun) source (start - outcome.tick) runs action (one_if (has_failed outcome)) (omega arith) low

  begin_shaped : (id : StageId) (place runs : ℕ) (action : Action) (o : Option StageId) → runs ≤ last_tick → IsShaped (imported_work scene id (begin_from scene place runs action o))
  begin_shaped id place runs action None low = record { arity = refl; acts = λ f. refl; few = refl; few_inner = refl; created = tick _ (start_low place); queued = refl; runs = tick runs low; times = refl }
  begin_shaped id place runs action (Some source) low = after_shaped id (interval_at scene.known.relations.intervals place).start source (first_outcome scene place source) runs action (start_low place) low

  first_shaped : (id : StageId) (place runs : ℕ) (action : Action) → runs ≤ last_tick → IsShaped (imported_work scene id (begin_work scene place runs action))
  first_shaped id place runs action low = begin_shaped id place runs action (entry_at scene.entries place).stage low

  -- ---- own work

  work_shaped : (id : StageId) (o : Option OwnWork) → ((work : OwnWork) → o ≡ Some work → work.until ≤ last_tick) → IsShaped (imported_work scene id (work_after scene o))
  work_shaped id None low = manual_shaped id 0 (omega arith)
  work_shaped id (Some work) low =
      one_shaped id (cond (has_failed (had_outcome scene work.after)) Handle ThenRun) work.after ((had_outcome scene work.after).tick - (had_outcome scene work.after).tick) (work.until - (had_outcome scene work.after).tick) Null
      (one_if (has_failed (had_outcome scene work.after))) (omega arith) (omega (arith, low work refl))

  -- ---- ends

  whole_shaped : (place : ℕ) (o : Option ℕ) → ((t : ℕ) → o ≡ Some t → t ≤ last_tick) → IsShaped (imported_work scene (Whole place) (whole_with scene place o))
  whole_shaped place None low = manual_shaped (Whole place) (interval_at scene.known.relations.intervals place).start (start_low place)
  whole_shaped place (Some end) low = by (scene.known.has_two place)
    where
      by : (b : Bool) → IsShaped (imported_work scene (Whole place) (cond b (last_work scene place end) (begin_work scene place (end - (interval_at scene.known.relations.intervals place).start) (action_of (thrown (fate_at scene.known.fates place))))))
      by true =
          one_shaped (Whole place) (last_step (last_outcome scene place).failure (fate_at scene.known.fates place)).op (at_end scene place) 0 (end - (last_outcome scene place).tick)
          (last_step (last_outcome scene place).failure (fate_at scene.known.fates place)).action (one_source (last_outcome scene place).failure (fate_at scene.known.fates place)) (omega arith) (omega (arith, low end refl))
      by false = first_shaped (Whole place) place (end - (interval_at scene.known.relations.intervals place).start) (action_of (thrown (fate_at scene.known.fates place))) (omega (arith, low end refl))

  few_names : (k : ℕ) → k ≤ 1024 → IsTrue (are_few k)
  few_names k h = grind (arith, nat_tests)

  all_shaped : (id : StageId) (sources : List StageId) → length sources ≤ 1024 → IsShaped (imported_join scene id AllOf sources)
  all_shaped id sources low =
      let count : length (map (name_of scene) sources) ≤ 1024 = omega (arith, length-map sources (name_of scene)) in
      record { arity = refl; acts = λ f. refl; few = few_names (length (map (name_of scene) sources)) count; few_inner = refl; created = refl; queued = refl; runs = refl; times = refl }

  end_shaped : (place : ℕ) (b : Bool) → IsShaped (cond b (imported_join scene (Whole place) AnyOf (Limit place ∷ Answer place ∷ [])) (imported_work scene (Whole place) (whole_work scene place)))
  end_shaped place true = record { arity = refl; acts = λ f. refl; few = refl; few_inner = refl; created = refl; queued = refl; runs = refl; times = refl }
  end_shaped place false = whole_shaped place (interval_at scene.known.relations.intervals place).end (λ t e. end_low place t e)

  tried_shaped : (place : ℕ) → IsShaped (imported_tried scene place)
  tried_shaped place = record { arity = refl; acts = λ f. refl; few = refl; few_inner = refl; created = refl; queued = refl; runs = refl; times = refl }

  -- ---- calls that were given up

  unwrapped_low : (o : Option ℕ) → ((t : ℕ) → o ≡ Some t → t ≤ last_tick) → unwrap_or o 0 ≤ last_tick
  unwrapped_low None low = omega arith
  unwrapped_low (Some t) low = low t refl

  limit_shaped : (place : ℕ) → IsShaped (imported_work scene (Limit place) (limit_work scene place))
  limit_shaped place =
      let low = unwrapped_low (interval_at scene.known.relations.intervals place).end (λ t e. end_low place t e) in
      one_shaped (Limit place) ThenRun (Start place) 0 (unwrap_or (interval_at scene.known.relations.intervals place).end 0 - (interval_at scene.known.relations.intervals place).start) (action_of (thrown (fate_at scene.known.fates place))) refl (omega arith) (omega arith)

  runs_low : (since start end tick_of : ℕ) → since ≤ last_tick → end ≤ last_tick → max (since - start) (end - tick_of) ≤ last_tick
  runs_low since start end tick_of first second = omega arith

  answer_shaped : (place start : ℕ) (o : Option AnswerOf) (end : Option ℕ) → ((answer : AnswerOf) → o ≡ Some answer → answer.since ≤ last_tick) → ((t : ℕ) → end ≡ Some t → t ≤ last_tick)
      → IsShaped (imported_work scene (Answer place) (answer_from scene start o end))
  answer_shaped place start (Some answer) (Some end) since low =
      one_shaped (Answer place) WhenComplete answer.stage 0 (max (answer.since - start) (end - answer_tick answer.is_open (had_outcome scene answer.stage) end)) Null refl (omega arith)
      (runs_low answer.since start end (answer_tick answer.is_open (had_outcome scene answer.stage) end) (since answer refl) (low end refl))
  answer_shaped place start (Some answer) None since low = manual_shaped (Answer place) 0 (omega arith)
  answer_shaped place start None (Some end) since low = manual_shaped (Answer place) 0 (omega arith)
  answer_shaped place start None None since low = manual_shaped (Answer place) 0 (omega arith)

  -- ---- all stages

  pub shaped : (id : StageId) → IsTimely scene id → IsShaped (imported scene id)
  shaped (Start place) h = first_shaped (Start place) place 0 Null (omega arith)
  shaped (Whole place) h = end_shaped place (gave_up scene.known place)
  shaped (Tried place) h = tried_shaped place
  shaped (Limit place) h = limit_shaped place
  shaped (Answer place) h = answer_shaped place (interval_at scene.known.relations.intervals place).start (had_at scene.known.hads place).answer (interval_at scene.known.relations.intervals place).end h (λ t e. end_low place t e)
  shaped (Work span number) h = work_shaped (Work span number) (slice_get (had_at scene.known.hads span).works number) h
  shaped (Entry span number) h = all_shaped (Entry span number) (entry_sources scene span number) h
  shaped (Join span number) h = all_shaped (Join span number) (join_sources scene span number) h
