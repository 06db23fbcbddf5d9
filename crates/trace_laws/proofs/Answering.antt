-- Each stage of a trace completes as is claimed, where its sources do.
use Rattle.std.proofs.Common.{◌≡◌, ℕ, ◌+◌, ◌-◌, ◌<◌, ◌≤◌, inl, inr, List, [], ◌∷◌, Bool, true, false, cond, length, map, Option, Some, None, refl, sym, ap, ◌∙◌, subst, arith}
use Rattle.std.specs.Prelude.{◌⊎◌, IfSome, is_some, max, slice_get, unwrap_or}
use Rattle.std.specs.Option.{option_map}
use Rattle.std.proofs.lemmas.Bool.{cases_lt, false≢true}
use Rattle.std.proofs.lemmas.Option.{none-some, same_Some, slice_get_within}
use Rattle.stage_graph.specs.Names.{stage_of}
use Rattle.stage_graph.specs.declared.op.Op.TheVariants as op
use Rattle.stage_graph.specs.declared.stage.Stage.{Stage}
use Rattle.stage_ops.specs.States.{Completion, seen as seen_from}
use Rattle.stage_ops.specs.declared.state.Done.{Done}
use Rattle.trace_relations.specs.Attempts.{has_failed as span_failed}
use Rattle.trace_relations.specs.Moments.{end_after, end_moment, interval_at, turn_number}
use Rattle.trace_relations.specs.Relations.{PlainRelations}
use Rattle.trace_relations.specs.declared.as_told.AsTold.{AsTold}
use Rattle.trace_relations.specs.declared.moment.Moment.{Moment}
use Rattle.trace_spans.specs.declared.span.Span.{Span}
use Rattle.trace_stages.specs.Beginnings.{option_list}
use Rattle.trace_stages.specs.EndOutcomes.{own_sight}
use Rattle.trace_stages.specs.Failures.{failures_by, last_step, thrown}
use Rattle.trace_stages.specs.Failures as fails
use Rattle.trace_stages.specs.Fates.{fate_at, fate_of}
use Rattle.trace_stages.specs.HandedOn.{all_handed}
use Rattle.trace_stages.specs.Known.{PlainKnown, gave_up, had_at}
use Rattle.trace_stages.specs.Moments.{AreMoments, At}
use Rattle.trace_stages.specs.Naming.{end_of_next, imported, imported_join, imported_work, name_of, next_attempt}
use Rattle.trace_stages.specs.Order.{entry_sources, join_sources}
use Rattle.trace_stages.specs.Outcomes.{has_failed, join_outcome, join_outcomes, latest, outcome_at, outcome_of, work_end}
use Rattle.trace_stages.specs.Scene.{PlainScene, entry_at, handed_join, list_at, whole_sight}
use Rattle.trace_stages.specs.StagesOf.{had, known_of}
use Rattle.trace_stages.specs.TwoStages.{has_two}
use Rattle.trace_stages.specs.Visits.{visits}
use Rattle.trace_stages.specs.Works.{answer_from, answer_tick, at_end, begin_from, begin_work, had_outcome, last_work, whole_with, whole_work, work_after}
use Rattle.trace_stages.specs.declared.stage.Action.TheVariants as acts
use Rattle.trace_laws.specs.Circles.{sources_of, trace_scene}
use Rattle.trace_stages.specs.declared.stage.Exception.{Exception}
use Rattle.trace_stages.specs.declared.stage.Op.TheVariants.{AllOf, AnyOf, ThenRun, Handle}
use Rattle.trace_stages.specs.declared.stage.StageName.{StageName}
use Rattle.trace_stages.specs.declared.walk.holding.Answer.{Answer as Answered}
use Rattle.trace_stages.specs.declared.walk.holding.OwnWork.{OwnWork}
use Rattle.trace_stages.specs.declared.walk.joins.JoinsOf.TheVariants as joins_of
use Rattle.trace_stages.specs.declared.walk.stage_id.StageId.{StageId}
use Rattle.trace_stages.specs.declared.walk.stage_id.StageId.TheVariants.{Start, Whole, Entry, Join, Work, Tried, Limit, Answer}
use Rattle.trace_laws.specs.Completes.{CompletesAt, action_of, op_of, outcome_for, spec_of}
use Rattle.trace_laws.specs.Faithful.{IsLater}
use Rattle.trace_laws.proofs.Claiming.{Claim, Closed, EndClaim, IsTold, JoinClaim, at_name, at_names, comes, fails_alone, fails_as, fails_given, fails_last, sees_all, sees_closed, within}
use Rattle.trace_laws.proofs.Each.{Each, In, each-in, in-each, in-mapped}
use Rattle.trace_laws.proofs.Failing.{fate_is, last_completes, last_fails}
use Rattle.trace_laws.proofs.Falling.{Piece, join_place, joins_are_made, least_is}
use Rattle.trace_laws.proofs.GivingUp.{end_exists}
use Rattle.trace_laws.proofs.Having.{HadBase, held_well}
use Rattle.trace_laws.proofs.Joining.{extends-longer, made-at}
use Rattle.trace_laws.proofs.Keys.{had_is, joins_at, least, own_joins}
use Rattle.trace_laws.proofs.Lesser.{begin_source, gave_up_end}
use Rattle.trace_laws.proofs.Making.{no_join, option_in}
use Rattle.trace_laws.proofs.Numbers.{end_number, number, number_or}
use Rattle.trace_laws.proofs.Relations.{IsFamily, turn_three, waits_is}
use Rattle.trace_laws.proofs.Sourcing.{gave_up_two}
use Rattle.trace_laws.proofs.Stepping.{Done_of, Sees, SeesAll, SeesOne, IsNoSooner, any_completes, compose_completes, first_completes, handle_completes, join_completes, join_waits, never_completes, plain_stage, run_completes, watch_ends, watch_waits}
use Rattle.trace_laws.proofs.Sure.{all_sure, sure_joins}
use Rattle.trace_laws.proofs.Ticking.{Outcome, tick_of_end}
use Rattle.trace_laws.proofs.Timing.{Begins, base_own, entry_closed, entry_ends, first_begins, join_closed, join_ends, join_ends_own, last_leads, outcomes_are, sooner_tick, waited_closed, work_leads}
use Rattle.trace_laws.proofs.Trying.{caller_waits, last_is, last_same, tried, tried_by}
use Rattle.trace_laws.proofs.Types.{Fate, WorkOf}

tick_up : (a t r : ℕ) → t ≤ a → t + (a - t) ≡ a
tick_up a t r le = omega arith

le_same : (a b : ℕ) → a ≡ b → a ≤ b
le_same a b same = omega arith

le_through : (a b c : ℕ) → a ≡ b → b ≤ c → a ≤ c
le_through a b c same le = omega arith

module _ {as_told : AsTold} (spans : List Span) (relations : PlainRelations) (is : IsFamily as_told spans relations) (moments : List At) (are : AreMoments relations.intervals moments) (text : StageName → List ℕ) (exceptions : Exception → List ℕ) where
  abbrev known : PlainKnown
  known = known_of spans relations as_told moments

  abbrev failed : ℕ → Option Exception
  failed = failures_by (known_of spans relations as_told moments) (visits relations.parents relations.order)

  abbrev scene : PlainScene
  scene = trace_scene spans relations as_told moments

  abbrev ends : StageId → Outcome
  ends id = comes spans relations is moments are text exceptions id

  abbrev IsEnded : StageId → Type 0
  IsEnded id = Closed spans relations is moments are text exceptions id

  abbrev Claimed : StageId → Option Done → Type 0
  Claimed id completion = Claim spans relations is moments are text exceptions id completion

  abbrev start_of : ℕ → ℕ
  start_of place = (interval_at relations.intervals place).start

  abbrev end_of : ℕ → Option ℕ
  end_of place = (interval_at relations.intervals place).end

  abbrev All : ℕ → List (List StageId)
  All place = joins_at spans relations is moments are failed place

  abbrev nth : ℕ → ℕ → ℕ
  nth place count = least spans relations is moments are failed place count

  -- when a part of what a span has ended, by the outcomes of its own joins
  abbrev lower : ℕ → StageId → ℕ
  lower place id = (outcome_of (own_sight known failed) (join_outcomes (own_sight known failed) (All place)) id).tick

  abbrev Part_of : ℕ → ℕ → StageId → Type 0
  Part_of place n id = Piece spans relations is moments are failed place n id

  piece_whole : (place n : ℕ) (id : StageId) → place < length relations.intervals → n ≤ length (All place) → Part_of place n id → (had_outcome scene id).tick ≡ lower place id
  piece_whole place n id lt le (inl (inl same)) = subst (λ one. (had_outcome scene one).tick ≡ lower place one) (sym same) refl
  piece_whole place n id lt le (inl (inr (inl (inl call)))) = subst (λ one. (had_outcome scene one).tick ≡ lower place one) (sym call.is) (by_next (relations.attempts.next (relations.attempts.first call.child)) (relations.attempts.first call.child))
    where
      by_next : (next : Option ℕ) (p : ℕ) → (had_outcome scene (cond (is_some next) (Tried p) (Whole p))).tick ≡ lower place (cond (is_some next) (Tried p) (Whole p))
      by_next None p = refl
      by_next (Some again) p = refl
  piece_whole place n id lt le (inl (inr (inl (inr call)))) = subst (λ one. (had_outcome scene one).tick ≡ lower place one) (sym call.is) (by_next (relations.attempts.next call.child) call.child)
    where
      by_next : (next : Option ℕ) (p : ℕ) → (had_outcome scene (cond (is_some next) (Tried p) (Whole p))).tick ≡ lower place (cond (is_some next) (Tried p) (Whole p))
      by_next None p = refl
      by_next (Some again) p = refl
  piece_whole place n id lt le (inl (inr (inr (count, worked, same)))) = subst (λ one. (had_outcome scene one).tick ≡ lower place one) (sym same) refl
  piece_whole place n id lt le (inr (k, short, same)) =
      subst (λ one. (had_outcome scene one).tick ≡ lower place one) (sym same)
      (ap (λ found. (outcome_at (unwrap_or found []) k).tick) (outcomes_are spans relations is moments are failed place lt))

  -- ---- ticks of ends

  number_tick : (one other tick : ℕ) (end : Moment) → end_moment (interval_at relations.intervals one) ≡ Some end → end_of other ≡ Some tick → end_number relations.intervals one ≤ end_number relations.intervals other → end.tick ≤ tick
  number_tick one other tick end ends ended le =
      let last : Moment = end_after (start_of other) tick in
      sooner_tick end.tick (turn_number end.turn) tick (turn_number (end_after (start_of other) tick).turn) (turn_three (end_after (start_of other) tick).turn)
      (both (end_number relations.intervals one) (number end) (end_number relations.intervals other) (number (end_after (start_of other) tick)) (ap number_or ends) (ap number_or (ap (option_map (end_after (start_of other))) ended)) le)
    where
      both : (a b c d : ℕ) → a ≡ b → c ≡ d → a ≤ c → b ≤ d
      both a b c d one two le = omega arith

  -- the last of a later attempt is itself
  last_lower : (child again tick : ℕ) → relations.attempts.next child ≡ Some again → end_of (relations.attempts.last (relations.attempts.first child)) ≡ Some tick → unwrap_or (end_of (relations.attempts.last child)) 0 ≤ tick
  last_lower child again tick next ended = by_previous (relations.attempts.previous child) refl
    where
      by_previous : (previous : Option ℕ) → relations.attempts.previous child ≡ previous → unwrap_or (end_of (relations.attempts.last child)) 0 ≤ tick
      by_previous None none =
          le_same (unwrap_or (end_of (relations.attempts.last child)) 0) tick
          (ap (λ p. unwrap_or (end_of (relations.attempts.last p)) 0) (sym ((tried spans relations is).alone child none)) ∙ ap (λ found. unwrap_or found 0) ended)
      by_previous (Some before) some =
          let by = tried_by spans relations is child again next in
          le_through (unwrap_or (end_of (relations.attempts.last child)) 0) by.end.tick tick
          (ap (λ p. unwrap_or (end_of p) 0) ((tried spans relations is).itself before child some) ∙ ap (λ found. unwrap_or found 0) (tick_of_end (interval_at relations.intervals child) by.end by.ends))
          (number_tick child (relations.attempts.last (relations.attempts.first child)) tick by.end by.ends ended (last_is spans relations is child).ends)

  module _ (inputs : ℕ → Option Completion) (find : List ℕ → Option ℕ) (position : ℕ) where
    abbrev there : StageId → ℕ
    there source = at_name spans relations is moments are text exceptions find source

    abbrev theirs : List StageId → List ℕ
    theirs sources = at_names spans relations is moments are text exceptions find sources

    abbrev Told : StageId → Type 0
    Told source = IsTold spans relations is moments are text exceptions inputs (at_name spans relations is moments are text exceptions find source) source

    -- a stage with the work of another
    abbrev working : List ℕ → List ℕ → WorkOf → Stage
    working name places work = plain_stage position name (op_of work.op) places [] work.created work.queued work.runs (option_map (action_of exceptions) work.action)

    abbrev done_by : Stage → Option Done
    done_by stage = Done_of exceptions inputs stage

    -- ---- after one source

    at_tick : (name : List ℕ) (a n runs : ℕ) (failing : Option Exception) (stage : Stage) → n ≡ a → CompletesAt exceptions (Some n) (n + runs) failing (done_by stage) → CompletesAt exceptions (Some a) (a + runs) failing (done_by stage)
    at_tick name a n runs failing stage same completes = subst (λ m. CompletesAt exceptions (Some m) (m + runs) failing (done_by stage)) same completes

    after_completes : (name : List ℕ) (a t : ℕ) (f : Option Exception) (source runs : ℕ) (failing : Option Exception) → t ≤ a → SeesOne exceptions inputs source t f
        → CompletesAt exceptions (Some a) (a + runs) failing (done_by (plain_stage position name (op_of (cond (is_some f) Handle ThenRun)) (source ∷ []) [] 0 (a - t) runs (Some (action_of exceptions (fails.action_of failing)))))
    after_completes name a t None source runs failing le sees =
        at_tick name a (t + (a - t)) runs failing (plain_stage position name op.ThenRun (source ∷ []) [] 0 (a - t) runs (Some (action_of exceptions (fails.action_of failing)))) (tick_up a t runs le)
        (run_completes exceptions inputs position name source t (a - t) runs failing sees)
    after_completes name a t (Some thrown) source runs None le sees =
        at_tick name a (t + (a - t)) runs None (plain_stage position name op.Handle (source ∷ []) [] 0 (a - t) runs (Some (action_of exceptions acts.Null))) (tick_up a t runs le)
        (handle_completes exceptions inputs position name source t (a - t) runs thrown acts.Null tt sees)
    after_completes name a t (Some thrown) source runs (Some failing) le sees =
        at_tick name a (t + (a - t)) runs (Some failing) (plain_stage position name op.Handle (source ∷ []) [] 0 (a - t) runs (Some (action_of exceptions (acts.Throws failing)))) (tick_up a t runs le)
        (handle_completes exceptions inputs position name source t (a - t) runs thrown (acts.Throws failing) tt sees)

    -- ---- the first stage of a span

    begin_completes : (name : List ℕ) (place runs : ℕ) (failing : Option Exception) (places : List ℕ) (stage : Option StageId) → ((source : StageId) → stage ≡ Some source → Begins spans relations is moments are failed place source)
        → SeesAll exceptions inputs places (map ends (option_list stage)) → CompletesAt exceptions (Some (start_of place)) (start_of place + runs) failing (done_by (working name places (begin_from scene place runs (fails.action_of failing) stage)))
    begin_completes name place runs failing [] None begins sees =
        at_tick name (start_of place) (start_of place + 0) runs failing (working name [] (begin_from scene place runs (fails.action_of failing) None)) (no_more (start_of place))
        (first_completes exceptions inputs position name (start_of place) runs failing)
      where
        no_more : (a : ℕ) → a + 0 ≡ a
        no_more a = omega arith
    begin_completes name place runs failing (one ∷ places) None begins sees = absurd sees
    begin_completes name place runs failing [] (Some source) begins sees = absurd sees
    begin_completes name place runs failing (one ∷ []) (Some source) begins sees =
        let from_there = begins source refl in
        subst (λ o. CompletesAt exceptions (Some (start_of place)) (start_of place + runs) failing
        (done_by (plain_stage position name (op_of (cond (has_failed o) Handle ThenRun)) (one ∷ []) [] 0 (start_of place - o.tick) runs (Some (action_of exceptions (fails.action_of failing)))))) (sym from_there.seen)
        (after_completes name (start_of place) (ends source).tick (ends source).failure one runs failing from_there.by sees.0)
    begin_completes name place runs failing (one ∷ two ∷ places) (Some source) begins sees = absurd sees.1

    begins_closed : (place runs : ℕ) (failing : Option Exception) → Each IsEnded (option_list (begin_work scene place runs (fails.action_of failing)).source)
    begins_closed place runs failing = in-each IsEnded (option_list (begin_work scene place runs (fails.action_of failing)).source) (λ source here.
        (first_begins spans relations is moments are failed place source
        (sym (begin_source scene place runs (fails.action_of failing) (entry_at scene.entries place).stage) ∙ option_in (begin_work scene place runs (fails.action_of failing)).source source here)).closed)

    begun_completes : (name : List ℕ) (place runs : ℕ) (failing : Option Exception) → ((source : StageId) → In (option_list (begin_work scene place runs (fails.action_of failing)).source) source → Told source)
        → CompletesAt exceptions (Some (start_of place)) (start_of place + runs) failing
        (done_by (working name (theirs (option_list (begin_work scene place runs (fails.action_of failing)).source)) (begin_work scene place runs (fails.action_of failing))))
    begun_completes name place runs failing told =
        begin_completes name place runs failing (theirs (option_list (begin_work scene place runs (fails.action_of failing)).source)) (entry_at scene.entries place).stage
        (λ source stage. first_begins spans relations is moments are failed place source stage)
        (subst (λ stage. SeesAll exceptions inputs (theirs (option_list (begin_work scene place runs (fails.action_of failing)).source)) (map ends (option_list stage)))
        (begin_source scene place runs (fails.action_of failing) (entry_at scene.entries place).stage)
        (sees_all spans relations is moments are text exceptions inputs find (option_list (begin_work scene place runs (fails.action_of failing)).source) (begins_closed place runs failing) told))

    pub start_step : (place : ℕ) → ((source : StageId) → In (sources_of scene (Start place)) source → Told source) → Claimed (Start place) (done_by (stage_of find position (spec_of text exceptions (imported scene (Start place)))))
    start_step place told =
        subst (λ n. CompletesAt exceptions (Some (start_of place)) n None (done_by (stage_of find position (spec_of text exceptions (imported scene (Start place)))))) (no_more (start_of place))
        (begun_completes (text (name_of scene (Start place))) place 0 None told)
      where
        no_more : (a : ℕ) → a + 0 ≡ a
        no_more a = omega arith

    -- ---- own work

    worked_completes : (name : List ℕ) (place count : ℕ) (work : OwnWork) (one : ℕ) → place < length relations.intervals → slice_get (had relations moments place).works count ≡ Some work → Sees exceptions inputs one (ends work.after)
        → (start : Option ℕ) × CompletesAt exceptions start work.until None (done_by (working name (one ∷ []) (work_after scene (Some work))))
    worked_completes name place count work one lt at sees =
        let leads = work_leads spans relations is moments are failed place count work lt at in (
          Some (ends work.after).tick,
          subst (λ o. CompletesAt exceptions (Some (ends work.after).tick) work.until None
              (done_by (plain_stage position name (op_of (cond (has_failed o) Handle ThenRun)) (one ∷ []) [] 0 (o.tick - o.tick) (work.until - o.tick) (Some (action_of exceptions acts.Null))))) (sym (leads.seen []))
              (subst (λ n. CompletesAt exceptions (Some (ends work.after).tick) n None
              (done_by (plain_stage position name (op_of (cond (has_failed (ends work.after)) Handle ThenRun)) (one ∷ []) [] 0 ((ends work.after).tick - (ends work.after).tick) (work.until - (ends work.after).tick) (Some (action_of exceptions acts.Null)))))
              (tick_up work.until (ends work.after).tick 0 leads.by)
              (after_completes name (ends work.after).tick (ends work.after).tick (ends work.after).failure one (work.until - (ends work.after).tick) None (le_same (ends work.after).tick (ends work.after).tick refl) sees)),
        )

    pub work_step : (place count : ℕ) → (work : OwnWork) × (slice_get (had_at known.hads place).works count ≡ Some work) → place < length relations.intervals
        → ((source : StageId) → In (sources_of scene (Work place count)) source → Told source) → Claimed (Work place count) (done_by (stage_of find position (spec_of text exceptions (imported scene (Work place count)))))
    work_step place count (work, at) lt told =
        by_found (slice_get (had_at known.hads place).works count) at told
      where
        by_found : (found : Option OwnWork) → found ≡ Some work → ((source : StageId) → In (option_list (work_after scene found).source) source → Told source)
            → (start : Option ℕ) × CompletesAt exceptions start (work_end found) None
            (done_by (working (text (name_of scene (Work place count))) (theirs (option_list (work_after scene found).source)) (work_after scene found)))
        by_found None none told = absurd (none-some work none)
        by_found (Some other) some told =
            let here : slice_get (had relations moments place).works count ≡ Some other = ap (λ those. slice_get those.works count) (sym (had_is spans relations is moments are failed place lt)) ∙ at ∙ sym some in
            worked_completes (text (name_of scene (Work place count))) place count other (there other.after) lt here
            (sees_closed spans relations is moments are text exceptions inputs (there other.after) other.after (told other.after (inl refl)) (work_leads spans relations is moments are failed place count other lt here).closed)

    -- ---- the last stage of a span

    last_completes_at : (name : List ℕ) (place tick : ℕ) → end_of place ≡ Some tick → gave_up known place ≡ false → Told (at_end scene place)
        → (start : Option ℕ) × CompletesAt exceptions start tick (last_step (ends (at_end scene place)).failure (fate_at known.fates place)).failure (done_by (working name (there (at_end scene place) ∷ []) (last_work scene place tick)))
    last_completes_at name place tick ended kept told =
        let leads = last_leads spans relations is moments are failed place tick ended kept in
        let sees = sees_closed spans relations is moments are text exceptions inputs (there (at_end scene place)) (at_end scene place) told leads.closed in
        let went = fate_is spans relations is moments are failed place (shorter place (length relations.intervals) (length spans) (within spans relations is moments are text exceptions place tick ended) is.count) in
        by_parts (at_end scene place) (ends (at_end scene place)).tick (ends (at_end scene place)).failure (fate_at known.fates place) (outcome_of (whole_sight scene.known scene.failures scene.outcomes) [] (at_end scene place)) went (leads.seen []) leads.by sees
      where
        shorter : (a b c : ℕ) → a < b → b ≡ c → a < c
        shorter a b c lt same = omega arith

        no_queue : (t e : ℕ) → t ≤ e → t + 0 + (e - t) ≡ e
        no_queue t e le = omega arith

        by_parts : (source : StageId) (t : ℕ) (f : Option Exception) (fate : Fate) (seen : Outcome) → fate ≡ fate_of spans place (slice_get spans place) → seen ≡ record { tick = t; failure = f } → t ≤ tick → SeesOne exceptions inputs (there source) t f
            → (start : Option ℕ) × CompletesAt exceptions start tick (last_step f fate).failure
            (done_by (plain_stage position name (op_of (last_step seen.failure fate).op) (there source ∷ []) [] 0 0 (tick - seen.tick) (Some (action_of exceptions (last_step seen.failure fate).action))))
        by_parts source t f fate seen went same le sees = (
          Some (t + 0),
          subst (λ o. CompletesAt exceptions (Some (t + 0)) tick (last_step f fate).failure
              (done_by (plain_stage position name (op_of (last_step o.failure fate).op) (there source ∷ []) [] 0 0 (tick - o.tick) (Some (action_of exceptions (last_step o.failure fate).action))))) (sym same)
              (subst (λ w. CompletesAt exceptions (Some (t + 0)) tick (last_step f w).failure
              (done_by (plain_stage position name (op_of (last_step f w).op) (there source ∷ []) [] 0 0 (tick - t) (Some (action_of exceptions (last_step f w).action))))) (sym went)
              (subst (λ n. CompletesAt exceptions (Some (t + 0)) n (last_step f (fate_of spans place (slice_get spans place))).failure
              (done_by (plain_stage position name (op_of (last_step f (fate_of spans place (slice_get spans place))).op) (there source ∷ []) [] 0 0 (tick - t) (Some (action_of exceptions (last_step f (fate_of spans place (slice_get spans place))).action)))))
              (no_queue t tick le)
              (last_completes spans place exceptions inputs position name (there source) t 0 (tick - t) f (slice_get spans place) sees))),
        )

    ended_of : (place tick : ℕ) → end_of place ≡ Some tick → is_some (end_of place) ≡ true
    ended_of place tick ended = ap is_some ended

    two_completes : (name : List ℕ) (place tick : ℕ) → end_of place ≡ Some tick → gave_up known place ≡ false → has_two relations.hosts relations.waiting place ≡ true → Told (at_end scene place)
        → EndClaim spans relations is moments are text exceptions place (Some tick) (done_by (working name (there (at_end scene place) ∷ []) (last_work scene place tick)))
    two_completes name place tick ended kept two told =
        let lt = within spans relations is moments are text exceptions place tick ended in
        let last = last_completes_at name place tick ended kept told in
        let same : (last_step (ends (at_end scene place)).failure (fate_at known.fates place)).failure ≡ failed place =
        last_fails spans relations is moments are failed place lt kept (ap is_some ended) ∙ sym (fails_last spans relations is moments are text exceptions place tick ended kept two) in
        (last.0, subst (λ f. CompletesAt exceptions last.0 tick f (done_by (working name (there (at_end scene place) ∷ []) (last_work scene place tick)))) same last.1, λ one. absurd (false≢true (sym one ∙ two)))

    one_completes : (name : List ℕ) (place tick : ℕ) → end_of place ≡ Some tick → gave_up known place ≡ false → has_two relations.hosts relations.waiting place ≡ false
        → ((source : StageId) → In (option_list (begin_work scene place (tick - start_of place) (fails.action_of (thrown (fate_at known.fates place)))).source) source → Told source)
        → EndClaim spans relations is moments are text exceptions place (Some tick)
        (done_by (working name (theirs (option_list (begin_work scene place (tick - start_of place) (fails.action_of (thrown (fate_at known.fates place)))).source)) (begin_work scene place (tick - start_of place) (fails.action_of (thrown (fate_at known.fates place))))))
    one_completes name place tick ended kept one told =
        let stage = working name (theirs (option_list (begin_work scene place (tick - start_of place) (fails.action_of (thrown (fate_at known.fates place)))).source)) (begin_work scene place (tick - start_of place) (fails.action_of (thrown (fate_at known.fates place)))) in (
          Some (start_of place),
          subst (λ f. CompletesAt exceptions (Some (start_of place)) tick f (done_by stage)) (sym (fails_alone spans relations is moments are text exceptions place tick ended kept one))
              (subst (λ n. CompletesAt exceptions (Some (start_of place)) n (thrown (fate_at known.fates place)) (done_by stage)) (tick_up tick (start_of place) 0 (is.forward place tick ended))
              (begun_completes name place (tick - start_of place) (thrown (fate_at known.fates place)) told)),
          λ _. refl,
        )

    kept_completes : (name : List ℕ) (place : ℕ) (end : Option ℕ) → end_of place ≡ end → gave_up known place ≡ false → ((source : StageId) → In (option_list (whole_with scene place end).source) source → Told source)
        → EndClaim spans relations is moments are text exceptions place end (done_by (working name (theirs (option_list (whole_with scene place end).source)) (whole_with scene place end)))
    kept_completes name place None ended kept told = never_completes exceptions inputs position name (start_of place)
    kept_completes name place (Some tick) ended kept told = by_two (has_two relations.hosts relations.waiting place) refl told
      where
        by_two : (b : Bool) → has_two relations.hosts relations.waiting place ≡ b
            → ((source : StageId) → In (option_list (cond b (last_work scene place tick) (begin_work scene place (tick - start_of place) (fails.action_of (thrown (fate_at known.fates place))))).source) source → Told source)
            → EndClaim spans relations is moments are text exceptions place (Some tick)
            (done_by (working name (theirs (option_list (cond b (last_work scene place tick) (begin_work scene place (tick - start_of place) (fails.action_of (thrown (fate_at known.fates place))))).source))
            (cond b (last_work scene place tick) (begin_work scene place (tick - start_of place) (fails.action_of (thrown (fate_at known.fates place)))))))
        by_two true two told = two_completes name place tick ended kept two (told (at_end scene place) (inl refl))
        by_two false one told = one_completes name place tick ended kept one told

    -- of a span that gave calls up the limit comes first
    gave_completes : (name : List ℕ) (place : ℕ) → gave_up known place ≡ true → Told (Limit place) → Told (Answer place)
        → EndClaim spans relations is moments are text exceptions place (end_of place) (done_by (plain_stage position name op.AnyOf (there (Limit place) ∷ there (Answer place) ∷ []) [] 0 0 0 None))
    gave_completes name place gave limit answer =
        let end = limit.claim in
        subst (λ e. EndClaim spans relations is moments are text exceptions place e (done_by (plain_stage position name op.AnyOf (there (Limit place) ∷ there (Answer place) ∷ []) [] 0 0 0 None))) (sym end.1) (
          None,
          any_completes exceptions inputs position name (there (Limit place)) (there (Answer place)) end.0 (failed place) (option_map seen_from answer.completion)
              (end.3.0, limit.seen ∙ ap (option_map seen_from) end.3.1) answer.seen (no_sooner end.0 answer.completion (subst (λ e. IsLater e answer.completion) end.1 answer.claim)),
          λ one. absurd (false≢true (sym one ∙ gave_up_two spans relations is moments are place gave)),
        )
      where
        no_sooner : (tick : ℕ) (completion : Option Done) → IsLater (Some tick) completion → IsNoSooner exceptions inputs tick (option_map seen_from completion)
        no_sooner tick None later = tt
        no_sooner tick (Some done) later = later

    pub whole_step : (place : ℕ) → ((source : StageId) → In (sources_of scene (Whole place)) source → Told source) → Claimed (Whole place) (done_by (stage_of find position (spec_of text exceptions (imported scene (Whole place)))))
    whole_step place told = by_gave (gave_up known place) refl told
      where
        by_gave : (b : Bool) → gave_up known place ≡ b → ((source : StageId) → In (cond b (Limit place ∷ Answer place ∷ []) (option_list (whole_work scene place).source)) source → Told source)
            → EndClaim spans relations is moments are text exceptions place (end_of place) (done_by (stage_of find position (spec_of text exceptions
            (cond b (imported_join scene (Whole place) AnyOf (Limit place ∷ Answer place ∷ [])) (imported_work scene (Whole place) (whole_work scene place))))))
        by_gave true gave told = gave_completes (text (name_of scene (Whole place))) place gave (told (Limit place) (inl refl)) (told (Answer place) (inr (inl refl)))
        by_gave false kept told = kept_completes (text (name_of scene (Whole place))) place (end_of place) refl kept told

    -- ---- of a span that gave calls up

    pub limit_step : (place : ℕ) → gave_up known place ≡ true → ((source : StageId) → In (sources_of scene (Limit place)) source → Told source)
        → Claimed (Limit place) (done_by (stage_of find position (spec_of text exceptions (imported scene (Limit place)))))
    limit_step place gave told =
        let moment = gave_up_end spans relations is moments are failed place gave in
        let ended : end_of place ≡ Some moment.0.tick = tick_of_end (interval_at relations.intervals place) moment.0 moment.1 in
        let sees = sees_closed spans relations is moments are text exceptions inputs (there (Start place)) (Start place) (told (Start place) (inl refl)) tt in
        let ran = run_completes exceptions inputs position (text (name_of scene (Limit place))) (there (Start place)) (start_of place) 0 (unwrap_or (end_of place) 0 - start_of place) (thrown (fate_at known.fates place)) sees in (
          moment.0.tick,
          ended,
          Some (start_of place + 0),
          subst (λ f. CompletesAt exceptions (Some (start_of place + 0)) moment.0.tick f (done_by (stage_of find position (spec_of text exceptions (imported scene (Limit place))))))
              (sym (fails_given spans relations is moments are text exceptions place moment.0.tick ended gave))
              (subst (λ n. CompletesAt exceptions (Some (start_of place + 0)) n (thrown (fate_at known.fates place)) (done_by (stage_of find position (spec_of text exceptions (imported scene (Limit place))))))
              (runs_until (start_of place) (unwrap_or (end_of place) 0) moment.0.tick (ap (λ e. unwrap_or e 0) ended) (is.forward place moment.0.tick ended)) ran),
        )
      where
        runs_until : (s u e : ℕ) → u ≡ e → s ≤ e → s + 0 + (u - s) ≡ e
        runs_until s u e same le = omega arith

    -- ---- what a call came to that was tried again

    has_exception : (failure : Option Exception) → is_some failure ≡ true → (exception : Exception) × (failure ≡ Some exception)
    has_exception None none = absurd (false≢true none)
    has_exception (Some exception) some = (exception, refl)

    call_failed : (call again tick : ℕ) → relations.attempts.next call ≡ Some again → end_of call ≡ Some tick → (exception : Exception) × (failed call ≡ Some exception)
    call_failed call again tick next ended = by_span (slice_get spans call) refl ((tried spans relations is).failed call again next)
      where
        by_span : (found : Option Span) → slice_get spans call ≡ found → span_failed found ≡ true → (exception : Exception) × (failed call ≡ Some exception)
        by_span None none fails = absurd (false≢true fails)
        by_span (Some span) some fails = has_exception (failed call) ((fails_as spans relations is moments are text exceptions call tick ended span some).0 ∙ fails)

    -- the attempt after one came to what the last did
    next_sees : (call again tick : ℕ) (next : Option ℕ) → relations.attempts.next call ≡ Some again → relations.attempts.next again ≡ next → end_of (relations.attempts.last (relations.attempts.first call)) ≡ Some tick
        → Told (cond (is_some next) (Tried again) (Whole again)) → SeesOne exceptions inputs (there (cond (is_some next) (Tried again) (Whole again))) tick (failed (relations.attempts.last (relations.attempts.first call)))
    next_sees call again tick None some none ended told =
        let same : again ≡ relations.attempts.last (relations.attempts.first call) = sym ((tried spans relations is).last again none) ∙ last_same spans relations is call again some in
        let here : end_of again ≡ Some tick = ap end_of same ∙ ended in
        let sees = sees_closed spans relations is moments are text exceptions inputs (there (Whole again)) (Whole again) told (tick, here) in (
          sees.0,
          sees.1 ∙ ap (λ n. Some (record { outcome = outcome_for exceptions (failed again); moment = n; from = sees.0 })) (ap (λ e. unwrap_or e 0) here)
              ∙ ap (λ p. Some (record { outcome = outcome_for exceptions (failed p); moment = tick; from = sees.0 })) same,
        )
    next_sees call again tick (Some other) some next ended told =
        let same : relations.attempts.last (relations.attempts.first again) ≡ relations.attempts.last (relations.attempts.first call) = last_same spans relations is call again some in
        let here : end_of (relations.attempts.last (relations.attempts.first again)) ≡ Some tick = ap end_of same ∙ ended in
        let sees = sees_closed spans relations is moments are text exceptions inputs (there (Tried again)) (Tried again) told (tick, here) in (
          sees.0,
          sees.1 ∙ ap (λ n. Some (record { outcome = outcome_for exceptions (failed (relations.attempts.last (relations.attempts.first again))); moment = n; from = sees.0 })) (ap (λ e. unwrap_or e 0) here)
              ∙ ap (λ p. Some (record { outcome = outcome_for exceptions (failed p); moment = tick; from = sees.0 })) same,
        )

    -- the last attempt has ended
    last_tick : (call again : ℕ) → relations.attempts.next call ≡ Some again → (tick : ℕ) × (end_of (relations.attempts.last (relations.attempts.first call)) ≡ Some tick)
    last_tick call again next =
        let by = tried_by spans relations is call again next in
        let waits = waits_is spans relations is (relations.attempts.last (relations.attempts.first call)) by.caller
        (caller_waits spans relations is (relations.attempts.last (relations.attempts.first call)) by.caller ((last_is spans relations is call).callers ∙ by.callers)) in
        let last = end_exists (end_moment (interval_at relations.intervals (relations.attempts.last (relations.attempts.first call)))) (end_moment (interval_at relations.intervals by.caller)) waits.ends in
        (last.0.tick, tick_of_end (interval_at relations.intervals (relations.attempts.last (relations.attempts.first call))) last.0 last.1)

    tried_with : (name : List ℕ) (call again : ℕ) (found : Option ℕ) → found ≡ Some again → relations.attempts.next call ≡ Some again → Told (Whole call) → Told (end_of_next relations.attempts call found)
        → Claimed (Tried call) (done_by (plain_stage position name op.ExceptionallyCompose (there (Whole call) ∷ []) (there (end_of_next relations.attempts call found) ∷ []) 0 0 0 (Some (action_of exceptions acts.PicksFirst))))
    tried_with name call again None none next whole told = absurd (none-some again none)
    tried_with name call again (Some other) some next whole told =
        let by = tried_by spans relations is call again next in
        let ended : end_of call ≡ Some by.end.tick = tick_of_end (interval_at relations.intervals call) by.end by.ends in
        let last = last_tick call again next in
        let same : other ≡ again = same_Some other again some in
        let exception = call_failed call again by.end.tick next ended in
        let first = sees_closed spans relations is moments are text exceptions inputs (there (Whole call)) (Whole call) whole (by.end.tick, ended) in
        let sees : SeesOne exceptions inputs (there (Whole call)) by.end.tick (Some exception.0) = (
          first.0,
          first.1 ∙ ap (λ n. Some (record { outcome = outcome_for exceptions (failed call); moment = n; from = first.0 })) (ap (λ e. unwrap_or e 0) ended)
              ∙ ap (λ f. Some (record { outcome = outcome_for exceptions f; moment = by.end.tick; from = first.0 })) exception.1,
        ) in
        let inner = next_sees call other last.0 (relations.attempts.next other) (next ∙ ap Some (sym same)) refl last.1 told in
        let le : by.end.tick ≤ last.0 = number_tick call (relations.attempts.last (relations.attempts.first call)) last.0 by.end by.ends last.1 (last_is spans relations is call).ends in
        let composed = compose_completes exceptions inputs position name (there (Whole call)) (there (end_of_next relations.attempts call (Some other))) by.end.tick last.0 exception.0 (failed (relations.attempts.last (relations.attempts.first call))) sees inner le in
        (last.0, last.1, composed.0, composed.1)

    pub tried_step : (call : ℕ) → (again : ℕ) × (relations.attempts.next call ≡ Some again) → ((source : StageId) → In (sources_of scene (Tried call)) source → Told source)
        → Claimed (Tried call) (done_by (stage_of find position (spec_of text exceptions (imported scene (Tried call)))))
    tried_step call (again, next) told =
        tried_with (text (name_of scene (Tried call))) call again (relations.attempts.next call) next next (told (Whole call) (inl refl)) (told (next_attempt known call) (inr (inl refl)))

    -- ---- joins

    pub entry_step : (place count : ℕ) → ((source : StageId) → In (sources_of scene (Entry place count)) source → Told source)
        → Claimed (Entry place count) (done_by (stage_of find position (spec_of text exceptions (imported scene (Entry place count)))))
    entry_step place count told =
        subst (λ o. CompletesAt exceptions None o.tick o.failure (done_by (stage_of find position (spec_of text exceptions (imported scene (Entry place count)))))) (sym (entry_ends spans relations is moments are failed place count))
        (join_completes exceptions inputs position (text (name_of scene (Entry place count))) (theirs (entry_sources scene place count)) (map ends (entry_sources scene place count))
        (sees_all spans relations is moments are text exceptions inputs find (entry_sources scene place count) (entry_closed spans relations is moments are failed place count) told))

    -- ---- what may be pending

    -- a completion, no earlier than is reckoned
    record Ended (place : ℕ) (id : StageId) (completion : Option Completion) : Type 0 where
      pub tick : ℕ
      pub failure : Option Exception
      pub blamed : Option ℕ
      pub seen : completion ≡ Some (record { outcome = outcome_for exceptions failure; moment = tick; from = blamed })
      pub later : lower place id ≤ tick

    abbrev IsReckoned : ℕ → StageId → Option Completion → Type 0
    IsReckoned place id completion = (completion ≡ None) ⊎ Ended place id completion

    closed_reckoned : (place : ℕ) (id : StageId) → Told id → IsEnded id → lower place id ≤ (ends id).tick → IsReckoned place id (inputs (there id))
    closed_reckoned place id told closed le =
        let sees = sees_closed spans relations is moments are text exceptions inputs (there id) id told closed in
        inr (record { tick = (ends id).tick; failure = (ends id).failure; blamed = sees.0; seen = sees.1; later = le })

    whole_reckoned : (place child : ℕ) (end : Option ℕ) (completion : Option Done) → end_of child ≡ end → EndClaim spans relations is moments are text exceptions child end completion → inputs (there (Whole child)) ≡ option_map seen_from completion
        → IsReckoned place (Whole child) (inputs (there (Whole child)))
    whole_reckoned place child None completion ended claim seen = inl (seen ∙ ap (option_map seen_from) claim)
    whole_reckoned place child (Some tick) completion ended claim seen =
        inr (record {
          tick = tick;
          failure = failed child;
          blamed = claim.1.0;
          seen = seen ∙ ap (option_map seen_from) claim.1.1;
          later = le_same (unwrap_or (end_of child) 0) tick (ap (λ e. unwrap_or e 0) ended);
        })

    given_reckoned : (place child : ℕ) (next : Option ℕ) → relations.attempts.next child ≡ next → Told (cond (is_some next) (Tried child) (Whole child)) → IsReckoned place (cond (is_some next) (Tried child) (Whole child)) (inputs (there (cond (is_some next) (Tried child) (Whole child))))
    given_reckoned place child None none told = whole_reckoned place child (end_of child) told.completion refl told.claim told.seen
    given_reckoned place child (Some again) some told =
        let claim = told.claim in
        inr (record {
          tick = claim.0;
          failure = failed (relations.attempts.last (relations.attempts.first child));
          blamed = claim.3.0;
          seen = told.seen ∙ ap (option_map seen_from) claim.3.1;
          later = last_lower child again claim.0 some claim.1;
        })

    join_reckoned : (place k : ℕ) → k < length (All place) → Told (Join place k) → IsReckoned place (Join place k) (inputs (there (Join place k)))
    join_reckoned place k lt told = elim told.claim.may [
      | inl completes ↦
          inr (record {
            tick = completes.0;
            failure = completes.1;
            blamed = completes.2.0;
            seen = told.seen ∙ ap (option_map seen_from) completes.2.1;
            later = le_through (lower place (Join place k)) (ends (Join place k)).tick completes.0
                (ap (λ j. (outcome_at (join_outcomes (own_sight known failed) (All place)) j).tick) (sym (least_is spans relations is moments are failed place k lt)))
                (subst (IsLater (Some (ends (Join place k)).tick)) completes.2.1 told.claim.later);
          })
      | inr waits ↦ inl (told.seen ∙ ap (option_map seen_from) waits.1)
    ]

    piece_reckoned : (place n : ℕ) (id : StageId) → n ≤ length (All place) → Part_of place n id → Told id → IsReckoned place id (inputs (there id))
    piece_reckoned place n id le (inl (inl same)) told =
        subst (λ one. IsReckoned place one (inputs (there one))) (sym same) (closed_reckoned place (Start place) (subst Told same told) tt (le_same (start_of place) (start_of place) refl))
    piece_reckoned place n id le (inl (inr (inl (inl call)))) told =
        closed_reckoned place id told (waited_closed spans relations is moments are failed place id call)
        (le_same (lower place id) (ends id).tick (ap (λ o. o.tick) (base_own spans relations is moments are failed place (join_outcomes (own_sight known failed) (All place)) id (inr (inl call)))))
    piece_reckoned place n id le (inl (inr (inl (inr call)))) told =
        subst (λ one. IsReckoned place one (inputs (there one))) (sym call.is) (given_reckoned place call.child (relations.attempts.next call.child) refl (subst Told call.is told))
    piece_reckoned place n id le (inl (inr (inr (count, worked, same)))) told =
        subst (λ one. IsReckoned place one (inputs (there one))) (sym same) (closed_reckoned place (Work place count) (subst Told same told) tt (le_same (ends (Work place count)).tick (ends (Work place count)).tick refl))
    piece_reckoned place n id le (inr (k, lt, same)) told =
        subst (λ one. IsReckoned place one (inputs (there one))) (sym same) (join_reckoned place k (sooner k n (length (All place)) lt le) (subst Told same told))
      where
        sooner : (a b c : ℕ) → a < b → b ≤ c → a < c
        sooner a b c lt le = omega arith

    -- either one of them is pending, or all have ended
    record AllEnded (place : ℕ) (sources : List StageId) : Type 0 where
      pub actual : List Outcome
      pub sees : SeesAll exceptions inputs (theirs sources) actual
      pub later : latest (map (outcome_of (own_sight known failed) (join_outcomes (own_sight known failed) (All place))) sources) ≤ latest actual

    abbrev IsPending : List StageId → Type 0
    IsPending sources = (source : StageId) × In sources source × (inputs (there source) ≡ None)

    scan : (place : ℕ) (sources : List StageId) → ((source : StageId) → In sources source → IsReckoned place source (inputs (there source))) → IsPending sources ⊎ AllEnded place sources
    scan place [] each = inr (record { actual = []; sees = tt; later = le_same 0 0 refl })
    scan place (source ∷ sources) each = by_both (each source (inl refl)) (scan place sources (λ other here. each other (inr here)))
      where
        greater : (a b c d : ℕ) → a ≤ b → c ≤ d → max a c ≤ max b d
        greater a b c d one two = omega arith

        by_both : IsReckoned place source (inputs (there source)) → IsPending sources ⊎ AllEnded place sources → IsPending (source ∷ sources) ⊎ AllEnded place (source ∷ sources)
        by_both (inl none) rest = inl (source, inl refl, none)
        by_both (inr ended) (inl (other, here, none)) = inl (other, inr here, none)
        by_both (inr ended) (inr more) = inr (record {
          actual = record { tick = ended.tick; failure = ended.failure } ∷ more.actual;
          sees = ((ended.blamed, ended.seen), more.sees);
          later = greater (lower place source) ended.tick (latest (map (outcome_of (own_sight known failed) (join_outcomes (own_sight known failed) (All place))) sources)) (latest more.actual) ended.later more.later;
        })

    in_theirs : (sources : List StageId) (source : StageId) → In sources source → In (theirs sources) (there source)
    in_theirs sources source here =
        in-mapped (λ name. unwrap_or (find name) 0) (map text (map (name_of scene) sources)) (text (name_of scene source)) (in-mapped text (map (name_of scene) sources) (name_of scene source) (in-mapped (name_of scene) sources source here))

    abbrev joining : ℕ → ℕ → Stage
    joining place count = plain_stage position (text (name_of scene (Join place count))) op.AllOf (theirs (join_sources scene place count)) [] 0 0 0 None

    closed_join : (place count : ℕ) → Each IsEnded (join_sources scene place count) → ends (Join place count) ≡ join_outcome (map ends (join_sources scene place count))
        → ((source : StageId) → In (join_sources scene place count) source → Told source) → JoinClaim spans relations is moments are text exceptions place count (done_by (joining place count))
    closed_join place count closed same told =
        let completes : CompletesAt exceptions None (ends (Join place count)).tick (ends (Join place count)).failure (done_by (joining place count)) =
        subst (λ o. CompletesAt exceptions None o.tick o.failure (done_by (joining place count))) (sym same)
        (join_completes exceptions inputs position (text (name_of scene (Join place count))) (theirs (join_sources scene place count)) (map ends (join_sources scene place count))
        (sees_all spans relations is moments are text exceptions inputs find (join_sources scene place count) closed told)) in
        record {
          sure = λ _. completes;
          may = inl ((ends (Join place count)).tick, (ends (Join place count)).failure, completes);
          later = subst (IsLater (Some (ends (Join place count)).tick)) (sym completes.1) (le_same (ends (Join place count)).tick (ends (Join place count)).tick refl);
        }

    -- one that is not sure is of a span that gave calls up
    unsure_gave : (place count : ℕ) (sources : List StageId) → place < length relations.intervals → length (sure_joins spans relations is moments are failed place) ≤ nth place count → slice_get (All place) (nth place count) ≡ Some sources → gave_up known place ≡ true
    unsure_gave place count sources lt ge at = by_gave (gave_up known place) refl
      where
        never : (a b c : ℕ) → a < b → b ≡ c → c ≤ a → ⊥
        never a b c lt same le = omega arith

        by_gave : (b : Bool) → gave_up known place ≡ b → b ≡ true
        by_gave true gave = refl
        by_gave false kept =
            absurd (never (nth place count) (length (All place)) (length (sure_joins spans relations is moments are failed place)) (slice_get_within (All place) (nth place count) sources at)
            (ap length (all_sure spans relations is moments are failed place lt kept)) ge)

    pending_join : (place count : ℕ) → gave_up known place ≡ true → IsPending (join_sources scene place count) → ((length (sure_joins spans relations is moments are failed place)) ≤ nth place count)
        → JoinClaim spans relations is moments are text exceptions place count (done_by (joining place count))
    pending_join place count gave (source, here, none) ge =
        let waits : done_by (joining place count) ≡ None =
        join_waits exceptions inputs position (text (name_of scene (Join place count))) (theirs (join_sources scene place count)) (there source) (in_theirs (join_sources scene place count) source here) none in
        record {
          sure = λ sure. absurd (never (nth place count) (length (sure_joins spans relations is moments are failed place)) sure ge);
          may = inr (gave, waits);
          later = subst (IsLater (Some (ends (Join place count)).tick)) (sym waits) tt;
        }
      where
        never : (a b : ℕ) → a < b → b ≤ a → ⊥
        never a b lt le = omega arith

    ended_join : (place count : ℕ) → AllEnded place (join_sources scene place count) → ((length (sure_joins spans relations is moments are failed place)) ≤ nth place count)
        → JoinClaim spans relations is moments are text exceptions place count (done_by (joining place count))
    ended_join place count ended ge =
        let completes = join_completes exceptions inputs position (text (name_of scene (Join place count))) (theirs (join_sources scene place count)) ended.actual ended.sees in
        record {
          sure = λ sure. absurd (never (nth place count) (length (sure_joins spans relations is moments are failed place)) sure ge);
          may = inl ((join_outcome ended.actual).tick, (join_outcome ended.actual).failure, completes);
          later = subst (IsLater (Some (ends (Join place count)).tick)) (sym completes.1)
              (le_through (ends (Join place count)).tick (latest (map (outcome_of (own_sight known failed) (join_outcomes (own_sight known failed) (All place))) (join_sources scene place count))) (latest ended.actual)
              (ap (λ o. o.tick) (join_ends_own spans relations is moments are failed place count)) ended.later);
        }
      where
        never : (a b : ℕ) → a < b → b ≤ a → ⊥
        never a b lt le = omega arith

    unsure_join : (place count : ℕ) → place < length relations.intervals → ((length (sure_joins spans relations is moments are failed place)) ≤ nth place count)
        → ((source : StageId) → In (join_sources scene place count) source → Told source) → JoinClaim spans relations is moments are text exceptions place count (done_by (joining place count))
    unsure_join place count lt ge told = elim (scan place (join_sources scene place count) (λ source here. reckon source here)) [
      | inl pending ↦ pending_join place count (unsure_gave place count (join_sources scene place count) lt ge (all_at pending.0 pending.1)) pending ge
      | inr ended ↦ ended_join place count ended ge
    ]
      where
        all_at : (source : StageId) → In (join_sources scene place count) source → slice_get (All place) (nth place count) ≡ Some (join_sources scene place count)
        all_at source here = join_place spans relations is moments are failed place count source (slice_get (own_joins spans relations is moments are failed place) count) refl here

        up_to : (a b : ℕ) → a < b → a ≤ b
        up_to a b lt = omega arith

        reckon : (source : StageId) → In (join_sources scene place count) source → IsReckoned place source (inputs (there source))
        reckon source here =
            piece_reckoned place (nth place count) source (up_to (nth place count) (length (All place)) (slice_get_within (All place) (nth place count) (join_sources scene place count) (all_at source here)))
            (each-in (Part_of place (nth place count)) (join_sources scene place count)
            (made-at (joins_of.Holding place) (HadBase relations (had relations moments place).works place) 0 (nth place count) (nth place count) (All place) (join_sources scene place count) (omega arith)
            (joins_are_made spans relations is moments are failed place lt) (all_at source here)) source here) (told source here)

    pub join_step : (place count : ℕ) → ((source : StageId) → In (sources_of scene (Join place count)) source → Told source)
        → Claimed (Join place count) (done_by (stage_of find position (spec_of text exceptions (imported scene (Join place count)))))
    join_step place count told = elim (cases_lt place (length relations.intervals)) [
      | inl lt ↦ elim (cases_lt (nth place count) (length (sure_joins spans relations is moments are failed place))) [
        | inl sure ↦ closed_join place count (join_closed spans relations is moments are failed place count lt sure) (join_ends spans relations is moments are failed place count lt sure) told
        | inr unsure ↦ unsure_join place count lt unsure told
      ]
      | inr ge ↦
          let none : join_sources scene place count ≡ [] = no_join spans relations is moments are failed place count ge in
          closed_join place count (subst (Each IsEnded) (sym none) tt)
          (join_ends_own spans relations is moments are failed place count
          ∙ ap (λ those. join_outcome (map (outcome_of (own_sight known failed) (join_outcomes (own_sight known failed) (All place))) those)) none
          ∙ sym (ap (λ those. join_outcome (map ends those)) none)) told
    ]

    -- ---- the end with answers

    long_enough : (e m t x : ℕ) → t ≤ m → e ≤ m + max x (e - t)
    long_enough e m t x le = omega arith

    answer_ends : (place tick : ℕ) (answer : Answered) → place < length relations.intervals → (had_at known.hads place).answer ≡ Some answer → (answer.is_open ≡ true → inputs (there answer.stage) ≡ None) → Told answer.stage
        → IsLater (Some tick) (done_by (working (text (name_of scene (Answer place))) (there answer.stage ∷ []) (answer_from scene (start_of place) (Some answer) (Some tick))))
    answer_ends place tick answer lt here waits told = by_seen (inputs (there answer.stage)) refl
      where
        well : Part_of place (length (had relations moments place).joins) answer.stage
        well =
            subst (λ found. IfSome found (λ those. Part_of place (length (had relations moments place).joins) those.stage)) (ap (λ those. those.answer) (sym (had_is spans relations is moments are failed place lt)) ∙ here)
            (held_well relations place moments are).answer

        fits : length (had relations moments place).joins ≤ length (All place)
        fits = le_through (length (had relations moments place).joins) (length (own_joins spans relations is moments are failed place)) (length (All place))
            (ap (λ those. length those.joins) (sym (had_is spans relations is moments are failed place lt)))
            (extends-longer (own_joins spans relations is moments are failed place) (All place) (handed_join (list_at (all_handed known failed) place), refl))

        tick_is : (b : Bool) → answer.is_open ≡ b → b ≡ false → answer_tick answer.is_open (had_outcome scene answer.stage) tick ≡ lower place answer.stage
        tick_is b opens closed = ap (λ o. answer_tick o (had_outcome scene answer.stage) tick) (opens ∙ closed) ∙ piece_whole place (length (had relations moments place).joins) answer.stage lt fits well

        by_tick : (completion : Completion) → inputs (there answer.stage) ≡ Some completion → (b : Bool) → answer.is_open ≡ b → tick ≤ completion.moment + max (answer.since - start_of place) (tick - answer_tick answer.is_open (had_outcome scene answer.stage) tick)
        by_tick completion seen true opens = absurd (none-some completion (sym (waits opens) ∙ seen))
        by_tick completion seen false opens = elim (piece_reckoned place (length (had relations moments place).joins) answer.stage fits well told) [
          | inl none ↦ absurd (none-some completion (sym none ∙ seen))
          | inr ended ↦
              let same : ended.tick ≡ completion.moment = ap (λ c. c.moment) (same_Some _ completion (sym ended.seen ∙ seen)) in
              subst (λ t. tick ≤ completion.moment + max (answer.since - start_of place) (tick - t)) (sym (tick_is false opens refl))
              (long_enough tick completion.moment (lower place answer.stage) (answer.since - start_of place) (subst (λ n. lower place answer.stage ≤ n) same ended.later))
        ]

        by_seen : (found : Option Completion) → inputs (there answer.stage) ≡ found
            → IsLater (Some tick) (done_by (working (text (name_of scene (Answer place))) (there answer.stage ∷ []) (answer_from scene (start_of place) (Some answer) (Some tick))))
        by_seen None none =
            subst (IsLater (Some tick)) (sym (watch_waits exceptions inputs position (text (name_of scene (Answer place))) (there answer.stage) (max (answer.since - start_of place) (tick - answer_tick answer.is_open (had_outcome scene answer.stage) tick)) none)) tt
        by_seen (Some completion) seen =
            let done = watch_ends exceptions inputs position (text (name_of scene (Answer place))) (there answer.stage) (max (answer.since - start_of place) (tick - answer_tick answer.is_open (had_outcome scene answer.stage) tick)) completion seen in
            subst (IsLater (Some tick)) (sym done.1)
            (through tick (completion.moment + max (answer.since - start_of place) (tick - answer_tick answer.is_open (had_outcome scene answer.stage) tick)) done.0.moment (by_tick completion seen answer.is_open refl) done.2)
          where
            through : (a b c : ℕ) → a ≤ b → b ≤ c → a ≤ c
            through a b c one two = omega arith

    pub answer_step : (place : ℕ) → gave_up known place ≡ true → ((answer : Answered) → (had_at known.hads place).answer ≡ Some answer → answer.is_open ≡ true → inputs (there answer.stage) ≡ None)
        → ((source : StageId) → In (sources_of scene (Answer place)) source → Told source) → Claimed (Answer place) (done_by (stage_of find position (spec_of text exceptions (imported scene (Answer place)))))
    answer_step place gave waits told =
        by_both (had_at known.hads place).answer refl (end_of place) refl told
      where
        by_both : (answer : Option Answered) → (had_at known.hads place).answer ≡ answer → (end : Option ℕ) → end_of place ≡ end
            → ((source : StageId) → In (option_list (answer_from scene (start_of place) answer end).source) source → Told source)
            → IsLater end (done_by (working (text (name_of scene (Answer place))) (theirs (option_list (answer_from scene (start_of place) answer end).source)) (answer_from scene (start_of place) answer end)))
        by_both None none end ended told = absurd (false≢true (sym (ap is_some none) ∙ gave))
        by_both (Some answer) some None ended told = absurd (none_ended ended)
          where
            none_ended : end_of place ≡ None → ⊥
            none_ended none = let moment = gave_up_end spans relations is moments are failed place gave in none-some moment.0.tick (sym none ∙ tick_of_end (interval_at relations.intervals place) moment.0 moment.1)
        by_both (Some answer) some (Some tick) ended told = answer_ends place tick answer (within spans relations is moments are text exceptions place tick ended) some (waits answer some) (told answer.stage (inl refl))
