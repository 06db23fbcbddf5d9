-- Each stage of a trace's graph completes as its span ended.
use Rattle.std.proofs.Common.{◌≡◌, ℕ, suc, zero, ◌+◌, ◌<◌, inl, inr, List, [], ◌∷◌, ◌++◌, Bool, true, false, cond, length, map, Option, Some, None, refl, sym, ap, ◌∙◌, subst, arith}
use Rattle.std.specs.Prelude.{Contains, is_none, is_some, option_to_list, slice_get, unwrap_or, Ok}
use Rattle.std.specs.Option.{option_map}
use Rattle.std.proofs.lemmas.Bool.{cases_lt, false≢true}
use Rattle.std.proofs.lemmas.Option.{none-some, slice_get_within}
use Rattle.act_expr.specs.declared.outcome.Mode.TheVariants.{Computed}
use Rattle.stage_graph.specs.Loading.{first_refused, loaded, stages_from}
use Rattle.stage_graph.specs.Names.{place_of, places_of, stage_of}
use Rattle.stage_graph.specs.Plain.{PlainGraph, feeds_of_place, stage_at}
use Rattle.stage_graph.specs.Walk.{IsRanked, Walk, step_at}
use Rattle.stage_graph.specs.declared.stage.Spec.{Spec}
use Rattle.stage_graph.specs.declared.stage.Stage.{Stage}
use Rattle.stage_ops.specs.Evaluation.{at, on_states}
use Rattle.stage_ops.specs.Java.{java_step}
use Rattle.stage_ops.specs.States.{Completion, pending, seen, seen_at}
use Rattle.stage_ops.specs.declared.state.Done.{Done}
use Rattle.stage_ops.specs.declared.state.State.{State}
use Rattle.trace_relations.specs.Moments.{interval_at}
use Rattle.trace_relations.specs.Relations.{PlainRelations}
use Rattle.trace_relations.specs.declared.as_told.AsTold.{AsTold}
use Rattle.trace_spans.specs.declared.span.Span.{Span}
use Rattle.trace_stages.specs.Beginnings.{option_list}
use Rattle.trace_stages.specs.Called.{is_open}
use Rattle.trace_stages.specs.Failures.{failures_by}
use Rattle.trace_stages.specs.Known.{PlainKnown, gave_up, had_at}
use Rattle.trace_stages.specs.Moments.{AreMoments, At}
use Rattle.trace_stages.specs.Naming.{PlainStage, imported, imported_join, imported_work, name_of}
use Rattle.trace_stages.specs.Order.{join_sources}
use Rattle.trace_stages.specs.Scene.{PlainScene, list_at}
use Rattle.trace_stages.specs.StagesOf.{had, known_of}
use Rattle.trace_stages.specs.TwoStages.{has_two}
use Rattle.trace_stages.specs.Visits.{visits}
use Rattle.trace_stages.specs.Works.{answer_from, whole_with, whole_work}
use Rattle.trace_stages.specs.declared.stage.Exception.{Exception}
use Rattle.trace_stages.specs.declared.stage.Op.TheVariants.{AnyOf}
use Rattle.trace_stages.specs.declared.stage.StageName.{StageName}
use Rattle.trace_stages.specs.declared.walk.holding.Answer.{Answer as Answered}
use Rattle.trace_stages.specs.declared.walk.stage_id.StageId.{StageId}
use Rattle.trace_stages.specs.declared.walk.stage_id.StageId.TheVariants.{Start, Whole, Entry, Join, Work, Tried, Limit, Answer}
use Rattle.trace_laws.specs.Circles.{HaveSources, IsNamedBy, sources_of, trace_scene, trace_stages}
use Rattle.trace_laws.specs.Completes.{CompletesAt, spec_of}
use Rattle.trace_laws.specs.Faithful.{CompletesAs, EndsAs}
use Rattle.trace_laws.proofs.Answering.{answer_step, entry_step, join_step, limit_step, start_step, tried_step, whole_step, work_step}
use Rattle.trace_laws.proofs.Claiming.{Claim, EndClaim, IsTold, at_name, comes, fails_as, within}
use Rattle.trace_laws.proofs.Each.{Each, In, contains_in, in-at, in-each, in-mapped, in_contains}
use Rattle.trace_laws.proofs.Having.{answer_all, open_all}
use Rattle.trace_laws.proofs.Keys.{had_is}
use Rattle.trace_laws.proofs.Lesser.{gave_up_end}
use Rattle.trace_laws.proofs.Making.{no_had}
use Rattle.trace_laws.proofs.Putting.{HasReason}
use Rattle.trace_laws.proofs.Ranking.{at_spec, imported_sources, length_mapped, loaded_is, no_circle_among, source_at, stages_at, stages_count}
use Rattle.trace_laws.proofs.Relations.{IsFamily}
use Rattle.trace_laws.proofs.Sourcing.{gave_up_two, reason_of}
use Rattle.trace_laws.proofs.Stepping.{join_sources_done}
use Rattle.trace_laws.proofs.Ticking.{tick_of_end}
use Rattle.trace_laws.proofs.Trying.{tried_by}

-- on a ranked graph what is evaluated meets each place's equation
abbrev pub EachIsMet : Type 0
EachIsMet =
    (places : List (Option Stage)) → IsRanked places → (place : ℕ)
    → at (java_step Computed) places place ≡ step_at pending (on_states (java_step Computed)) (at (java_step Computed) places) (stage_at places place)

module _ {as_told : AsTold} (spans : List Span) (relations : PlainRelations) (is : IsFamily as_told spans relations) (moments : List At) (are : AreMoments relations.intervals moments) (text : StageName → List ℕ) (exceptions : Exception → List ℕ) where
  abbrev known : PlainKnown
  known = known_of spans relations as_told moments

  abbrev failed : ℕ → Option Exception
  failed = failures_by (known_of spans relations as_told moments) (visits relations.parents relations.order)

  abbrev scene : PlainScene
  scene = trace_scene spans relations as_told moments

  abbrev stages : List StageId
  stages = trace_stages spans relations as_told moments

  abbrev Claimed : StageId → Option Done → Type 0
  Claimed id completion = Claim spans relations is moments are text exceptions id completion

  abbrev end_of : ℕ → Option ℕ
  end_of place = (interval_at relations.intervals place).end

  named : (stage : PlainStage) → IsNamedBy text stage (spec_of text exceptions stage)
  named stage = record { name = refl; sources = refl; inner = refl }

  abbrev specs : List Spec
  specs = map (spec_of text exceptions) (map (imported (trace_scene spans relations as_told moments)) (trace_stages spans relations as_told moments))

  abbrev Places : List (Option Stage)
  Places = stages_from (place_of specs) 0 specs

  abbrev states : ℕ → State
  states = at (java_step Computed) Places

  abbrev there : StageId → ℕ
  there source = at_name spans relations is moments are text exceptions (place_of specs) source

  abbrev Told : StageId → Type 0
  Told source = IsTold spans relations is moments are text exceptions (seen_at states) (at_name spans relations is moments are text exceptions (place_of specs) source) source

  abbrev stage_for : ℕ → StageId → Stage
  stage_for place id = stage_of (place_of specs) (0 + place) (spec_of text exceptions (imported scene id))

  map_append : {X Y : Type 0} (f : X → Y) (xs ys : List X) → map f xs ++ map f ys ≡ map f (xs ++ ys)
  map_append f [] ys = refl
  map_append f (x ∷ xs) ys = ap (λ rest. f x ∷ rest) (map_append f xs ys)

  -- the feeds of a stage are the places of what it waits for
  feeds_are : (place : ℕ) (id : StageId) → feeds_of_place (Some (stage_for place id)) ≡ places_of (place_of specs) (map text (map (name_of scene) (sources_of scene id)))
  feeds_are place id =
      map_append (λ name. unwrap_or (place_of specs name) 0) (map text (imported scene id).sources) (map text (option_to_list (imported scene id).inner))
      ∙ ap (map (λ name. unwrap_or (place_of specs name) 0)) (map_append text (imported scene id).sources (option_to_list (imported scene id).inner) ∙ ap (map text) (imported_sources scene id))

  source_feeds : (place : ℕ) (id source : StageId) → In (sources_of scene id) source → Contains (feeds_of_place (Some (stage_for place id))) (there source)
  source_feeds place id source here =
      in_contains (feeds_of_place (Some (stage_for place id))) (there source)
      (subst (λ feeds. In feeds (there source)) (sym (feeds_are place id))
      (in-mapped (λ name. unwrap_or (place_of specs name) 0) (map text (map (name_of scene) (sources_of scene id))) (text (name_of scene source))
      (in-mapped text (map (name_of scene) (sources_of scene id)) (name_of scene source) (in-mapped (name_of scene) (sources_of scene id) source here))))

  -- ---- the whole graph

  module _ (have : HaveSources (trace_scene spans relations as_told moments) (trace_stages spans relations as_told moments)) (meets : EachIsMet)
      (none : first_refused (place_of specs) 0 specs ≡ None) (ranked : IsRanked (stages_from (place_of specs) 0 specs)) where
    stage_is : (k : ℕ) (id : StageId) → slice_get stages k ≡ Some id → stage_at Places k ≡ Some (stage_for k id)
    stage_is k id here = stages_at (place_of specs) 0 specs k ∙ ap (option_map (stage_of (place_of specs) (0 + k))) (at_spec scene stages have text (spec_of text exceptions) named k id here)

    state_is : (k : ℕ) (id : StageId) → slice_get stages k ≡ Some id → states k ≡ java_step Computed (stage_for k id) (seen_at states)
    state_is k id here = meets Places ranked k ∙ ap (step_at pending (on_states (java_step Computed)) states) (stage_is k id here)

    -- a stage stands at the place of its name
    stands_there : (id : StageId) → In stages id → slice_get stages (there id) ≡ Some id
    stands_there id here =
        let found = source_at scene stages have text (spec_of text exceptions) named none id here in
        ap (λ j. slice_get stages (unwrap_or j 0)) found.2 ∙ found.1

    source_in : (id source : StageId) → In stages id → In (sources_of scene id) source → In stages source
    source_in id source here among = contains_in stages source (have id source (in_contains stages id here) (in_contains (sources_of scene id) source among))

    -- ---- an open call is waited for

    -- it has completed
    abbrev IsSeen : StageId → Type 0
    IsSeen id = In stages id × ((completion : Completion) × (seen_at states (there id) ≡ Some completion))

    done_seen : (completion : Option Done) (last : Completion) → option_map seen completion ≡ Some last → (done : Done) × (completion ≡ Some done)
    done_seen None last none = absurd (none-some last none)
    done_seen (Some done) last some = (done, refl)

    -- each source of a join that has completed has
    join_seen : (place count : ℕ) → IsSeen (Join place count) → Each IsSeen (join_sources scene place count)
    join_seen place count (here, (completion, sees)) = in-each IsSeen (join_sources scene place count) (λ source among.
        let state = state_is (there (Join place count)) (Join place count) (stands_there (Join place count) here) in
        let done = done_seen (java_step Computed (stage_for (there (Join place count)) (Join place count)) (seen_at states)).done completion (ap (λ s. option_map seen s.done) (sym state) ∙ sees) in (
          source_in (Join place count) source here among,
          join_sources_done exceptions (seen_at states) (0 + there (Join place count)) (text (name_of scene (Join place count))) (places_of (place_of specs) (map text (map (name_of scene) (join_sources scene place count)))) (there source) done.0
              (in-mapped (λ name. unwrap_or (place_of specs name) 0) (map text (map (name_of scene) (join_sources scene place count))) (text (name_of scene source))
              (in-mapped text (map (name_of scene) (join_sources scene place count)) (name_of scene source) (in-mapped (name_of scene) (join_sources scene place count) source among))) done.1,
        ))

    open_none : (place : ℕ) → is_open relations place ≡ true → end_of place ≡ None
    open_none place opens = by_end (end_of place) opens
      where
        by_end : (end : Option ℕ) → is_none end ≡ true → end ≡ None
        by_end None none = refl
        by_end (Some tick) none = absurd (false≢true none)

    -- an open span never completes
    open_pending : (place : ℕ) → end_of place ≡ None → gave_up known place ≡ false → (k : ℕ) → (java_step Computed (stage_for k (Whole place)) (seen_at states)).done ≡ None
    open_pending place none kept k =
        ap (λ b. (java_step Computed (stage_of (place_of specs) (0 + k) (spec_of text exceptions (cond b (imported_join scene (Whole place) AnyOf (Limit place ∷ Answer place ∷ [])) (imported_work scene (Whole place) (whole_work scene place))))) (seen_at states)).done) kept
        ∙ ap (λ end. (java_step Computed (stage_of (place_of specs) (0 + k) (spec_of text exceptions (imported_work scene (Whole place) (whole_with scene place end)))) (seen_at states)).done) none

    open_kept : (place : ℕ) → end_of place ≡ None → gave_up known place ≡ false
    open_kept place none = by_gave (gave_up known place) refl
      where
        by_gave : (b : Bool) → gave_up known place ≡ b → b ≡ false
        by_gave false kept = refl
        by_gave true gave = let moment = gave_up_end spans relations is moments are failed place gave in absurd (none-some moment.0.tick (sym none ∙ tick_of_end (interval_at relations.intervals place) moment.0 moment.1))

    open_unseen : (place : ℕ) (next : Option ℕ) → relations.attempts.next place ≡ next → end_of place ≡ None → IsSeen (cond (is_some next) (Tried place) (Whole place)) → ⊥
    open_unseen place (Some again) some none shown =
        let by = tried_by spans relations is place again some in
        none-some by.end.tick (sym none ∙ tick_of_end (interval_at relations.intervals place) by.end by.ends)
    open_unseen place None once none (here, (completion, sees)) =
        let state = state_is (there (Whole place)) (Whole place) (stands_there (Whole place) here) in
        none-some completion (ap (λ done. option_map seen done) (sym (open_pending place none (open_kept place none) (there (Whole place)))) ∙ ap (λ s. option_map seen s.done) (sym state) ∙ sees)

    -- so what a span would have had with an open answer is pending
    answer_waits : (place : ℕ) → In stages (Answer place) → gave_up known place ≡ true → (answer : Answered) → (had_at known.hads place).answer ≡ Some answer → answer.is_open ≡ true → seen_at states (there answer.stage) ≡ None
    answer_waits place here gave answer is_answer opens = by_seen (seen_at states (there answer.stage)) refl
      where
        moment : (tick : ℕ) × (end_of place ≡ Some tick)
        moment = let end = gave_up_end spans relations is moments are failed place gave in (end.0.tick, tick_of_end (interval_at relations.intervals place) end.0 end.1)

        lt : place < length relations.intervals
        lt = within spans relations is moments are text exceptions place moment.0 moment.1

        among : In (sources_of scene (Answer place)) answer.stage
        among =
            subst (λ found. In (option_list (answer_from scene (interval_at relations.intervals place).start found (end_of place)).source) answer.stage) (sym is_answer)
            (subst (λ end. In (option_list (answer_from scene (interval_at relations.intervals place).start (Some answer) end).source) answer.stage) (sym moment.1) (inl refl))

        own : (had_at known.hads place).joins ≡ (had relations moments place).joins
        own = ap (λ those. those.joins) (had_is spans relations is moments are failed place lt)

        down : (k : ℕ) (sources : List StageId) → slice_get (had relations moments place).joins k ≡ Some sources → IsSeen (Join place k) → Each IsSeen sources
        down k sources at shown =
            let same : join_sources scene place k ≡ sources = ap (λ those. unwrap_or (slice_get those k) (list_at scene.handed place)) own ∙ ap (λ found. unwrap_or found (list_at scene.handed place)) at in
            subst (Each IsSeen) same (join_seen place k shown)

        never : (completion : Completion) → seen_at states (there answer.stage) ≡ Some completion → ⊥
        never completion sees =
            let same : (had relations moments place).answer ≡ Some answer = ap (λ those. those.answer) (sym (had_is spans relations is moments are failed place lt)) ∙ is_answer in
            let all = answer_all relations place IsSeen moments are answer same down (source_in (Answer place) answer.stage here among, (completion, sees)) in
            let one = open_all relations place IsSeen moments all.0 (sym all.1 ∙ opens) in
            open_unseen one.0 (relations.attempts.next one.0) refl (open_none one.0 one.1) one.2

        by_seen : (found : Option Completion) → seen_at states (there answer.stage) ≡ found → found ≡ None
        by_seen None none = refl
        by_seen (Some completion) some = absurd (never completion some)

    -- ---- each completes as is claimed

    work_within : (place count : ℕ) → HasReason scene (Work place count) → place < length relations.intervals
    work_within place count (work, at) = elim (cases_lt place (length relations.intervals)) [
      | inl lt ↦ lt
      | inr ge ↦ absurd (none-some work (ap (λ those. slice_get those.works count) (sym (no_had spans relations is moments are failed place ge)) ∙ at))
    ]

    step : (k : ℕ) (id : StageId) → In stages id → HasReason scene id → ((source : StageId) → In (sources_of scene id) source → Told source) → Claimed id (java_step Computed (stage_for k id) (seen_at states)).done
    step k (Start place) here reason told = start_step spans relations is moments are text exceptions (seen_at states) (place_of specs) (0 + k) place told
    step k (Whole place) here reason told = whole_step spans relations is moments are text exceptions (seen_at states) (place_of specs) (0 + k) place told
    step k (Work place count) here reason told = work_step spans relations is moments are text exceptions (seen_at states) (place_of specs) (0 + k) place count reason (work_within place count reason) told
    step k (Tried place) here reason told = tried_step spans relations is moments are text exceptions (seen_at states) (place_of specs) (0 + k) place reason told
    step k (Limit place) here reason told = limit_step spans relations is moments are text exceptions (seen_at states) (place_of specs) (0 + k) place reason told
    step k (Answer place) here reason told = answer_step spans relations is moments are text exceptions (seen_at states) (place_of specs) (0 + k) place reason (answer_waits place here reason) told
    step k (Entry place count) here reason told = entry_step spans relations is moments are text exceptions (seen_at states) (place_of specs) (0 + k) place count told
    step k (Join place count) here reason told = join_step spans relations is moments are text exceptions (seen_at states) (place_of specs) (0 + k) place count told

    claims : (levels k : ℕ) (id : StageId) → slice_get stages k ≡ Some id → (Walk Places levels k → ⊥) → Claimed id (states k).done
    claims zero k id here short =
        let count : length Places ≡ length stages = stages_count (place_of specs) 0 specs ∙ length_mapped (spec_of text exceptions) (map (imported scene) stages) ∙ length_mapped (imported scene) stages in
        absurd (short (fits k (length stages) (length Places) (slice_get_within stages k id here) count))
      where
        fits : (a b c : ℕ) → a < b → c ≡ b → a < c
        fits a b c lt same = omega arith
    claims (suc levels) k id here short =
        let stands : In stages id = in-at stages k id here in
        subst (λ state. Claimed id state.done) (sym (state_is k id here))
        (step k id stands (reason_of spans relations is moments are id stands) (λ source among.
        record {
          completion = (states (there source)).done;
          claim = claims levels (there source) source (stands_there source (source_in id source stands among))
              (λ walk. short (there source, subst (λ found. Contains (feeds_of_place found) (there source)) (sym (stage_is k id here)) (source_feeds k id source among), walk));
          seen = refl;
        }))

    pub claim : (k : ℕ) (id : StageId) → slice_get stages k ≡ Some id → Claimed id (states k).done
    claim k id here = claims (length Places) k id here (ranked k)

  -- ---- and so as the law says

  end_as : (place : ℕ) (two : Bool) (end : Option ℕ) (completion : Option Done) → end_of place ≡ end → (two ≡ false → has_two relations.hosts relations.waiting place ≡ false) → EndClaim spans relations is moments are text exceptions place end completion
      → EndsAs exceptions spans place (interval_at relations.intervals place) two end completion
  end_as place two None completion ended same claim = claim
  end_as place two (Some tick) completion ended same claim =
      (claim.0, failed place, claim.1, (λ one. claim.2 (same one)), fails_as spans relations is moments are text exceptions place tick ended)

  ends_at : (place tick : ℕ) (two : Bool) (start : Option ℕ) (completion : Option Done) → end_of place ≡ Some tick → two ≡ true → CompletesAt exceptions start tick (failed place) completion
      → EndsAs exceptions spans place (interval_at relations.intervals place) two (end_of place) completion
  ends_at place tick two start completion ended both completes =
      subst (λ end. EndsAs exceptions spans place (interval_at relations.intervals place) two end completion) (sym ended)
      (start, failed place, completes, (λ one. absurd (false≢true (sym one ∙ both))), fails_as spans relations is moments are text exceptions place tick ended)

  pub as_claimed : (id : StageId) (completion : Option Done) → HasReason scene id → Claimed id completion → CompletesAs exceptions spans known id completion
  as_claimed (Start place) completion reason claim = claim
  as_claimed (Whole place) completion reason claim = end_as place (known.has_two place) (end_of place) completion refl (λ one. one) claim
  as_claimed (Work place count) completion reason claim = claim
  as_claimed (Tried place) completion reason (tick, ended, start, completes) = ends_at (relations.attempts.last (relations.attempts.first place)) tick true start completion ended refl completes
  as_claimed (Limit place) completion reason (tick, ended, start, completes) = ends_at place tick (known.has_two place) start completion ended (gave_up_two spans relations is moments are place reason) completes
  as_claimed (Answer place) completion reason claim = claim
  as_claimed (Entry place count) completion reason claim =
      ((comes spans relations is moments are text exceptions (Entry place count)).tick, (comes spans relations is moments are text exceptions (Entry place count)).failure, claim)
  as_claimed (Join place count) completion reason claim = claim.may

-- where what stages wait for are stages, each completes as its span ended
pub faithful_among : (as_told : AsTold) (spans : List Span) (relations : PlainRelations) (is : IsFamily as_told spans relations) (moments : List At) (are : AreMoments relations.intervals moments)
    → HaveSources (trace_scene spans relations as_told moments) (trace_stages spans relations as_told moments) → EachIsMet → (text : StageName → List ℕ) (exceptions : Exception → List ℕ) (graph : PlainGraph)
    → loaded Computed (map (spec_of text exceptions) (map (imported (trace_scene spans relations as_told moments)) (trace_stages spans relations as_told moments))) ≡ Ok graph
    → (position : ℕ) (stage : StageId) → slice_get (trace_stages spans relations as_told moments) position ≡ Some stage
    → CompletesAs exceptions spans (known_of spans relations as_told moments) stage (at (java_step Computed) graph.places position).done
faithful_among as_told spans relations is moments are have meets text exceptions graph loads k id here =
    let both = loaded_is Computed (map (spec_of text exceptions) (map (imported (trace_scene spans relations as_told moments)) (trace_stages spans relations as_told moments))) graph loads in
    let ranked : IsRanked graph.places = no_circle_among as_told spans relations is moments are have text (spec_of text exceptions) (λ stage. record { name = refl; sources = refl; inner = refl }) Computed graph loads in
    let these : IsRanked (stages_from (place_of (map (spec_of text exceptions) (map (imported (trace_scene spans relations as_told moments)) (trace_stages spans relations as_told moments)))) 0
    (map (spec_of text exceptions) (map (imported (trace_scene spans relations as_told moments)) (trace_stages spans relations as_told moments)))) = subst IsRanked (sym both.1) ranked in
    subst (λ places. CompletesAs exceptions spans (known_of spans relations as_told moments) id (at (java_step Computed) places k).done) both.1
    (as_claimed spans relations is moments are text exceptions id _ (reason_of spans relations is moments are id (in-at (trace_stages spans relations as_told moments) k id here))
    (claim spans relations is moments are text exceptions have meets both.0 these k id here))
