-- How each stage of a trace completes, and what others see of it.
use Rattle.std.proofs.Common.{◌≡◌, ℕ, ◌<◌, inl, inr, List, [], ◌∷◌, Bool, true, false, cond, length, map, Option, Some, None, refl, sym, ap, ◌∙◌, subst, arith}
use Rattle.std.specs.Prelude.{◌⊎◌, ◌||◌, is_some, not, slice_get, unwrap_or}
use Rattle.std.specs.Option.{option_map}
use Rattle.std.proofs.lemmas.Option.{none-some}
use Rattle.stage_graph.specs.Names.{places_of}
use Rattle.stage_ops.specs.States.{Completion, seen as seen_from}
use Rattle.stage_ops.specs.declared.state.Done.{Done}
use Rattle.trace_relations.specs.Moments.{end_after, interval_at}
use Rattle.trace_relations.specs.Relations.{PlainRelations}
use Rattle.trace_relations.specs.declared.as_told.AsTold.{AsTold}
use Rattle.trace_spans.specs.declared.span.Span.{Span}
use Rattle.trace_stages.specs.EndOutcomes.{end_outcome}
use Rattle.trace_stages.specs.Failures.{failure, failure_after, failure_at_end, failures_by, given, last_step, thrown}
use Rattle.trace_stages.specs.Fates.{fate_at, fate_of}
use Rattle.trace_stages.specs.Known.{PlainKnown, gave_up}
use Rattle.trace_stages.specs.Moments.{AreMoments, At}
use Rattle.trace_stages.specs.Naming.{name_of}
use Rattle.trace_stages.specs.Scene.{PlainScene}
use Rattle.trace_stages.specs.StagesOf.{known_of}
use Rattle.trace_stages.specs.TwoStages.{has_two}
use Rattle.trace_stages.specs.Visits.{visits}
use Rattle.trace_stages.specs.declared.stage.Exception.{Exception}
use Rattle.trace_stages.specs.declared.stage.StageName.{StageName}
use Rattle.trace_stages.specs.declared.walk.stage_id.StageId.{StageId}
use Rattle.trace_stages.specs.declared.walk.stage_id.StageId.TheVariants.{Start, Whole, Entry, Join, Work, Tried, Limit, Answer}
use Rattle.trace_laws.specs.Circles.{trace_scene}
use Rattle.trace_laws.specs.Completes.{CompletesAt}
use Rattle.trace_laws.specs.Faithful.{Completes, FailsAs, IsLater}
use Rattle.trace_laws.proofs.Each.{Each, In}
use Rattle.trace_laws.proofs.Failing.{SpanFails, fate_is, step_fails}
use Rattle.trace_laws.proofs.Leaving.{left_fails}
use Rattle.trace_laws.proofs.Presence.{all_visited}
use Rattle.trace_laws.proofs.Relations.{IsFamily, ended_place}
use Rattle.trace_laws.proofs.Stepping.{Sees, SeesAll}
use Rattle.trace_laws.proofs.Sure.{IsSure}
use Rattle.trace_laws.proofs.Ticking.{Outcome}
use Rattle.trace_laws.proofs.Timing.{IsClosed, outcome}

module _ {as_told : AsTold} (spans : List Span) (relations : PlainRelations) (is : IsFamily as_told spans relations) (moments : List At) (are : AreMoments relations.intervals moments) (text : StageName → List ℕ) (exceptions : Exception → List ℕ) where
  abbrev pub Known : PlainKnown
  Known = known_of spans relations as_told moments

  abbrev pub failures : ℕ → Option Exception
  failures = failures_by (known_of spans relations as_told moments) (visits relations.parents relations.order)

  abbrev pub Scene : PlainScene
  Scene = trace_scene spans relations as_told moments

  -- what a stage comes to
  abbrev pub comes : StageId → Outcome
  comes id = outcome spans relations is moments are (failures_by (known_of spans relations as_told moments) (visits relations.parents relations.order)) id

  abbrev pub Closed : StageId → Type 0
  Closed id = IsClosed spans relations is moments are (failures_by (known_of spans relations as_told moments) (visits relations.parents relations.order)) id

  abbrev pub Certain : ℕ → ℕ → Type 0
  Certain place count = IsSure spans relations is moments are (failures_by (known_of spans relations as_told moments) (visits relations.parents relations.order)) place count

  abbrev pub Final : ℕ → ℕ
  Final place = relations.attempts.last (relations.attempts.first place)

  abbrev pub started : ℕ → ℕ
  started place = (interval_at relations.intervals place).start

  abbrev pub end_at : ℕ → Option ℕ
  end_at place = (interval_at relations.intervals place).end

  -- ---- claims

  abbrev pub EndClaim : ℕ → Option ℕ → Option Done → Type 0
  EndClaim place None completion = completion ≡ None
  EndClaim place (Some tick) completion = (start : Option ℕ) × CompletesAt exceptions start tick (failures place) completion × (has_two relations.hosts relations.waiting place ≡ false → start ≡ Some (started place))

  -- a join completes, or waits for what was given up
  pub record JoinClaim (place count : ℕ) (completion : Option Done) : Type 0 where
    pub sure : Certain place count → CompletesAt exceptions None (comes (Join place count)).tick (comes (Join place count)).failure completion
    pub may : Completes exceptions completion ⊎ ((gave_up Known place ≡ true) × (completion ≡ None))
    pub later : IsLater (Some (comes (Join place count)).tick) completion

  -- how a stage completes
  abbrev pub Claim : StageId → Option Done → Type 0
  Claim (Start place) completion = CompletesAt exceptions (Some (started place)) (started place) None completion
  Claim (Whole place) completion = EndClaim place (end_at place) completion
  Claim (Limit place) completion = (tick : ℕ) × (end_at place ≡ Some tick) × (start : Option ℕ) × CompletesAt exceptions start tick (failures place) completion
  Claim (Answer place) completion = IsLater (end_at place) completion
  Claim (Tried place) completion = (tick : ℕ) × (end_at (Final place) ≡ Some tick) × (start : Option ℕ) × CompletesAt exceptions start tick (failures (Final place)) completion
  Claim (Work place count) completion = (start : Option ℕ) × CompletesAt exceptions start (comes (Work place count)).tick None completion
  Claim (Entry place count) completion = CompletesAt exceptions None (comes (Entry place count)).tick (comes (Entry place count)).failure completion
  Claim (Join place count) completion = JoinClaim place count completion

  at_end : (place tick : ℕ) (end start : Option ℕ) (completion : Option Done) → end ≡ Some tick → CompletesAt exceptions start tick (failures place) completion → CompletesAt exceptions start (unwrap_or end 0) (failures place) completion
  at_end place tick end start completion ends completes = subst (λ n. CompletesAt exceptions start n (failures place) completion) (sym (ap (λ e. unwrap_or e 0) ends)) completes

  whole_done : (place : ℕ) (end : Option ℕ) (completion : Option Done) → (tick : ℕ) × (end ≡ Some tick) → EndClaim place end completion → (start : Option ℕ) × CompletesAt exceptions start (unwrap_or end 0) (failures place) completion
  whole_done place None completion (tick, none) claim = absurd (none-some tick none)
  whole_done place (Some end) completion closed claim = (claim.0, claim.1)

  pub closed_done : (id : StageId) (completion : Option Done) → Closed id → Claim id completion → (start : Option ℕ) × CompletesAt exceptions start (comes id).tick (comes id).failure completion
  closed_done (Start place) completion closed claim = (Some (started place), claim)
  closed_done (Whole place) completion closed claim = whole_done place (end_at place) completion closed claim
  closed_done (Limit place) completion closed (tick, ends, start, completes) = (start, at_end place tick (end_at place) start completion ends completes)
  closed_done (Answer place) completion closed claim = absurd closed
  closed_done (Tried place) completion closed (tick, ends, start, completes) = (start, at_end (Final place) tick (end_at (Final place)) start completion ends completes)
  closed_done (Work place count) completion closed claim = claim
  closed_done (Entry place count) completion closed claim = (None, claim)
  closed_done (Join place count) completion closed claim = (None, claim.sure closed)

  -- ---- what is seen

  -- the place of a stage by its name
  abbrev pub at_name : (List ℕ → Option ℕ) → StageId → ℕ
  at_name find source = unwrap_or (find (text (name_of Scene source))) 0

  abbrev pub at_names : (List ℕ → Option ℕ) → List StageId → List ℕ
  at_names find sources = places_of find (map text (map (name_of Scene) sources))

  -- a stage that completes as is claimed is seen at a place
  pub record IsTold (inputs : ℕ → Option Completion) (place : ℕ) (id : StageId) : Type 0 where
    pub completion : Option Done
    pub claim : Claim id completion
    pub seen : inputs place ≡ option_map seen_from completion

  pub sees_closed : (inputs : ℕ → Option Completion) (place : ℕ) (id : StageId) → IsTold inputs place id → Closed id → Sees exceptions inputs place (comes id)
  sees_closed inputs place id told closed =
      let done = closed_done id told.completion closed told.claim in
      (done.1.0, told.seen ∙ ap (option_map seen_from) done.1.1)

  pub sees_all : (inputs : ℕ → Option Completion) (find : List ℕ → Option ℕ) (sources : List StageId) → Each Closed sources → ((source : StageId) → In sources source → IsTold inputs (at_name find source) source)
      → SeesAll exceptions inputs (at_names find sources) (map comes sources)
  sees_all inputs find [] closed told = tt
  sees_all inputs find (source ∷ sources) closed told =
      (sees_closed inputs (at_name find source) source (told source (inl refl)) closed.0, sees_all inputs find sources closed.1 (λ other here. told other (inr here)))

  -- ---- how spans fail

  pub within : (place tick : ℕ) → end_at place ≡ Some tick → place < length relations.intervals
  within place tick ended = ended_place relations.intervals place (end_after (started place) tick) (ap (option_map (end_after (started place))) ended)

  shorter : (a b c : ℕ) → a < b → b ≡ c → a < c
  shorter a b c lt same = omega arith

  fails_here : (place tick : ℕ) → end_at place ≡ Some tick → failures place ≡ failure_at_end Known failures place
  fails_here place tick ended =
      left_fails spans relations is moments are place (all_visited spans relations is place (shorter place (length relations.intervals) (length spans) (within place tick ended) is.count)).1
      ∙ ap (λ those. cond (is_some those) (failure_at_end Known failures place) None) ended

  pub fails_given : (place tick : ℕ) → end_at place ≡ Some tick → gave_up Known place ≡ true → failures place ≡ thrown (fate_at Known.fates place)
  fails_given place tick ended gave =
      fails_here place tick ended ∙ ap (λ b. cond (b || not (Known.has_two place)) (thrown (fate_at Known.fates place)) (failure_after Known failures place)) gave

  pub fails_alone : (place tick : ℕ) → end_at place ≡ Some tick → gave_up Known place ≡ false → Known.has_two place ≡ false → failures place ≡ thrown (fate_at Known.fates place)
  fails_alone place tick ended kept one =
      fails_here place tick ended ∙ ap (λ b. cond (b || not (Known.has_two place)) (thrown (fate_at Known.fates place)) (failure_after Known failures place)) kept
      ∙ ap (λ b. cond (not b) (thrown (fate_at Known.fates place)) (failure_after Known failures place)) one

  pub fails_last : (place tick : ℕ) → end_at place ≡ Some tick → gave_up Known place ≡ false → Known.has_two place ≡ true → failures place ≡ failure_after Known failures place
  fails_last place tick ended kept two =
      fails_here place tick ended ∙ ap (λ b. cond (b || not (Known.has_two place)) (thrown (fate_at Known.fates place)) (failure_after Known failures place)) kept
      ∙ ap (λ b. cond (not b) (thrown (fate_at Known.fates place)) (failure_after Known failures place)) two

  -- each fails as its span did
  pub fails_as : (place tick : ℕ) → end_at place ≡ Some tick → FailsAs spans place (failures place)
  fails_as place tick ended = λ span here. by_gave span here (gave_up Known place) refl
    where
      went : (span : Span) → slice_get spans place ≡ Some span → fate_at Known.fates place ≡ fate_of spans place (Some span)
      went span here = fate_is spans relations is moments are failures place (shorter place (length relations.intervals) (length spans) (within place tick ended) is.count) ∙ ap (fate_of spans place) here

      by_step : (span : Span) → slice_get spans place ≡ Some span → (source : Option Exception) → failures place ≡ (last_step source (fate_at Known.fates place)).failure → SpanFails spans place span (failures place)
      by_step span here source fails =
          subst (SpanFails spans place span) (sym (fails ∙ ap (λ fate. (last_step source fate).failure) (went span here))) (step_fails spans place source span)

      by_two : (span : Span) → slice_get spans place ≡ Some span → gave_up Known place ≡ false → (b : Bool) → Known.has_two place ≡ b → SpanFails spans place span (failures place)
      by_two span here kept true two = by_step span here (given Known failures place (end_outcome Known failures place).failure) (fails_last place tick ended kept two)
      by_two span here kept false one = by_step span here None (fails_alone place tick ended kept one)

      by_gave : (span : Span) → slice_get spans place ≡ Some span → (b : Bool) → gave_up Known place ≡ b → SpanFails spans place span (failures place)
      by_gave span here true gave = by_step span here None (fails_given place tick ended gave)
      by_gave span here false kept = by_two span here kept (Known.has_two place) refl
