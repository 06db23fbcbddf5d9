-- What is known of spans, and their stages, as the definitions name them.
use Rattle.std.proofs.Common.{◌≡◌, ℕ, zero, suc, ◌+◌, List, [], ◌∷◌, Bool, Option, Some, length, map, refl, ap, ◌∙◌, arith}
use Rattle.std.specs.Prelude.{not, slice_get}
use Rattle.std.specs.List.{range_with_len}
use Rattle.trace_stages.specs.Holdings.{AreHeldBy, held}
use Rattle.trace_stages.specs.Moments.{At}
use Rattle.trace_relations.specs.declared.as_told.AsTold.{AsTold}
use Rattle.trace_relations.specs.declared.moment.Moment.{Moment}
use Rattle.trace_relations.specs.Relations.{PlainRelations}
use Rattle.trace_stages.specs.Bounds.{bound}
use Rattle.trace_spans.specs.declared.span.Span.{Span}
use Rattle.trace_stages.specs.declared.fates.Fate.{Fate}
use Rattle.trace_stages.specs.declared.stage.Exception.{Exception}
use Rattle.trace_stages.specs.Failures.{failures_by}
use Rattle.trace_stages.specs.Fates.{fate}
use Rattle.trace_stages.specs.Known.{PlainHad, PlainKnown, had_of, plain_hads}
use Rattle.trace_stages.specs.Naming.{PlainStage, imported}
use Rattle.trace_stages.specs.Order.{ordered}
use Rattle.trace_stages.specs.Scene.{PlainScene, scene_of}
use Rattle.trace_stages.specs.StagesOf.{had, had_by, known_of, stages_by, stages_in, stages_with}
use Rattle.trace_stages.specs.TwoStages.{has_two}
use Rattle.trace_stages.proofs.Failing.{same_function}
use Rattle.trace_stages.specs.declared.tour.visit.Visit.{Visit}
use Rattle.trace_stages.specs.Visits.{children, visits}
use Rattle.trace_stages.specs.declared.walk.holding.Answer.{Answer}
use Rattle.trace_stages.specs.declared.walk.holding.Begin.{Begin}
use Rattle.trace_stages.specs.declared.walk.holding.OwnWork.{OwnWork}
use Rattle.trace_stages.specs.declared.walk.holding.Holding.{Holding}
use Rattle.trace_stages.specs.declared.walk.stage_id.StageId.{StageId}
use Rattle.trace_stages.specs.Held.{PlainHolding}
use Rattle.trace_stages.specs.KeptWalk.{Holds}

same_table : {X Y : Type 0} (f : X → Y) (g : ℕ → Y) (xs : List X) (n k : ℕ) → length xs ≡ n → ((i : ℕ) (x : X) → slice_get xs i ≡ Some x → f x ≡ g (k + i)) → map f xs ≡ map g (range_with_len k n)
same_table f g [] zero k e same = refl
same_table f g [] (suc n) k e same = absurd (omega arith)
same_table f g (x ∷ xs) zero k e same = absurd (omega arith)
same_table f g (x ∷ xs) (suc n) k e same =
    let first : k + 0 ≡ k = omega arith in
    let count : length xs ≡ n = omega arith in
    ap (λ y. y ∷ map f xs) (same 0 x refl ∙ ap g first)
    ∙ ap (λ ys. g k ∷ ys) (same_table f g xs n (k + 1) count (λ i y h. same (suc i) y h ∙ ap g (next k i)))
  where
    next : (k i : ℕ) → k + suc i ≡ k + 1 + i
    next k i = omega arith

had_as : (has other : StageId) (joins others : List (List StageId)) (works more_works : List OwnWork) (begins more : List Begin) (answer another : Option Answer) → has ≡ other → joins ≡ others → works ≡ more_works → begins ≡ more → answer ≡ another → ◌≡◌ {A = PlainHad} (record { has = has; joins = joins; works = works; begins = begins; answer = answer }) (record { has = other; joins = others; works = more_works; begins = more; answer = another })
had_as has other joins others works more_works begins more answer another e f g h i = cc

one_had : (holding : Holding) (plain : PlainHolding) → Holds holding plain → had_of holding ≡ had_by plain
one_had holding plain h = had_as holding.has plain.has _ plain.joins holding.works.items plain.works holding.begins.items plain.begins holding.answer plain.answer h.0 h.5 h.6 h.7 h.8

hads_as : (relations : PlainRelations) (moments : List At) (holdings : List Holding) → length holdings ≡ length relations.intervals → AreHeldBy relations moments holdings → plain_hads holdings ≡ map (had relations moments) (range_with_len 0 (length relations.intervals))
hads_as relations moments holdings count are =
    same_table had_of (had relations moments) holdings (length relations.intervals) 0 count (λ i holding h. one_had holding (held relations moments i) (are i holding h) ∙ ap (λ k. had relations moments k) (from_zero i))
  where
    from_zero : (i : ℕ) → i ≡ 0 + i
    from_zero i = omega arith

same_known : (relations : PlainRelations) (fates some_fates : List Fate) (two has_both : ℕ → Bool) (hads some_hads : List PlainHad) (kids children : ℕ → List ℕ) (bounds some_bounds : List (Option Moment)) (hands_on hands : Bool) → fates ≡ some_fates → two ≡ has_both → hads ≡ some_hads → kids ≡ children → bounds ≡ some_bounds → hands_on ≡ hands → ◌≡◌ {A = PlainKnown} (record { relations = relations; fates = fates; has_two = two; hads = hads; children = kids; bounds = bounds; hands_on = hands_on }) (record { relations = relations; fates = some_fates; has_two = has_both; hads = some_hads; children = children; bounds = some_bounds; hands_on = hands })
same_known relations fates some_fates two has_both hads some_hads kids children bounds some_bounds hands_on hands a b c d e f = cc

-- what the code knows is what the definition names
pub known_as : (spans : List Span) (relations : PlainRelations) (as_told : AsTold) (moments : List At) (fates : List Fate) (two : ℕ → Bool) (holdings : List Holding) (kids : ℕ → List ℕ) (bounds : List (Option Moment)) (hands_on : Bool) → fates ≡ map (fate spans) (range_with_len 0 (length spans)) → ((q : ℕ) → two q ≡ has_two relations.hosts relations.waiting q) → length holdings ≡ length relations.intervals → AreHeldBy relations moments holdings → ((q : ℕ) → kids q ≡ children relations.parents relations.order q) → bounds ≡ map (bound relations) (range_with_len 0 (length relations.intervals)) → hands_on ≡ not as_told.calls → ◌≡◌ {A = PlainKnown} (record { relations = relations; fates = fates; has_two = two; hads = plain_hads holdings; children = kids; bounds = bounds; hands_on = hands_on }) (known_of spans relations as_told moments)
known_as spans relations as_told moments fates two holdings kids bounds hands_on is_fates has count are are_kids is_bounds hands =
    same_known relations fates _ two (has_two relations.hosts relations.waiting) (plain_hads holdings) _ kids (children relations.parents relations.order) bounds _ hands_on (not as_told.calls)
    is_fates (same_function two (has_two relations.hosts relations.waiting) has) (hads_as relations moments holdings count are) (same_function kids (children relations.parents relations.order) are_kids) is_bounds hands

-- and the stages are those that it names
pub recorded_as : (spans : List Span) (relations : PlainRelations) (as_told : AsTold) (moments : List At) (known : PlainKnown) (all_visits : List Visit) (failures : ℕ → Option Exception) (scene : PlainScene) (ids : List StageId) (stages : List PlainStage) → known ≡ known_of spans relations as_told moments → all_visits ≡ visits relations.parents relations.order → ((q : ℕ) → failures q ≡ failures_by known all_visits q) → scene ≡ scene_of known failures → ids ≡ ordered scene all_visits → stages ≡ map (imported scene) ids → stages ≡ stages_by spans relations as_told moments
recorded_as spans relations as_told moments known all_visits failures scene ids stages is_known are_visits fail is_scene are_ids are =
    are
    ∙ ap (λ those. map (imported scene) those) are_ids
    ∙ ap (λ those. stages_with those all_visits) (is_scene ∙ ap (λ those. scene_of known those) (same_function failures (failures_by known all_visits) fail))
    ∙ ap (λ those. stages_in those all_visits) is_known
    ∙ ap (λ those. stages_in (known_of spans relations as_told moments) those) are_visits
