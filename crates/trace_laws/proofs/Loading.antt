-- The stages of the spans of a trace are loaded.
use Rattle.std.proofs.Common.{◌≡◌, ℕ, suc, ◌+◌, ◌<◌, ◌≤◌, List, [], ◌∷◌, Bool, true, false, cond, length, map, Option, Some, refl, sym, ap, ◌∙◌, subst, arith}
use Rattle.std.specs.Prelude.{slice_get}
use Rattle.std.specs.Option.{option_to_list}
use Rattle.std.proofs.lemmas.List.{length-map}
use Rattle.std.proofs.lemmas.Option.{slice_get-get_or}
use Rattle.act_expr.specs.declared.outcome.Mode.TheVariants.{Computed}
use Rattle.stage_graph.specs.Checks.{is_name}
use Rattle.trace_relations.specs.Ancestry.{most_spans}
use Rattle.trace_relations.specs.Relations.{AreRelationsOf, PlainRelations}
use Rattle.trace_relations.specs.declared.as_told.AsTold.{AsTold}
use Rattle.trace_relations.specs.declared.unit.Unit.{Unit as TickUnit}
use Rattle.trace_spans.specs.declared.span.Span.{Span}
use Rattle.trace_stages.specs.Apart.{AreApart}
use Rattle.trace_stages.specs.Failures.{failures_by}
use Rattle.trace_stages.specs.Known.{gave_up}
use Rattle.trace_stages.specs.Moments.{AreMoments, At}
use Rattle.trace_stages.specs.Names.{base_name, names, names_from}
use Rattle.trace_stages.specs.Naming.{PlainStage, imported, name_of, plain_stage, plain_stages}
use Rattle.trace_stages.specs.Scene.{PlainScene}
use Rattle.trace_stages.specs.StagesOf.{AreStages, known_of, stages_by}
use Rattle.trace_stages.specs.Visits.{visits}
use Rattle.trace_stages.specs.declared.stage.Exception.{Exception}
use Rattle.trace_stages.specs.declared.stage.StageName.{StageName}
use Rattle.trace_stages.specs.declared.stage.Stages.{Stages}
use Rattle.trace_stages.specs.declared.walk.stage_id.StageId.{StageId}
use Rattle.trace_stages.specs.declared.walk.stage_id.StageId.TheVariants.{Start, Whole, Entry, Join, Work, Tried, Limit, Answer}
use Rattle.trace_stages.proofs.Apart.{names_apart}
use Rattle.trace_import.specs.StageNames.{stage_name}
use Rattle.trace_laws.specs.Accepted.{EachImportIsLoaded}
use Rattle.trace_laws.proofs.Apart.{same_id, same_name, small_counted}
use Rattle.trace_laws.proofs.Linked.{AreLinked, IsStageHere, are_linked, the_order}
use Rattle.trace_laws.proofs.Loaded.{IsFine, all_loaded}
use Rattle.trace_laws.proofs.Members.{AreDistinct, IsIn, distinct_map, each_of, in_map, map_in}
use Rattle.trace_laws.proofs.Placed.{each_placed, places_length}
use Rattle.trace_laws.proofs.Shaped.{IsShaped, shaped}
use Rattle.trace_laws.proofs.Staged.{all_inner, all_sources, small_stages, the_scene, timely}
use Rattle.trace_laws.proofs.Standing.{IsStanding, standing}
use Rattle.trace_laws.proofs.Wellnamed.{place_named, well_named}

names_length : (bases : List (List ℕ)) (order : List ℕ) (k : ℕ) (all : List (List ℕ)) → length (names_from bases order k all) ≡ length all
names_length bases order k [] = refl
names_length bases order k (base ∷ rest) = ap suc (names_length bases order (k + 1) rest)

all_named : (spans : List Span) (order : List ℕ) → length (names spans order) ≡ length spans
unfolding names
all_named spans order = names_length (map base_name spans) order 0 (map base_name spans) ∙ length-map spans base_name

module _ (spans : List Span) (relations : PlainRelations) (as_told : AsTold) (moments : List At) (failures : ℕ → Option Exception) (stand : IsStanding (length spans) relations) (are : AreMoments relations.intervals moments) where
  abbrev scene : PlainScene
  scene = the_scene (length spans) spans relations as_told moments failures stand are

  abbrev order : List StageId
  order = the_order (length spans) spans relations as_told moments failures stand are

  abbrev IsStage : StageId → Type 0
  IsStage id = IsStageHere (length spans) spans relations as_told moments failures stand are id

  abbrev own_names : List (List ℕ)
  own_names = names spans relations.order

  abbrev sources : StageId → List StageId
  sources id = all_sources (length spans) spans relations as_told moments failures stand are id

  abbrev inner : StageId → List StageId
  inner id = all_inner (length spans) spans relations as_told moments failures stand are id

  count : length relations.intervals ≡ length spans
  count = let calls = stand.calls in calls.intervals

  few_places : length relations.order ≤ 65536
  few_places = omega (arith, places_length relations.intervals relations.order stand.by_start, count, stand.few)

  apart : AreApart own_names
  apart = names_apart spans relations.order (λ place low. each_placed relations.intervals relations.order stand.by_start place (subst (λ (k : ℕ). place < k) (sym count) low)) (omega (arith, few_places))

  stage_below : (id : StageId) → IsStage id → place_named (name_of scene id) < length spans
  stage_below (Start place) h = h.0
  stage_below (Whole place) h = h
  stage_below (Tried place) h = h.0
  stage_below (Limit place) h = h.0
  stage_below (Answer place) h = h.0
  stage_below (Work span number) h = h.0
  stage_below (Entry span number) h = h.0
  stage_below (Join span number) h = h.0

  own_name : (place : ℕ) → place < length spans → (own : List ℕ) × (slice_get own_names place ≡ Some own)
  own_name place low = (_, slice_get-get_or own_names place [] (subst (λ (k : ℕ). place < k) (sym (all_named spans relations.order)) low))

  one_id : (id other : StageId) → IsStage id → IsStage other → stage_name own_names (name_of scene id) ≡ stage_name own_names (name_of scene other) → id ≡ other
  one_id id other is also e =
      let small = small_stages (length spans) spans relations as_told moments failures stand are id is in
      let little = small_stages (length spans) spans relations as_told moments failures stand are other also in
      let own = own_name (place_named (name_of scene id)) (stage_below id is) in
      let others = own_name (place_named (name_of scene other)) (stage_below other also) in
      same_id scene id other small little (same_name own_names apart (name_of scene id) (name_of scene other) own.0 others.0 own.1 others.1 (small_counted scene id small) (small_counted scene other little) e)

  end_name : (place : ℕ) (b : Bool) (x y : PlainStage) → x.name ≡ name_of scene (Whole place) → y.name ≡ name_of scene (Whole place) → (cond b x y).name ≡ name_of scene (Whole place)
  end_name place true x y first second = first
  end_name place false x y first second = second

  the_name : (id : StageId) → (imported scene id).name ≡ name_of scene id
  the_name (Whole place) = end_name place (gave_up scene.known place) _ _ refl refl
  the_name (Start place) = refl
  the_name (Tried place) = refl
  the_name (Limit place) = refl
  the_name (Answer place) = refl
  the_name (Work span number) = refl
  the_name (Entry span number) = refl
  the_name (Join span number) = refl

  end_sources : (b : Bool) (x y : PlainStage) (first second : List StageId) → x.sources ≡ map (name_of scene) first → y.sources ≡ map (name_of scene) second → (cond b x y).sources ≡ map (name_of scene) (cond b first second)
  end_sources true x y first second one other = one
  end_sources false x y first second one other = other

  the_sources : (id : StageId) → (imported scene id).sources ≡ map (name_of scene) (sources id)
  the_sources (Whole place) = end_sources (gave_up scene.known place) _ _ _ _ refl refl
  the_sources (Start place) = refl
  the_sources (Tried place) = refl
  the_sources (Limit place) = refl
  the_sources (Answer place) = refl
  the_sources (Work span number) = refl
  the_sources (Entry span number) = refl
  the_sources (Join span number) = refl

  no_inner : (b : Bool) (x y : PlainStage) → option_to_list x.inner ≡ [] → option_to_list y.inner ≡ [] → option_to_list (cond b x y).inner ≡ []
  no_inner true x y first second = first
  no_inner false x y first second = second

  the_inner : (id : StageId) → option_to_list (imported scene id).inner ≡ map (name_of scene) (inner id)
  the_inner (Whole place) = no_inner (gave_up scene.known place) _ _ refl refl
  the_inner (Start place) = refl
  the_inner (Tried place) = refl
  the_inner (Limit place) = refl
  the_inner (Answer place) = refl
  the_inner (Work span number) = refl
  the_inner (Entry span number) = refl
  the_inner (Join span number) = refl

  named_ids : (ids : List StageId) → map (λ stage. stage_name own_names stage.name) (map (imported scene) ids) ≡ map (λ id. stage_name own_names (name_of scene id)) ids
  named_ids [] = refl
  named_ids (id ∷ ids) = ap (λ name. stage_name own_names name ∷ map (λ stage. stage_name own_names stage.name) (map (imported scene) ids)) (the_name id) ∙ ap (λ l. stage_name own_names (name_of scene id) ∷ l) (named_ids ids)

  module _ (linked : AreLinked (length spans) spans relations as_told moments failures stand are order) where
    stage_shaped : (id : StageId) → IsStage id → IsShaped (imported scene id)
    stage_shaped id is = let calls = stand.calls in shaped scene calls.timed id (timely (length spans) spans relations as_told moments failures stand are id is)

    abbrev IsPut : StageName → Type 0
    IsPut source = IsIn (stage_name own_names source) (map (λ stage. stage_name own_names stage.name) (map (imported scene) order))

    -- the name of a stage that is put
    name_put : (s : StageId) → IsIn s order → IsPut (name_of scene s)
    name_put s put = subst (λ (l : List (List ℕ)). IsIn (stage_name own_names (name_of scene s)) l) (sym (named_ids order)) (map_in (λ (other : StageId). stage_name own_names (name_of scene other)) order s put)

    all_put : (ids : List StageId) (told : List StageName) → told ≡ map (name_of scene) ids → ((s : StageId) → IsIn s ids → IsIn s order) → (source : StageName) → IsIn source told → IsPut source
    all_put ids told is puts source t =
        let at = in_map (name_of scene) ids source (subst (λ (l : List StageName). IsIn source l) is t) in
        subst IsPut (sym at.2) (name_put at.0 (puts at.0 at.1))

    fine : (id : StageId) → IsIn id order → IsFine own_names (map (imported scene) order) (imported scene id)
    fine id h =
        let is = linked.stages id h in
        let small = small_stages (length spans) spans relations as_told moments failures stand are id is in
        let own = own_name (place_named (name_of scene id)) (stage_below id is) in
        let counts = small_counted scene id small in
        record {
          shape = stage_shaped id is;
          named = ap (λ name. is_name (stage_name own_names name)) (the_name id) ∙ well_named spans relations.order (name_of scene id) own.0 few_places own.1 counts.1;
          sources = each_of IsPut (imported scene id).sources (all_put (sources id) (imported scene id).sources (the_sources id) (λ s t. linked.sources id s h t));
          inner = each_of IsPut (option_to_list (imported scene id).inner) (all_put (inner id) (option_to_list (imported scene id).inner) (the_inner id) (λ s t. linked.inner id s h t));
        }

    pub fine_stages : (stage : PlainStage) → IsIn stage (map (imported scene) order) → IsFine own_names (map (imported scene) order) stage
    fine_stages stage h = let of = in_map (imported scene) order stage h in subst (IsFine own_names (map (imported scene) order)) (sym of.2) (fine of.0 of.1)

    pub distinct_names : AreDistinct (map (λ stage. stage_name own_names stage.name) (map (imported scene) order))
    distinct_names =
        subst AreDistinct (sym (named_ids order))
        (distinct_map (λ (id : StageId). stage_name own_names (name_of scene id)) order linked.distinct (λ id other h t e. one_id id other (linked.stages id h) (linked.stages other t) e))

-- the stages of a trace, which have names of their own and no reason for a refusal
pub record AreFine (own_names : List (List ℕ)) (stages : List PlainStage) : Type 0 where
  pub few : length stages ≤ 65536
  pub distinct : AreDistinct (map (λ stage. stage_name own_names stage.name) stages)
  pub fine : (stage : PlainStage) → IsIn stage stages → IsFine own_names stages stage

pub fine_by : (spans : List Span) (relations : PlainRelations) (as_told : AsTold) (moments : List At) → IsStanding (length spans) relations → AreMoments relations.intervals moments → length (stages_by spans relations as_told moments) ≤ 65536
    → AreFine (names spans relations.order) (stages_by spans relations as_told moments)
fine_by spans relations as_told moments stand are few =
    let failures = failures_by (known_of spans relations as_told moments) (visits relations.parents relations.order) in
    let ids = the_order (length spans) spans relations as_told moments failures stand are in
    let scene_here = the_scene (length spans) spans relations as_told moments failures stand are in
    let low : length ids ≤ 65536 = omega (arith, length-map ids (imported scene_here), few) in
    let linked = are_linked (length spans) spans relations as_told moments failures stand are low in
    record {
      few = few;
      distinct = distinct_names spans relations as_told moments failures stand are linked;
      fine = fine_stages spans relations as_told moments failures stand are linked;
    }

pub import_fine : (unit : TickUnit) (as_told : AsTold) (spans : List Span) (relations : PlainRelations) (stages : Stages) → AreRelationsOf unit as_told spans relations → AreStages spans relations as_told stages → length spans ≤ most_spans → length stages.0.items ≤ 65536
    → AreFine (names spans relations.order) (plain_stages stages.0.items)
import_fine unit as_told spans relations stages related made short few =
    let both = made.1 in
    let is : plain_stages stages.0.items ≡ stages_by spans relations as_told made.0 = both.1 in
    let low : length (stages_by spans relations as_told made.0) ≤ 65536 = subst (λ (l : List PlainStage). length l ≤ 65536) is (omega (arith, length-map stages.0.items plain_stage, few)) in
    subst (AreFine (names spans relations.order)) (sym is) (fine_by spans relations as_told made.0 (standing unit as_told spans relations related short) both.0 low)

pub import_loaded : EachImportIsLoaded
import_loaded unit as_told spans relations stages related made short few =
    let all = import_fine unit as_told spans relations stages related made short few in
    all_loaded Computed spans (names spans relations.order) (plain_stages stages.0.items) all.few all.distinct all.fine
