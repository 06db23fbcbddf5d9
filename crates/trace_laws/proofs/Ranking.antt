-- Where each feed has a lesser key there is no circle.
use Rattle.std.proofs.Common.{◌≡◌, ℕ, suc, zero, ◌+◌, ◌<◌, ◌≤◌, inl, inr, List, [], ◌∷◌, ◌++◌, Bool, true, false, cond, length, map, Option, Some, None, refl, sym, ap, ◌∙◌, subst, arith}
use Rattle.std.specs.Prelude.{◌⊎◌, Contains, Ok, nat_eq, option_to_list, slice_get, unwrap_or}
use Rattle.std.specs.List.{AllByRecursion, IsDistinct}
use Rattle.std.specs.Option.{option_map}
use Rattle.std.proofs.lemmas.Bool.{eqb-true, false≢true, ne_eqb}
use Rattle.std.proofs.lemmas.List.{append-nil}
use Rattle.std.proofs.lemmas.Map.Steps.{length-le_from_distinct_below}
use Rattle.std.proofs.lemmas.Option.{none-some, same_Some, slice_get-map, slice_get_within}
use Rattle.act_expr.specs.declared.outcome.Mode.{Mode}
use Rattle.stage_graph.specs.Checks.{checks_of, first_refusal}
use Rattle.stage_graph.specs.Loading.{first_refused, is_first, loaded, or_later, refusal_of, stages_from, unless_refused_at}
use Rattle.stage_graph.specs.Names.{place_of, places_of, stage_of}
use Rattle.stage_graph.specs.Plain.{PlainGraph, feeds_at, feeds_of_place, stage_at}
use Rattle.stage_graph.specs.Walk.{IsRanked, Walk}
use Rattle.stage_graph.specs.declared.fault.Refusal.{Refusal}
use Rattle.stage_graph.specs.declared.fault.Refused.{Refused}
use Rattle.stage_graph.specs.declared.stage.Spec.{Spec}
use Rattle.stage_graph.specs.declared.stage.Stage.{Stage}
use Rattle.trace_stages.specs.Moments.{AreMoments, At}
use Rattle.trace_relations.specs.Relations.{PlainRelations}
use Rattle.trace_spans.specs.declared.span.Span.{Span}
use Rattle.trace_stages.specs.Failures.{failures_by}
use Rattle.trace_stages.specs.Naming.{PlainStage, imported, imported_join, imported_work, name_of}
use Rattle.trace_stages.specs.Scene.{PlainScene}
use Rattle.trace_stages.specs.StagesOf.{known_of}
use Rattle.trace_stages.specs.declared.stage.StageName.{StageName}
use Rattle.trace_stages.specs.Visits.{visits}
use Rattle.trace_stages.specs.declared.walk.stage_id.StageId.{StageId}
use Rattle.trace_stages.specs.declared.walk.stage_id.StageId.TheVariants.{Start, Whole, Entry, Join, Work, Tried, Limit, Answer}
use Rattle.trace_stages.specs.declared.stage.Op.TheVariants.{AnyOf}
use Rattle.trace_stages.specs.Beginnings.{option_list}
use Rattle.trace_stages.specs.Known.{gave_up}
use Rattle.trace_stages.specs.Works.{whole_work}
use Rattle.trace_relations.specs.declared.as_told.AsTold.{AsTold}
use Rattle.trace_laws.specs.Circles.{HaveSources, IsNamedBy, sources_of, trace_scene, trace_stages}
use Rattle.trace_laws.proofs.Climbing.{any_in}
use Rattle.trace_laws.proofs.Dictionary.{Below, Key, below-trans, never-below}
use Rattle.trace_laws.proofs.Each.{Each, In, contains_in, each-in, each-weaker, in-append, in-at, in-back, in-front, in_contains}
use Rattle.trace_laws.proofs.Keys.{key}
use Rattle.trace_laws.proofs.Lesser.{lesser}
use Rattle.trace_laws.proofs.Relations.{IsFamily}

-- ---- lists

pub in_place : {X : Type 0} (xs : List X) (x : X) → In xs x → (k : ℕ) × (slice_get xs k ≡ Some x)
in_place [] x here = absurd here
in_place (y ∷ ys) x (inl same) = (0, ap Some same)
in_place (y ∷ ys) x (inr later) = let rest = in_place ys x later in (suc rest.0, rest.1)

pub in_map : {X Y : Type 0} (f : X → Y) (xs : List X) (y : Y) → In (map f xs) y → (x : X) × In xs x × (f x ≡ y)
in_map f [] y here = absurd here
in_map f (x ∷ xs) y (inl same) = (x, inl refl, same)
in_map f (x ∷ xs) y (inr later) = let rest = in_map f xs y later in (rest.0, inr rest.1, rest.2)

option_mapped : {X Y : Type 0} (f : X → Y) (found : Option X) (y : Y) → option_map f found ≡ Some y → (x : X) × (found ≡ Some x) × (f x ≡ y)
option_mapped f None y is = absurd (none-some y is)
option_mapped f (Some x) y is = (x, refl, same_Some (f x) y is)

differ : (x z : ℕ) → (z ≡ x → ⊥) → nat_eq x z ≡ false
differ x z apart = ne_eqb x z (λ same. apart (sym same))

-- ---- walks go down

module _ (places : List (Option Stage)) (stages : List StageId) (key_of : StageId → Key) (count : length places ≡ length stages)
    (down : (place feed : ℕ) → Contains (feeds_at places place) feed → (stage source : StageId) × (slice_get stages place ≡ Some stage) × (slice_get stages feed ≡ Some source) × Below (key_of source) (key_of stage)) where
  -- a place with a key that is not above another
  abbrev IsUpTo : Key → ℕ → Type 0
  IsUpTo top place = (stage : StageId) × (slice_get stages place ≡ Some stage) × ((key_of stage ≡ top) ⊎ Below (key_of stage) top)

  abbrev IsUnder : Key → ℕ → Type 0
  IsUnder top place = (stage : StageId) × (slice_get stages place ≡ Some stage) × Below (key_of stage) top

  record Visited (walk : ℕ) (top : Key) : Type 0 where
    pub those : List ℕ
    pub steps : length those ≡ suc walk
    pub once : IsDistinct nat_eq those
    pub all : Each (IsUpTo top) those

  under : (top feed : Key) → Below feed top → (place : ℕ) → IsUpTo feed place → IsUnder top place
  under top feed below place (stage, at, inl same) = (stage, at, subst (λ k. Below k top) (sym same) below)
  under top feed below place (stage, at, inr lower) = (stage, at, below-trans (key_of stage) feed top lower below)

  apart_all : (place : ℕ) (stage : StageId) (others : List ℕ) → slice_get stages place ≡ Some stage → Each (IsUnder (key_of stage)) others → AllByRecursion (λ z. nat_eq place z ≡ false) others
  apart_all place stage [] at all = tt
  apart_all place stage (z ∷ others) at ((other, there, below), rest) = (
    differ place z (λ same. never-below (key_of stage) (subst (λ id. Below (key_of id) (key_of stage)) (same_Some other stage (sym there ∙ ap (slice_get stages) same ∙ at)) below)),
    apart_all place stage others at rest,
  )

  visited : (steps place : ℕ) (stage : StageId) → slice_get stages place ≡ Some stage → Walk places steps place → Visited steps (key_of stage)
  unfolding IsDistinct
  visited zero place stage at walk = record { those = place ∷ []; steps = refl; once = (tt, tt); all = ((stage, at, inl refl), tt) }
  visited (suc steps) place stage at (feed, here, rest) =
      let step = down place feed here in
      let same : step.0 ≡ stage = same_Some step.0 stage (sym step.2 ∙ at) in
      let below : Below (key_of step.1) (key_of stage) = subst (λ id. Below (key_of step.1) (key_of id)) same step.4 in
      let more = visited steps feed step.1 step.3 rest in
      let lower : Each (IsUnder (key_of stage)) more.those = each-weaker (IsUpTo (key_of step.1)) (IsUnder (key_of stage)) (under (key_of stage) (key_of step.1) below) more.those more.all in
      record {
        those = place ∷ more.those;
        steps = ap suc more.steps;
        once = (apart_all place stage more.those at lower, more.once);
        all = ((stage, at, inl refl), each-weaker (IsUnder (key_of stage)) (IsUpTo (key_of stage)) (λ z is. (is.0, is.1, inr is.2)) more.those lower);
      }

  first_at : (steps place : ℕ) → 0 < steps → Walk places steps place → (stage : StageId) × (slice_get stages place ≡ Some stage)
  first_at zero place some walk = absurd (omega arith)
  first_at (suc steps) place some (feed, here, rest) = let step = down place feed here in (step.0, step.2)

  empty_at : (xs : List (Option Stage)) (place : ℕ) → length xs ≡ 0 → place < length xs → ⊥
  empty_at xs place none lt = omega arith

  pub is_ranked : IsRanked places
  is_ranked place walk = by_count (length places) refl walk
    where
      by_count : (n : ℕ) → length places ≡ n → Walk places n place → ⊥
      by_count zero none lt = omega arith
      by_count (suc n) some walk =
          let first = first_at (suc n) place (omega arith) walk in
          let all = visited (suc n) place first.0 first.1 walk in
          let few : length all.those ≤ length places =
          length-le_from_distinct_below all.those (length places) all.once
          (λ q found. let at = each-in (IsUpTo (key_of first.0)) all.those all.all q (any_in q all.those found) in omega (arith, slice_get_within stages q at.0 at.1)) in
          omega (arith, all.steps)

-- ---- what is loaded

pub no_later : (place : ℕ) (refusal : Option Refusal) (later : Option Refused) → or_later place refusal later ≡ None → (refusal ≡ None) × (later ≡ None)
no_later place None later none = (refl, none)
no_later place (Some refusal) later none = absurd (none-some _ (sym none))

is_free : (find : List ℕ → Option ℕ) (free : Bool) (place : ℕ) (spec : Spec) → first_refusal (checks_of free find place spec) ≡ None → free ≡ true
is_free find true place spec none = refl
is_free find false place spec none = absurd (none-some _ (sym none))

first_is_place : (place : ℕ) (found : Option ℕ) → is_first place found ≡ true → found ≡ Some place
first_is_place place None is = absurd (false≢true is)
first_is_place place (Some first) is = ap Some (eqb-true first place is)

-- the name of each stage that is loaded leads to its place
found_at : (find : List ℕ → Option ℕ) (a : ℕ) (specs : List Spec) (k : ℕ) (spec : Spec) → first_refused find a specs ≡ None → slice_get specs k ≡ Some spec → find spec.name ≡ Some (a + k)
found_at find a [] k spec none here = absurd (none-some spec here)
found_at find a (first ∷ specs) zero spec none here =
    let both = no_later a (refusal_of find a first) (first_refused find (a + 1) specs) none in
    let e : a ≡ a + 0 = omega arith in
    ap (λ those. find those.name) (sym (same_Some first spec here))
    ∙ first_is_place a (find first.name) (is_free find (is_first a (find first.name)) a first both.0)
    ∙ ap Some e
found_at find a (first ∷ specs) (suc k) spec none here =
    let both = no_later a (refusal_of find a first) (first_refused find (a + 1) specs) none in
    let e : (a + 1) + k ≡ a + suc k = omega arith in
    found_at find (a + 1) specs k spec both.1 here ∙ ap Some e

pub stages_at : (find : List ℕ → Option ℕ) (a : ℕ) (specs : List Spec) (k : ℕ) → stage_at (stages_from find a specs) k ≡ option_map (stage_of find (a + k)) (slice_get specs k)
stages_at find a [] k = refl
stages_at find a (first ∷ specs) zero = let e : a ≡ a + 0 = omega arith in ap (λ j. Some (stage_of find j first)) e
stages_at find a (first ∷ specs) (suc k) = let e : (a + 1) + k ≡ a + suc k = omega arith in stages_at find (a + 1) specs k ∙ ap (λ j. option_map (stage_of find j) (slice_get specs k)) e

pub stages_count : (find : List ℕ → Option ℕ) (a : ℕ) (specs : List Spec) → length (stages_from find a specs) ≡ length specs
stages_count find a [] = refl
stages_count find a (first ∷ specs) = ap suc (stages_count find (a + 1) specs)

none_refused : (first : Option Refused) (made graph : PlainGraph) → unless_refused_at first made ≡ Ok graph → (first ≡ None) × (made ≡ graph)
none_refused None made graph is = (refl, cc)
none_refused (Some refused) made graph is = absurd (cc)

pub loaded_is : (mode : Mode) (specs : List Spec) (graph : PlainGraph) → loaded mode specs ≡ Ok graph → (first_refused (place_of specs) 0 specs ≡ None) × (stages_from (place_of specs) 0 specs ≡ graph.places)
unfolding loaded
loaded_is mode specs graph is =
    let both = none_refused (first_refused (place_of specs) 0 specs) (record { mode = mode; places = stages_from (place_of specs) 0 specs }) graph is in
    (both.0, ap (λ those. those.places) both.1)

pub length_mapped : {X Y : Type 0} (f : X → Y) (xs : List X) → length (map f xs) ≡ length xs
length_mapped f [] = refl
length_mapped f (x ∷ xs) = ap suc (length_mapped f xs)

-- the names of what a stage waits for
abbrev pub names_of : PlainStage → List StageName
names_of stage = stage.sources ++ option_to_list stage.inner

end_names : (scene : PlainScene) (place : ℕ) (b : Bool)
    → names_of (cond b (imported_join scene (Whole place) AnyOf (Limit place ∷ Answer place ∷ [])) (imported_work scene (Whole place) (whole_work scene place)))
    ≡ map (name_of scene) (cond b (Limit place ∷ Answer place ∷ []) (option_list (whole_work scene place).source))
end_names scene place true = refl
end_names scene place false = append-nil (map (name_of scene) (option_list (whole_work scene place).source))

pub imported_sources : (scene : PlainScene) (stage : StageId) → names_of (imported scene stage) ≡ map (name_of scene) (sources_of scene stage)
imported_sources scene (Start place) = append-nil (map (name_of scene) (sources_of scene (Start place)))
imported_sources scene (Whole place) = end_names scene place (gave_up scene.known place)
imported_sources scene (Work span number) = append-nil (map (name_of scene) (sources_of scene (Work span number)))
imported_sources scene (Tried place) = refl
imported_sources scene (Limit place) = append-nil (map (name_of scene) (sources_of scene (Limit place)))
imported_sources scene (Answer place) = append-nil (map (name_of scene) (sources_of scene (Answer place)))
imported_sources scene (Entry span number) = append-nil (map (name_of scene) (sources_of scene (Entry span number)))
imported_sources scene (Join span number) = append-nil (map (name_of scene) (sources_of scene (Join span number)))

end_name : (scene : PlainScene) (place : ℕ) (b : Bool)
    → (cond b (imported_join scene (Whole place) AnyOf (Limit place ∷ Answer place ∷ [])) (imported_work scene (Whole place) (whole_work scene place))).name ≡ name_of scene (Whole place)
end_name scene place true = refl
end_name scene place false = refl

pub imported_name : (scene : PlainScene) (stage : StageId) → (imported scene stage).name ≡ name_of scene stage
imported_name scene (Start place) = refl
imported_name scene (Whole place) = end_name scene place (gave_up scene.known place)
imported_name scene (Work span number) = refl
imported_name scene (Tried place) = refl
imported_name scene (Limit place) = refl
imported_name scene (Answer place) = refl
imported_name scene (Entry span number) = refl
imported_name scene (Join span number) = refl

-- a feed is the place of a name
named_feed : (find : List ℕ → Option ℕ) (names others : List (List ℕ)) (feed : ℕ) → In (places_of find names ++ places_of find others) feed → (name : List ℕ) × In (names ++ others) name × (unwrap_or (find name) 0 ≡ feed)
named_feed find names others feed here = elim (in-append (places_of find names) (places_of find others) feed here) [
  | inl front ↦ let found = in_map (λ name. unwrap_or (find name) 0) names feed front in (found.0, in-front names others found.0 found.1, found.2)
  | inr back ↦ let found = in_map (λ name. unwrap_or (find name) 0) others feed back in (found.0, in-back names others found.0 found.1, found.2)
]

map_append : {X Y : Type 0} (f : X → Y) (xs ys : List X) → map f xs ++ map f ys ≡ map f (xs ++ ys)
map_append f [] ys = refl
map_append f (x ∷ xs) ys = ap (λ rest. f x ∷ rest) (map_append f xs ys)

module _ (scene : PlainScene) (stages : List StageId) (have : HaveSources scene stages) (text : StageName → List ℕ) (spec_of : PlainStage → Spec) (named : (stage : PlainStage) → IsNamedBy text stage (spec_of stage)) where
  abbrev pub specs_of : List Spec
  specs_of = map spec_of (map (imported scene) stages)

  pub spec_at : (k : ℕ) (spec : Spec) → slice_get specs_of k ≡ Some spec → (stage : StageId) × (slice_get stages k ≡ Some stage) × (spec_of (imported scene stage) ≡ spec)
  spec_at k spec here =
      let outer = option_mapped spec_of (slice_get (map (imported scene) stages) k) spec (sym (slice_get-map spec_of (map (imported scene) stages) k) ∙ here) in
      let inner = option_mapped (imported scene) (slice_get stages k) outer.0 (sym (slice_get-map (imported scene) stages k) ∙ outer.1) in
      (inner.0, inner.1, ap spec_of inner.2 ∙ outer.2)

  pub at_spec : (k : ℕ) (stage : StageId) → slice_get stages k ≡ Some stage → slice_get specs_of k ≡ Some (spec_of (imported scene stage))
  at_spec k stage here =
      slice_get-map spec_of (map (imported scene) stages) k ∙ ap (option_map spec_of) (slice_get-map (imported scene) stages k) ∙ ap (λ found. option_map spec_of (option_map (imported scene) found)) here

  -- the place to which the name of a stage leads has that stage
  pub source_at : first_refused (place_of specs_of) 0 specs_of ≡ None → (source : StageId) → In stages source → (k : ℕ) × (slice_get stages k ≡ Some source) × (place_of specs_of (text (name_of scene source)) ≡ Some k)
  source_at none source here =
      let at = in_place stages source here in
      let e : 0 + at.0 ≡ at.0 = omega arith in
      let found : place_of specs_of (spec_of (imported scene source)).name ≡ Some (0 + at.0) = found_at (place_of specs_of) 0 specs_of at.0 (spec_of (imported scene source)) none (at_spec at.0 source at.1) in
      let name : (spec_of (imported scene source)).name ≡ text (name_of scene source) = (named (imported scene source)).name ∙ ap text (imported_name scene source) in
      (at.0, at.1, ap (place_of specs_of) (sym name) ∙ found ∙ ap Some e)

  feed_at : first_refused (place_of specs_of) 0 specs_of ≡ None → (place feed : ℕ) (stage : StageId) → slice_get stages place ≡ Some stage
      → In (places_of (place_of specs_of) (spec_of (imported scene stage)).sources ++ places_of (place_of specs_of) (spec_of (imported scene stage)).inner) feed
      → (source : StageId) × In (sources_of scene stage) source × (slice_get stages feed ≡ Some source)
  feed_at none place feed stage at here =
      let made = named (imported scene stage) in
      let by_name = named_feed (place_of specs_of) (spec_of (imported scene stage)).sources (spec_of (imported scene stage)).inner feed here in
      let all : (spec_of (imported scene stage)).sources ++ (spec_of (imported scene stage)).inner ≡ map text (map (name_of scene) (sources_of scene stage)) =
      ap (λ names. names ++ (spec_of (imported scene stage)).inner) made.sources ∙ ap (λ names. map text (imported scene stage).sources ++ names) made.inner
      ∙ map_append text (imported scene stage).sources (option_to_list (imported scene stage).inner) ∙ ap (map text) (imported_sources scene stage) in
      let by_text = in_map text (map (name_of scene) (sources_of scene stage)) by_name.0 (subst (λ names. In names by_name.0) all by_name.1) in
      let by_source = in_map (name_of scene) (sources_of scene stage) by_text.0 by_text.1 in
      let stands : In stages by_source.0 = contains_in stages by_source.0 (have stage by_source.0 (in_contains stages stage (in-at stages place stage at)) (in_contains (sources_of scene stage) by_source.0 by_source.1)) in
      let found = source_at none by_source.0 stands in
      let name : text (name_of scene by_source.0) ≡ by_name.0 = ap text by_source.2 ∙ by_text.2 in
      let same : found.0 ≡ feed = ap (λ j. unwrap_or j 0) (sym (sym (ap (place_of specs_of) name) ∙ found.2)) ∙ by_name.2 in
      (by_source.0, by_source.1, subst (λ j. slice_get stages j ≡ Some by_source.0) same found.1)

  feeds_down : (key_of : StageId → Key) → ((stage source : StageId) → In (sources_of scene stage) source → Below (key_of source) (key_of stage)) → first_refused (place_of specs_of) 0 specs_of ≡ None
      → (place feed : ℕ) → Contains (feeds_at (stages_from (place_of specs_of) 0 specs_of) place) feed
      → (stage source : StageId) × (slice_get stages place ≡ Some stage) × (slice_get stages feed ≡ Some source) × Below (key_of source) (key_of stage)
  feeds_down key_of down none place feed here =
      by_spec (slice_get specs_of place) refl (subst (λ found. Contains (feeds_of_place found) feed) (stages_at (place_of specs_of) 0 specs_of place) here)
    where
      by_spec : (found : Option Spec) → slice_get specs_of place ≡ found → Contains (feeds_of_place (option_map (stage_of (place_of specs_of) (0 + place)) found)) feed
          → (stage source : StageId) × (slice_get stages place ≡ Some stage) × (slice_get stages feed ≡ Some source) × Below (key_of source) (key_of stage)
      by_spec None at here = absurd (contains_in [] feed here)
      by_spec (Some spec) at here =
          let mine = spec_at place spec at in
          let all : In (places_of (place_of specs_of) spec.sources ++ places_of (place_of specs_of) spec.inner) feed = contains_in (places_of (place_of specs_of) spec.sources ++ places_of (place_of specs_of) spec.inner) feed here in
          let source = feed_at none place feed mine.0 mine.1 (subst (λ those. In (places_of (place_of specs_of) those.sources ++ places_of (place_of specs_of) those.inner) feed) (sym mine.2) all) in
          (mine.0, source.0, mine.1, source.2, down mine.0 source.0 source.1)

  pub ranked : (key_of : StageId → Key) → ((stage source : StageId) → In (sources_of scene stage) source → Below (key_of source) (key_of stage)) → (mode : Mode) (graph : PlainGraph) → loaded mode specs_of ≡ Ok graph → IsRanked graph.places
  ranked key_of down mode graph is =
      let both = loaded_is mode specs_of graph is in
      let count : length (stages_from (place_of specs_of) 0 specs_of) ≡ length stages = stages_count (place_of specs_of) 0 specs_of ∙ length_mapped spec_of (map (imported scene) stages) ∙ length_mapped (imported scene) stages in
      subst IsRanked both.1 (is_ranked (stages_from (place_of specs_of) 0 specs_of) stages key_of count (feeds_down key_of down both.0))

-- where what stages wait for are stages, there is no circle
pub no_circle_among : (as_told : AsTold) (spans : List Span) (relations : PlainRelations) (is : IsFamily as_told spans relations) (moments : List At) (are : AreMoments relations.intervals moments)
    → HaveSources (trace_scene spans relations as_told moments) (trace_stages spans relations as_told moments) → (text : StageName → List ℕ) (spec_of : PlainStage → Spec) → ((stage : PlainStage) → IsNamedBy text stage (spec_of stage))
    → (mode : Mode) (graph : PlainGraph) → loaded mode (map spec_of (map (imported (trace_scene spans relations as_told moments)) (trace_stages spans relations as_told moments))) ≡ Ok graph → IsRanked graph.places
no_circle_among as_told spans relations is moments are have text spec_of named mode graph loads =
    ranked (trace_scene spans relations as_told moments) (trace_stages spans relations as_told moments) have text spec_of named
    (key spans relations is moments are (failures_by (known_of spans relations as_told moments) (visits relations.parents relations.order)))
    (lesser spans relations is moments are (failures_by (known_of spans relations as_told moments) (visits relations.parents relations.order))) mode graph loads
