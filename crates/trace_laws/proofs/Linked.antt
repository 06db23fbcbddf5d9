-- The stages of the spans of a trace: each once, and with each stage its sources and its inner stages.
use Rattle.std.proofs.Common.{◌≡◌, ℕ, suc, zero, ◌<◌, ◌≤◌, List, [], ◌∷◌, Bool, true, false, cond, length, map, Option, Some, None, is_some, refl, sym, ap, ◌∙◌, inl, inr, subst, arith}
use Rattle.std.specs.Prelude.{◌⊎◌, nat_lt, option_and_then, slice_get}
use Rattle.std.proofs.lemmas.Bool.{true≢false}
use Rattle.std.proofs.lemmas.Bool.Decides.{nat_tests}
use Rattle.std.proofs.lemmas.Option.{none-some, same_Some, slice_get_within}
use Rattle.trace_relations.specs.Relations.{PlainRelations}
use Rattle.trace_relations.specs.declared.as_told.AsTold.{AsTold}
use Rattle.trace_spans.specs.declared.span.Span.{Span}
use Rattle.trace_stages.specs.Known.{gave_up}
use Rattle.trace_stages.specs.Moments.{AreMoments, At}
use Rattle.trace_stages.specs.Order.{attempts_before, most_needed, ordered, tried_before}
use Rattle.trace_stages.specs.Scene.{PlainScene}
use Rattle.trace_stages.specs.Visits.{if_below, known as known_parent, parent_at, visits}
use Rattle.trace_stages.specs.declared.stage.Exception.{Exception}
use Rattle.trace_stages.specs.declared.tour.visit.Visit.{Visit}
use Rattle.trace_stages.specs.declared.tour.visit.Visit.TheVariants.{Enters, Leaves}
use Rattle.trace_stages.specs.declared.walk.stage_id.StageId.{StageId}
use Rattle.trace_stages.specs.declared.walk.stage_id.StageId.TheVariants.{Start, Whole, Entry, Join, Work, Tried, Limit, Answer}
use Rattle.trace_laws.proofs.Attempted.{IsTriedBy, before_tried, distinct_before, has_last, next_low, one_last, tried_next}
use Rattle.trace_laws.proofs.Members.{AreDistinct, IsIn, distinct_map, in_back, in_front, in_map, map_in}
use Rattle.trace_laws.proofs.Ordered.{IsNeeded, IsOrdered, TriesWell, is_ordered, lead}
use Rattle.trace_laws.proofs.Placed.{in_places, places_below, places_distinct}
use Rattle.trace_laws.proofs.Rooted.{trail}
use Rattle.trace_laws.proofs.Staged.{IsStage, all_inner, all_sources, inner_is, leads, source_is, the_scene}
use Rattle.trace_laws.proofs.Standing.{IsStanding}
use Rattle.trace_laws.proofs.Visited.{all_visited, distinct_all, place_of, visits_in_order}

before_is : (scene : PlainScene) (k : ℕ) (o : Option ℕ) → attempts_before scene k o ≡ trail scene.known.relations.attempts.previous k o
unfolding attempts_before
before_is scene zero o = refl
before_is scene (suc k) None = refl
before_is scene (suc k) (Some place) = ap (λ l. place ∷ l) (before_is scene k (scene.known.relations.attempts.previous place))

is_none_by : (o : Option ℕ) → is_some o ≡ false → o ≡ None
is_none_by None h = refl
is_none_by (Some q) h = absurd (true≢false h)

same_tried : (p q : ℕ) → Tried p ≡ Tried q → p ≡ q
same_tried p q e = cc

needed_or_not : (id : StageId) → IsNeeded id ⊎ (IsNeeded id → ⊥)
needed_or_not (Entry span number) = inl tt
needed_or_not (Join span number) = inl tt
needed_or_not (Work span number) = inl tt
needed_or_not other = inr (λ need. need)

module _ (n : ℕ) (spans : List Span) (relations : PlainRelations) (as_told : AsTold) (moments : List At) (failures : ℕ → Option Exception) (stand : IsStanding n relations) (are : AreMoments relations.intervals moments) where
  abbrev pub the_visits : List Visit
  the_visits = visits relations.parents relations.order

  abbrev scene : PlainScene
  scene = the_scene n spans relations as_told moments failures stand are

  abbrev pub the_order : List StageId
  the_order = ordered scene the_visits

  abbrev pub IsStageHere : StageId → Type 0
  IsStageHere id = IsStage n spans relations as_told moments failures stand are id

  -- the stages, each once, with their sources and their inner stages
  pub record AreLinked (order : List StageId) : Type 0 where
    pub distinct : AreDistinct order
    pub stages : (id : StageId) → IsIn id order → IsStageHere id
    pub sources : (id s : StageId) → IsIn id order → IsIn s (all_sources n spans relations as_told moments failures stand are id) → IsIn s order
    pub inner : (id s : StageId) → IsIn id order → IsIn s (all_inner n spans relations as_told moments failures stand are id) → IsIn s order
    pub ends : (place : ℕ) → place < n → IsIn (Whole place) order

  intervals_count : length relations.intervals ≡ n
  intervals_count = let calls = stand.calls in calls.intervals

  below : (place : ℕ) → IsIn place relations.order → place < n
  below place h = subst (λ (k : ℕ). place < k) intervals_count (places_below relations.intervals relations.order stand.by_start place h)

  placed : (place : ℕ) → place < n → IsIn place relations.order
  placed place low = in_places relations.intervals relations.order stand.by_start place (subst (λ (k : ℕ). place < k) (sym intervals_count) low)

  visited_below : (visit : Visit) → IsIn visit the_visits → place_of visit < n
  visited_below visit h = below (place_of visit) (visits_in_order relations.parents relations.order visit h)

  record IsBelow (p : ℕ) (q : ℕ) : Type 0 where
    known : known_parent (slice_get relations.parents p) ≡ Some q
    low : q < length relations.parents

  below_pick : (p q r : ℕ) (b : Bool) → known_parent (slice_get relations.parents p) ≡ Some r → nat_lt r (length relations.parents) ≡ b → cond b (Some r) None ≡ Some q → IsBelow p q
  below_pick p q r true e low is = record { known = e ∙ ap Some (same_Some r q is); low = subst (λ (k : ℕ). k < length relations.parents) (same_Some r q is) (grind (arith, nat_tests)) }
  below_pick p q r false e low is = absurd (none-some q is)

  parent_below : (p q : ℕ) → parent_at relations.parents p ≡ Some q → IsBelow p q
  parent_below p q h = by (known_parent (slice_get relations.parents p)) refl h
    where
      by : (o : Option ℕ) → known_parent (slice_get relations.parents p) ≡ o → option_and_then (if_below (length relations.parents)) o ≡ Some q → IsBelow p q
      by None e is = absurd (none-some q is)
      by (Some r) e is = below_pick p q r (nat_lt r (length relations.parents)) e refl is

  known_within : (p q : ℕ) (o : Option (Option ℕ)) → slice_get relations.parents p ≡ o → known_parent o ≡ Some q → p < length relations.parents
  known_within p q None e h = absurd (none-some q h)
  known_within p q (Some parent) e h = slice_get_within relations.parents p parent e

  parents_in : (p q : ℕ) → parent_at relations.parents p ≡ Some q → IsIn p relations.order × IsIn q relations.order
  parents_in p q h =
      let is = parent_below p q h in
      let within = known_within p q (slice_get relations.parents p) refl is.known in
      (placed p (subst (λ (k : ℕ). p < k) stand.parents within), placed q (subst (λ (k : ℕ). q < k) stand.parents is.low))

  each_visited : (place : ℕ) → place < n → IsIn (Enters place) the_visits × IsIn (Leaves place) the_visits
  each_visited place low = let root = stand.rooted place low in all_visited relations.parents relations.order root.0 place parents_in (placed place low) root.1 root.2

  -- ---- calls that were tried again

  abbrev IsTriedHere : ℕ → ℕ → Type 0
  IsTriedHere place last = IsTriedBy relations.attempts place last

  abbrev before : ℕ → List ℕ
  before last = attempts_before scene most_needed (relations.attempts.previous last)

  tried_distinct : (last : ℕ) (b : Bool) → AreDistinct (cond b [] (map Tried (before last)))
  tried_distinct last true = tt
  tried_distinct last false =
      distinct_map Tried (before last)
      (subst AreDistinct (sym (before_is scene most_needed (relations.attempts.previous last))) (distinct_before n relations.intervals relations.attempts stand.attempts most_needed (relations.attempts.previous last)))
      (λ x z h t e. same_tried x z e)

  tried_of : (last : ℕ) (id : StageId) (b : Bool) → is_some (relations.attempts.next last) ≡ b → IsIn id (cond b [] (map Tried (before last))) → (place : ℕ) × (id ≡ Tried place) × IsTriedHere place last
  tried_of last id true e h = absurd h
  tried_of last id false e h =
      let of = in_map Tried (before last) id h in
      let within = subst (λ (l : List ℕ). IsIn of.0 l) (before_is scene most_needed (relations.attempts.previous last)) of.1 in
      (of.0, of.2, before_tried n relations.intervals relations.attempts stand.attempts most_needed last of.0 (is_none_by (relations.attempts.next last) e) within)

  tried_stage : (place last : ℕ) → IsTriedHere place last → IsStageHere (Tried place)
  tried_stage place last is =
      let some = tried_next n relations.intervals relations.attempts stand.attempts place last is in
      (next_low n relations.intervals relations.attempts stand.attempts place some, some)

  tries : TriesWell scene IsStageHere IsTriedHere
  tries = record {
    distinct = λ last. tried_distinct last (is_some (relations.attempts.next last));
    of = λ last id h. tried_of last id (is_some (relations.attempts.next last)) refl h;
    one = λ place last other is also. one_last relations.attempts place last other is also;
    stages = λ last id h. let of = tried_of last id (is_some (relations.attempts.next last)) refl h in subst IsStageHere (sym of.1) (tried_stage of.0 last of.2);
  }

  -- ---- the order

  leads_here : (id s : StageId) → IsStageHere id → lead scene IsStageHere id ≡ Some s → IsStageHere s
  leads_here id s is e = leads n spans relations as_told moments failures stand are id s is e

  module _ (few : length the_order ≤ most_needed) where
    is_so_ordered : IsOrdered scene IsStageHere IsTriedHere tries leads_here the_visits the_order
    is_so_ordered =
        is_ordered scene IsStageHere IsTriedHere tries leads_here the_visits
        (distinct_all relations.parents relations.order (places_distinct relations.intervals relations.order stand.by_start))
        (λ place h has. (visited_below (Enters place) h, has))
        (λ place h. let low = visited_below (Leaves place) h in record { whole = low; limit = λ gave. (low, gave); answer = λ gave. (low, gave) })
        few

    abbrev ends_if : Bool → ℕ → List StageId
    ends_if b place = cond b (Answer place ∷ Limit place ∷ Whole place ∷ []) (Whole place ∷ [])

    whole_end : (b : Bool) (place : ℕ) → IsIn (Whole place) (ends_if b place)
    whole_end true place = inr (inr (inl refl))
    whole_end false place = inl refl

    left_end : (place : ℕ) → place < n → (id : StageId) → IsIn id (ends_if (gave_up scene.known place) place) → IsIn id the_order
    left_end place low id h =
        let visited = each_visited place low in
        let so = is_so_ordered in
        so.left place visited.1 id (in_front id (ends_if (gave_up scene.known place) place) (tried_before scene place) h)

    end_in : (place : ℕ) → place < n → IsIn (Whole place) the_order
    end_in place low = left_end place low (Whole place) (whole_end (gave_up scene.known place) place)

    tried_in : (place : ℕ) → place < n → is_some (relations.attempts.next place) ≡ true → IsIn (Tried place) the_order
    tried_in place low some =
        let last = has_last n relations.intervals relations.attempts stand.attempts stand.few place low some in
        let visited = each_visited last.last last.low in
        let so = is_so_ordered in
        let put = map_in Tried (before last.last) place (subst (λ (l : List ℕ). IsIn place l) (sym (before_is scene most_needed (relations.attempts.previous last.last))) last.before) in
        let here : IsIn (Tried place) (tried_before scene last.last) = subst (λ (o : Option ℕ). IsIn (Tried place) (cond (is_some o) [] (map Tried (before last.last)))) (sym last.end) put in
        so.left last.last visited.1 (Tried place) (in_back (Tried place) (ends_if (gave_up scene.known last.last) last.last) (tried_before scene last.last) here)

    -- a stage that nothing has to need is put
    stage_in : (s : StageId) → (IsNeeded s → ⊥) → IsStageHere s → IsIn s the_order
    stage_in (Start place) sure is = let visited = each_visited place is.0 in let so = is_so_ordered in so.entered place visited.0 is.1
    stage_in (Whole place) sure is = end_in place is
    stage_in (Tried place) sure is = tried_in place is.0 is.1
    stage_in (Limit place) sure is = left_end place is.0 (Limit place) (subst (λ (b : Bool). IsIn (Limit place) (ends_if b place)) (sym is.1) (inr (inl refl)))
    stage_in (Answer place) sure is = left_end place is.0 (Answer place) (subst (λ (b : Bool). IsIn (Answer place) (ends_if b place)) (sym is.1) (inl refl))
    stage_in (Entry span number) sure is = absurd (sure tt)
    stage_in (Join span number) sure is = absurd (sure tt)
    stage_in (Work span number) sure is = absurd (sure tt)

    lead_in : (id s : StageId) → IsIn id the_order → lead scene IsStageHere id ≡ Some s → IsIn s the_order
    lead_in id s h e =
        let so = is_so_ordered in
        let good = so.good in
        elim (needed_or_not s) [
          | inl need ↦ good.closed id s h e need
          | inr sure ↦ stage_in s sure (leads_here id s (good.stages id h) e)
        ]

    pub are_linked : AreLinked the_order
    are_linked =
        let so = is_so_ordered in
        let good = so.good in
        record {
          distinct = good.distinct;
          stages = good.stages;
          sources = λ id s h t. elim (source_is n spans relations as_told moments failures stand are id (good.stages id h) s t) [
            | inl e ↦ lead_in id s h e
            | inr sure ↦ stage_in s sure.0 sure.1
          ];
          inner = λ id s h t. let sure = inner_is n spans relations as_told moments failures stand are id (good.stages id h) s t in stage_in s sure.0 sure.1;
          ends = λ place low. end_in place low;
        }
