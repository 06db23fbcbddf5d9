-- Each source of a stage has a lesser key: joins of what spans have, their own work, and what others begin from.
use Rattle.std.proofs.Common.{◌≡◌, ℕ, ◌+◌, ◌-◌, ◌*◌, ◌<◌, ◌≤◌, inl, inr, List, [], ◌∷◌, ◌++◌, cond, length, Option, Some, None, refl, sym, ap, ◌∙◌, subst, arith, append_assoc, length-append}
use Rattle.std.specs.Prelude.{◌⊎◌, find, is_some, nat_eq, slice_get, unwrap_or}
use Rattle.std.specs.Option.{option_map}
use Rattle.std.proofs.lemmas.Bool.{cases_lt, eqb-true}
use Rattle.std.proofs.lemmas.List.FromFn.{length-map-range_with_len}
use Rattle.std.proofs.lemmas.Option.{none-some, same_Some, slice_get_past, slice_get_within}
use Rattle.trace_relations.specs.Ancestry.{parent_at}
use Rattle.trace_relations.specs.Moments.{end_moment, interval_at, turn_number}
use Rattle.trace_relations.specs.Relations.{PlainRelations}
use Rattle.trace_relations.specs.declared.as_told.AsTold.{AsTold}
use Rattle.trace_relations.specs.declared.hosts.Host.TheVariants.{Inside}
use Rattle.trace_relations.specs.declared.moment.Moment.{Moment}
use Rattle.trace_spans.specs.declared.span.Span.{Span}
use Rattle.trace_stages.specs.Beginnings.{all_begins, begun, option_list}
use Rattle.trace_stages.specs.HandedOn.{all_handed, handed_sources}
use Rattle.trace_stages.specs.Known.{PlainKnown, had_at}
use Rattle.trace_stages.specs.Moments.{AreMoments, At}
use Rattle.trace_stages.specs.Order.{join_sources}
use Rattle.trace_stages.specs.Outcomes.{join_outcomes, outcome_of}
use Rattle.trace_stages.specs.Scene.{PlainScene, handed_join, list_at, scene_of}
use Rattle.trace_stages.specs.StagesOf.{had, known_of}
use Rattle.trace_stages.specs.Works.{own_work, work_after}
use Rattle.trace_stages.specs.declared.stage.Exception.{Exception}
use Rattle.trace_stages.specs.declared.walk.holding.Begin.{Begin}
use Rattle.trace_stages.specs.declared.walk.holding.OwnWork.{OwnWork}
use Rattle.trace_stages.specs.declared.walk.joins.JoinsOf.TheVariants as joins_of
use Rattle.trace_stages.specs.declared.walk.stage_id.StageId.{StageId}
use Rattle.trace_stages.specs.declared.walk.stage_id.StageId.TheVariants.{Start, Whole, Join, Work, Tried}
use Rattle.trace_laws.proofs.Dictionary.{Below, Key, by_rest}
use Rattle.trace_laws.proofs.Each.{In, each-in, in_flat_map}
use Rattle.trace_laws.proofs.Falling.{Piece, given_at, in_mapped_range, join_place, joins_are_made, least_is, lower_first, past_top, settled, tried_below, two_less_top, waited_below, waited_height, waited_key, work_below, work_inside, works_of}
use Rattle.trace_laws.proofs.GivingUp.{gave_up_is}
use Rattle.trace_laws.proofs.Having.{BeganWell, HadBase, WaitedCall, held_well}
use Rattle.trace_laws.proofs.Joining.{Extends, Made, made-at}
use Rattle.trace_laws.proofs.Keys.{Last, capped_least, capped_most, capped_top, child_key, end_height, end_is, end_then_start, ended_below_start, entry_in_host, entry_key, had_is, high, high_end, high_start, host_below, host_shallower, host_within, join_height, joins_at, key, key_in, least, lt_same, number_is, own_joins, own_key, same_span, start_below_end, start_height, start_is, start_then_start, three-below, tried_key, work_height, work_is}
use Rattle.trace_laws.proofs.Numbers.{end_number, number, start_number}
use Rattle.trace_laws.proofs.Relations.{IsFamily, ended_place, found_in, inside_host_is, turn_three}
use Rattle.trace_laws.proofs.Rising.{EndedCall, Within, ended_later}
use Rattle.trace_laws.proofs.Ticking.{at-extends, made_by, source_by_join}
use Rattle.trace_laws.proofs.Walking.{Base, IsWellMade, WorkedBy}

-- ---- numbers

lower_than : (a b h k : ℕ) → a ≤ b → (b < h) ⊎ ((b ≤ h) × (2 < k)) → (a < h) ⊎ ((a ≤ h) × (1 < k))
lower_than a b h k le (inl lt) = inl (omega arith)
lower_than a b h k le (inr (up, less)) = inr (omega arith, omega arith)

lower_join : (a b h k : ℕ) → a ≤ b → (b < h) ⊎ ((b ≤ h) × (2 < k)) → (a < h) ⊎ ((a ≤ h) × (2 < k))
lower_join a b h k le (inl lt) = inl (omega arith)
lower_join a b h k le (inr (up, less)) = inr (omega arith, less)

same_depth : (n m d : ℕ) → n < m → n * 262_144 + d < m * 262_144 + d
same_depth n m d lt = omega arith

less_up_to : (a b : ℕ) → a < b → a ≤ b - 1
less_up_to a b lt = omega arith

one_more_less : (a b : ℕ) → a + 1 < b → a ≤ b - 1
one_more_less a b lt = omega arith

le_trans : (a b c : ℕ) → a ≤ b → b ≤ c → a ≤ c
le_trans a b c le more = omega arith

same_le : (a b c : ℕ) → a ≡ b → b ≤ c → a ≤ c
same_le a b c same le = omega arith

le_itself : (a : ℕ) → a ≤ a
le_itself a = omega arith

work_later : (u r v : ℕ) → u ≤ r → r < v → u * 3 + 1 < v * 3 + 1
work_later u r v le lt = omega arith

start_sooner : (s r v : ℕ) → s ≤ r * 3 + 1 → r < v → s < v * 3 + 1
start_sooner s r v le lt = omega arith

end_sooner : (t u r v : ℕ) → u < 3 → t ≤ r → r < v → t * 3 + u < v * 3 + 1
end_sooner t u r v few le lt = omega arith

below_longer : (k n m l : ℕ) → k < n → m ≡ n + l → k < m
below_longer k n m l lt same = omega arith

pub option_in : (found : Option StageId) (source : StageId) → In (option_list found) source → found ≡ Some source
option_in None source here = absurd here
option_in (Some id) source (inl same) = ap Some same
option_in (Some id) source (inr later) = absurd later

module _ {as_told : AsTold} (spans : List Span) (relations : PlainRelations) (is : IsFamily as_told spans relations) (moments : List At) (are : AreMoments relations.intervals moments) (failures : ℕ → Option Exception) where
  abbrev Known : PlainKnown
  Known = known_of spans relations as_told moments

  abbrev Scene : PlainScene
  Scene = scene_of (known_of spans relations as_told moments) failures

  abbrev key_of : StageId → Key
  key_of id = key spans relations is moments are failures id

  abbrev In_span : ℕ → Key → Key
  In_span place own = key_in spans relations is moments are failures place own

  abbrev own_of : StageId → Key
  own_of id = own_key spans relations is moments are failures id

  abbrev top : ℕ → ℕ
  top place = high_end spans relations is moments are failures place

  abbrev low : ℕ → ℕ
  low place = high_start spans relations is moments are failures place

  abbrev Joins : ℕ → List (List StageId)
  Joins place = joins_at spans relations is moments are failures place

  abbrev Own : ℕ → List (List StageId)
  Own place = own_joins spans relations is moments are failures place

  abbrev nth : ℕ → ℕ → ℕ
  nth place count = least spans relations is moments are failures place count

  abbrev worth : ℕ → OwnWork → ℕ
  worth place work = work_height spans relations is moments are failures place work

  abbrev works_in : ℕ → List OwnWork
  works_in place = works_of spans relations is moments are failures place

  abbrev Part_of : ℕ → ℕ → StageId → Type 0
  Part_of place n id = Piece spans relations is moments are failures place n id

  abbrev height : ℕ → StageId → ℕ
  height place id = (outcome_of (high spans relations is moments are failures) (join_outcomes (high spans relations is moments are failures) (Joins place)) id).tick

  abbrev join_top : ℕ → ℕ → ℕ
  join_top place count = join_height spans relations is moments are failures place count

  abbrev entry_of : ℕ → Key
  entry_of place = entry_key spans relations is moments are failures place

  -- ---- joins of what a span has

  fits : (place n x : ℕ) → x ≤ height place (Join place n) → ((end : Moment) → end_moment (interval_at relations.intervals place) ≡ Some end → x ≤ top place - 1) → x ≤ join_top place n
  fits place n x le below = capped_least (end_moment (interval_at relations.intervals place)) (top place) (height place (Join place n)) x le below

  given_join : (caller child n : ℕ) (next : Option ℕ) → relations.attempts.next child ≡ next → parent_at relations.given_up child ≡ Some caller → height caller (cond (is_some next) (Tried child) (Whole child)) ≤ height caller (Join caller n)
      → Below (key_of (cond (is_some next) (Tried child) (Whole child))) (In_span caller (join_top caller n ∷ 2 ∷ n ∷ []))
  given_join caller child n None none gave le =
      let gave_up = gave_up_is spans relations is child caller gave in
      elim (cases_lt (top caller - 1) (top child)) [
        | inl lt ↦ given_at spans relations is moments are failures caller child None (join_top caller n) 2 n none gave (fits caller n (top caller - 1) (past_top (top child) (top caller) (height caller (Join caller n)) lt le) (λ end ends. le_itself (top caller - 1)))
        | inr ge ↦ child_key spans relations is moments are failures child caller (join_top caller n ∷ 2 ∷ n ∷ []) gave_up.child (three-below (top child) 0 0 (join_top caller n) 2 n (inr (fits caller n (top child) le (λ end ends. ge), omega arith)))
      ]
  given_join caller child n (Some again) some gave le =
      let gave_up = gave_up_is spans relations is child caller gave in
      tried_key spans relations is moments are failures child caller (join_top caller n ∷ 2 ∷ n ∷ []) gave_up.child
      (three-below (top (Last spans relations is moments are failures child)) 1 _ (join_top caller n) 2 n
      (inr (
        fits caller n (top (Last spans relations is moments are failures child)) le
            (λ end ends. two_less_top (top (Last spans relations is moments are failures child)) (top caller) (tried_below spans relations is moments are failures child again caller end some gave ends)),
        omega arith,
      )))

  piece_in_join : (place n : ℕ) (id : StageId) → place < length relations.intervals → n < length (Joins place) → Part_of place n id → height place id ≤ height place (Join place n) → Below (key_of id) (In_span place (join_top place n ∷ 2 ∷ n ∷ []))
  piece_in_join place n id lt within (inl (inl same)) le =
      subst (λ those. height place those ≤ height place (Join place n) → Below (key_of those) (In_span place (join_top place n ∷ 2 ∷ n ∷ []))) (sym same)
      (λ small. same_span spans relations is moments are failures place (own_of (Start place)) (join_top place n ∷ 2 ∷ n ∷ [])
      (three-below (low place) 0 0 (join_top place n) 2 n (inr (fits place n (low place) small (λ end ends. two_less_top (low place) (top place) (start_below_end spans relations is moments are failures place end ends)), omega arith)))) le
  piece_in_join place n id lt within (inl (inr (inl (inl call)))) le =
      waited_key spans relations is moments are failures place id call (join_top place n) 2 n
      (inr (
        fits place n (top call.child) (same_le (top call.child) (height place id) (height place (Join place n)) (sym (waited_height spans relations is moments are failures place place id call)) le)
            (λ end ends. two_less_top (top call.child) (top place) (waited_below spans relations is moments are failures place id call end ends)),
        omega arith,
      ))
  piece_in_join place n id lt within (inl (inr (inl (inr call)))) le =
      subst (λ those. height place those ≤ height place (Join place n) → Below (key_of those) (In_span place (join_top place n ∷ 2 ∷ n ∷ []))) (sym call.is)
      (given_join place call.child n (relations.attempts.next call.child) refl call.gave) le
  piece_in_join place n id lt within (inl (inr (inr (count, (work, at), same)))) le =
      subst (λ those. height place those ≤ height place (Join place n) → Below (key_of those) (In_span place (join_top place n ∷ 2 ∷ n ∷ []))) (sym same)
      (λ small. same_span spans relations is moments are failures place (own_of (Work place count)) (join_top place n ∷ 2 ∷ n ∷ [])
      (three-below (height place (Work place count)) 0 0 (join_top place n) 2 n (inr (
        fits place n (height place (Work place count)) small
            (λ end ends. same_le (height place (Work place count)) (worth place work) (top place - 1) (work_is spans relations is moments are failures place count work lt at)
            (two_less_top (worth place work) (top place) (work_below spans relations is moments are failures place count work end ends at))),
        omega arith,
      )))) le
  piece_in_join place n id lt within (inr (k, less, same)) le =
      subst (λ those. height place those ≤ height place (Join place n) → Below (key_of those) (In_span place (join_top place n ∷ 2 ∷ n ∷ []))) (sym same)
      (λ small. subst (λ j. Below (In_span place (join_top place j ∷ 2 ∷ j ∷ [])) (In_span place (join_top place n ∷ 2 ∷ n ∷ [])))
      (sym (least_is spans relations is moments are failures place k (less_trans k n (length (Joins place)) less within)))
      (same_span spans relations is moments are failures place (join_top place k ∷ 2 ∷ k ∷ []) (join_top place n ∷ 2 ∷ n ∷ [])
      (by_rest (join_top place k) (join_top place n) (2 ∷ k ∷ []) (2 ∷ n ∷ [])
      (fits place n (join_top place k)
      (le_trans (join_top place k) (height place (Join place k)) (height place (Join place n)) (capped_most (end_moment (interval_at relations.intervals place)) (top place) (height place (Join place k))) small)
      (λ end ends. capped_top (end_moment (interval_at relations.intervals place)) end (top place) (height place (Join place k)) ends))
      (inr (refl, inl less))))) le
    where
      less_trans : (a b c : ℕ) → a < b → b < c → a < c
      less_trans a b c lt more = omega arith

  pub no_had : (place : ℕ) → length relations.intervals ≤ place → had_at Known.hads place ≡ record { has = Start place; joins = []; works = []; begins = []; answer = None }
  no_had place le =
      ap (λ found. unwrap_or found (record { has = Start place; joins = []; works = []; begins = []; answer = None }))
      (slice_get_past Known.hads place (same_le (length Known.hads) (length relations.intervals) place (length-map-range_with_len (had relations moments) 0 (length relations.intervals)) le))

  pub no_handed : (place : ℕ) → length relations.intervals ≤ place → list_at (all_handed Known failures) place ≡ []
  no_handed place le =
      ap (λ found. unwrap_or found [])
      (slice_get_past (all_handed Known failures) place (same_le (length (all_handed Known failures)) (length relations.intervals) place (length-map-range_with_len (handed_sources Known failures) 0 (length relations.intervals)) le))

  pub no_join : (place count : ℕ) → length relations.intervals ≤ place → join_sources Scene place count ≡ []
  no_join place count le = ap (λ those. unwrap_or (slice_get those.joins count) (list_at (all_handed Known failures) place)) (no_had place le) ∙ no_handed place le

  pub join_below : (place count : ℕ) (source : StageId) → In (join_sources Scene place count) source → Below (key_of source) (key_of (Join place count))
  join_below place count source here = elim (cases_lt place (length relations.intervals)) [
    | inl lt ↦
        let at : slice_get (Joins place) (nth place count) ≡ Some (join_sources Scene place count) =
        join_place spans relations is moments are failures place count source (slice_get (Own place) count) refl here in
        let made = joins_are_made spans relations is moments are failures place lt in
        piece_in_join place (nth place count) source lt (slice_get_within (Joins place) (nth place count) (join_sources Scene place count) at)
        (each-in (Part_of place (nth place count)) (join_sources Scene place count)
        (made-at (joins_of.Holding place) (HadBase relations (works_in place) place) 0 (nth place count) (nth place count) (Joins place) (join_sources Scene place count) (omega arith) made at) source here)
        (source_by_join (high spans relations is moments are failures) (joins_of.Holding place) (λ those k. refl) (HadBase relations (works_in place) place) (settled spans relations is moments are failures place) (Joins place)
        (nth place count) (join_sources Scene place count) source made at here)
    | inr ge ↦ absurd (subst (λ those. In those source) (no_join place count ge) here)
  ]

  -- ---- what a span had by a number

  abbrev EarlyBase : ℕ → List OwnWork → ℕ → ℕ → StageId → Type 0
  EarlyBase place those now reached id = Base place (EndedCall relations place now reached) (WorkedBy those now reached) id

  abbrev IsWell : ℕ → ℕ → ℕ → StageId → Type 0
  IsWell place now reached id =
      IsWellMade place (EndedCall relations place) (start_number relations.intervals) (Within place relations (length relations.intervals)) (ended_later relations place) (had relations moments place).joins (works_in place) now reached id

  early_below : (place now reached : ℕ) (those : List OwnWork) (id : StageId) → EarlyBase place those now reached id → (h k t : ℕ) → (height place id < h) ⊎ ((height place id ≤ h) × (1 < k)) → Below (key_of id) (In_span place (h ∷ k ∷ t ∷ []))
  early_below place now reached those id (inl same) h k t less =
      subst (λ other. (height place other < h) ⊎ ((height place other ≤ h) × (1 < k)) → Below (key_of other) (In_span place (h ∷ k ∷ t ∷ []))) (sym same)
      (λ small. same_span spans relations is moments are failures place (own_of (Start place)) (h ∷ k ∷ t ∷ []) (three-below (low place) 0 0 h k t (lower_first (low place) h k small))) less
  early_below place now reached those id (inr (inl ended)) h k t less =
      let call : WaitedCall relations place id = record { child = ended.child; end = ended.end; ends = ended.ends; waits = ended.waits; last = ended.last; is = ended.is } in
      waited_key spans relations is moments are failures place id call h k t
      (subst (λ n. (n < h) ⊎ ((n ≤ h) × (1 < k))) (waited_height spans relations is moments are failures place place id call) less)
  early_below place now reached those id (inr (inr (count, worked, same))) h k t less =
      subst (λ other. (height place other < h) ⊎ ((height place other ≤ h) × (1 < k)) → Below (key_of other) (In_span place (h ∷ k ∷ t ∷ []))) (sym same)
      (λ small. same_span spans relations is moments are failures place (own_of (Work place count)) (h ∷ k ∷ t ∷ []) (three-below (height place (Work place count)) 0 0 h k t (lower_first (height place (Work place count)) h k small))) less

  -- where all that it is made of is no higher than some height
  well_below : (place now reached : ℕ) (id : StageId) → place < length relations.intervals → (well : IsWell place now reached id) → (b : ℕ) → ((base : StageId) → EarlyBase place well.those now reached base → height place base ≤ b)
      → (h k t : ℕ) → (b < h) ⊎ ((b ≤ h) × (2 < k)) → Below (key_of id) (In_span place (h ∷ k ∷ t ∷ []))
  well_below place now reached id lt well b low_bases h k t less = by_made well.«from»
    where
      by_made : Made (joins_of.Holding place) (EarlyBase place well.those now reached) (length well.before) id → Below (key_of id) (In_span place (h ∷ k ∷ t ∷ []))
      by_made (inl base) = early_below place now reached well.those id base h k t (lower_than (height place id) b h k (low_bases id base) less)
      by_made (inr (n, short, same)) =
          let own : Own place ≡ (had relations moments place).joins = ap (λ those. those.joins) (had_is spans relations is moments are failures place lt) in
          let all : Joins place ≡ well.before ++ (well.extends.0 ++ handed_join (list_at (all_handed Known failures) place)) =
          ap (λ those. those ++ handed_join (list_at (all_handed Known failures) place)) (own ∙ well.extends.1)
          ∙ append_assoc well.before well.extends.0 (handed_join (list_at (all_handed Known failures) place)) in
          let le : height place (Join place n) ≤ b =
          made_by (high spans relations is moments are failures) (joins_of.Holding place) (λ those j. refl) (HadBase relations (works_in place) place) (settled spans relations is moments are failures place) (Joins place) well.before
          (EarlyBase place well.those now reached) b (joins_are_made spans relations is moments are failures place lt) (well.extends.0 ++ handed_join (list_at (all_handed Known failures) place), all) well.made low_bases (Join place n) (inr (n, short, refl)) in
          let longer : n < length (Joins place) =
          below_longer n (length well.before) (length (Joins place)) (length (well.extends.0 ++ handed_join (list_at (all_handed Known failures) place))) short
          (ap length all ∙ length-append well.before (well.extends.0 ++ handed_join (list_at (all_handed Known failures) place))) in
          subst (λ other. Below (key_of other) (In_span place (h ∷ k ∷ t ∷ []))) (sym same)
          (subst (λ j. Below (In_span place (join_top place j ∷ 2 ∷ j ∷ [])) (In_span place (h ∷ k ∷ t ∷ []))) (sym (least_is spans relations is moments are failures place n longer))
          (same_span spans relations is moments are failures place (join_top place n ∷ 2 ∷ n ∷ []) (h ∷ k ∷ t ∷ [])
          (three-below (join_top place n) 2 n h k t
          (lower_join (join_top place n) b h k (le_trans (join_top place n) (height place (Join place n)) b (capped_most (end_moment (interval_at relations.intervals place)) (top place) (height place (Join place n))) le) less))))

  -- ---- own work

  work_bases : (place : ℕ) (work : OwnWork) (now reached : ℕ) (those : List OwnWork) → place < length relations.intervals → Extends those (works_in place) → start_number relations.intervals place ≤ reached * 3 + 1 → reached < work.until
      → (base : StageId) → EarlyBase place those now reached base → height place base ≤ worth place work - 1
  work_bases place work now reached those lt extends since sooner base (inl same) =
      subst (λ other. height place other ≤ worth place work - 1) (sym same)
      (less_up_to (low place) (worth place work)
      (lt_same (low place) (start_height spans relations is moments are failures place) (worth place work) (worth place work) (start_is spans relations is moments are failures place lt) refl
      (same_depth (start_number relations.intervals place) (work.until * 3 + 1) _ (start_sooner (start_number relations.intervals place) reached work.until since sooner))))
  work_bases place work now reached those lt extends since sooner base (inr (inl ended)) =
      let call : WaitedCall relations place base = record { child = ended.child; end = ended.end; ends = ended.ends; waits = ended.waits; last = ended.last; is = ended.is } in
      same_le (height place base) (top ended.child) (worth place work - 1) (waited_height spans relations is moments are failures place place base call)
      (one_more_less (top ended.child) (worth place work)
      (plus_one (top ended.child) (end_height spans relations is moments are failures ended.child) (worth place work)
      (end_is spans relations is moments are failures ended.child (ended_place relations.intervals ended.child ended.end ended.ends))
      (end_then_start (end_number relations.intervals ended.child) (work.until * 3 + 1) _ _
      (lt_same (end_number relations.intervals ended.child) (number ended.end) (work.until * 3 + 1) (work.until * 3 + 1) (number_is spans relations is moments are failures ended.child ended.end ended.ends) refl
      (end_sooner ended.end.tick (turn_number ended.end.turn) reached work.until (turn_three ended.end.turn) ended.reaches sooner)))))
    where
      plus_one : (a b c : ℕ) → a ≡ b → b + 1 < c → a + 1 < c
      plus_one a b c same lt = omega arith
  work_bases place work now reached those lt extends since sooner base (inr (inr (count, worked, same))) =
      subst (λ other. height place other ≤ worth place work - 1) (sym same)
      (less_up_to (height place (Work place count)) (worth place work)
      (lt_same (height place (Work place count)) (worth place worked.work) (worth place work) (worth place work)
      (work_is spans relations is moments are failures place count worked.work lt (at-extends those (works_in place) count worked.work extends worked.is)) refl
      (same_depth (worked.work.until * 3 + 1) (work.until * 3 + 1) _ (work_later worked.work.until reached work.until worked.reaches sooner))))

  below_next : (a b : ℕ) → 0 < b → a ≤ b - 1 → a < b
  below_next a b some le = omega arith

  after_work : (place count : ℕ) (work : OwnWork) → place < length relations.intervals → slice_get (works_in place) count ≡ Some work → Below (key_of work.after) (key_of (Work place count))
  after_work place count work lt at =
      let inside = work_inside spans relations is moments are failures place count work at in
      subst (λ n. Below (key_of work.after) (In_span place (n ∷ 0 ∷ 0 ∷ []))) (sym (work_is spans relations is moments are failures place count work lt at))
      (well_below place inside.now inside.reached work.after lt inside.well (worth place work - 1) (work_bases place work inside.now inside.reached inside.well.those lt inside.well.more inside.since inside.sooner)
      (worth place work) 0 0 (inl (below_next (worth place work - 1) (worth place work) (some_worth work.until _) (le_itself (worth place work - 1)))))
    where
      some_worth : (u d : ℕ) → 0 < (u * 3 + 1) * 262_144 + d
      some_worth u d = omega arith

  pub work_source_below : (place count : ℕ) (source : StageId) → In (option_list (own_work Scene place count).source) source → Below (key_of source) (key_of (Work place count))
  work_source_below place count source here = by_work (slice_get (had_at Known.hads place).works count) refl here
    where
      by_work : (found : Option OwnWork) → slice_get (had_at Known.hads place).works count ≡ found → In (option_list (work_after Scene found).source) source → Below (key_of source) (key_of (Work place count))
      by_work None at here = absurd here
      by_work (Some work) at here = elim (cases_lt place (length relations.intervals)) [
        | inl lt ↦
            subst (λ id. Below (key_of id) (key_of (Work place count))) (same_Some work.after source (option_in (Some work.after) source here))
            (after_work place count work lt (ap (λ those. slice_get those.works count) (sym (had_is spans relations is moments are failures place lt)) ∙ at))
        | inr ge ↦ absurd (none-some work (sym (ap (λ those. slice_get those.works count) (no_had place ge)) ∙ at))
      ]

  -- ---- what another span begins from

  begin_bases : (place host : ℕ) (reached : ℕ) (those : List OwnWork) → place < length relations.intervals → slice_get relations.hosts place ≡ Some (Inside host) → Extends those (works_in host)
      → (base : StageId) → EarlyBase host those (start_number relations.intervals place) reached base → height host base ≤ low place - 1
  begin_bases place host reached those lt inside extends base (inl same) =
      subst (λ other. height host other ≤ low place - 1) (sym same) (less_up_to (low host) (low place) (host_below spans relations is moments are failures place host lt inside))
  begin_bases place host reached those lt inside extends base (inr (inl ended)) =
      let call : WaitedCall relations host base = record { child = ended.child; end = ended.end; ends = ended.ends; waits = ended.waits; last = ended.last; is = ended.is } in
      same_le (height host base) (top ended.child) (low place - 1) (waited_height spans relations is moments are failures host host base call)
      (one_more_less (top ended.child) (low place) (ended_below_start spans relations is moments are failures ended.child place ended.end ended.ends ended.by lt))
  begin_bases place host reached those lt inside extends base (inr (inr (count, worked, same))) =
      subst (λ other. height host other ≤ low place - 1) (sym same)
      (less_up_to (height host (Work host count)) (low place)
      (lt_same (height host (Work host count)) (worth host worked.work) (low place) (start_height spans relations is moments are failures place)
      (work_is spans relations is moments are failures host count worked.work (host_within spans relations is moments are failures place host inside) (at-extends those (works_in host) count worked.work extends worked.is))
      (start_is spans relations is moments are failures place lt)
      (start_then_start (worked.work.until * 3 + 1) (start_number relations.intervals place) _ _ worked.by (host_shallower spans relations is moments are failures place host inside))))

  -- below the joins at the start of the span
  begin_below : (place host : ℕ) (begin : Begin) → place < length relations.intervals → begin.span ≡ place → BeganWell relations host (had relations moments host).joins (works_in host) begin → Below (key_of begin.from) (In_span place (entry_of place))
  begin_below place host begin lt same began =
      let inside : slice_get relations.hosts place ≡ Some (Inside host) = subst (λ p. slice_get relations.hosts p ≡ Some (Inside host)) same began.inside in
      let well : IsWell host (start_number relations.intervals place) began.reached begin.from = subst (λ p. IsWell host (start_number relations.intervals p) began.reached begin.from) same began.well in
      subst (Below (key_of begin.from)) (sym (entry_in_host spans relations is moments are failures place host lt (inside_host_is spans relations is place host inside)))
      (well_below host (start_number relations.intervals place) began.reached begin.from (host_within spans relations is moments are failures place host inside) well (low place - 1)
      (begin_bases place host began.reached well.those lt inside well.more) (low place - 1) 3 0 (inr (le_itself (low place - 1), omega arith)))

  pub begun_below : (place : ℕ) (id : StageId) → place < length relations.intervals → begun Known place ≡ Some id → Below (key_of id) (In_span place (entry_of place))
  begun_below place id lt begins = by_find (find (λ begin. nat_eq begin.span place) (all_begins Known.hads)) refl begins
    where
      by_find : (found : Option Begin) → find (λ begin. nat_eq begin.span place) (all_begins Known.hads) ≡ found → option_map (λ begin. begin.from) found ≡ Some id → Below (key_of id) (In_span place (entry_of place))
      by_find None none some = absurd (none-some id some)
      by_find (Some begin) found some =
          let at = found_in (λ those. nat_eq those.span place) (all_begins Known.hads) begin found in
          let same : begin.span ≡ place = eqb-true begin.span place at.1 in
          let of_had = in_flat_map (λ those. those.begins) Known.hads begin at.0 in
          let of_span = in_mapped_range (had relations moments) 0 (length relations.intervals) of_had.0 of_had.1 in
          let well = held_well relations (0 + of_span.0) moments are in
          subst (λ other. Below (key_of other) (In_span place (entry_of place))) (same_Some begin.from id some)
          (begin_below place (0 + of_span.0) begin lt same
          (each-in (BeganWell relations (0 + of_span.0) (had relations moments (0 + of_span.0)).joins (works_in (0 + of_span.0))) (had relations moments (0 + of_span.0)).begins well.begins begin
          (subst (λ those. In those.begins begin) (sym of_span.2) of_had.2)))
