-- The failures of a graph, by the origins that are known and by their lists.
use Rattle.std.proofs.Common.{◌≡◌, ℕ, ◌+◌, ◌<◌, ◌≤◌, ◌≢◌, Bool, true, false, cond, List, [], ◌∷◌, ◌++◌, length, map, set, get_or, Option, Some, None, refl, ap, sym, ◌∙◌, subst, arith, append-nil, length-set, get_or-set_other}
use Rattle.std.specs.Prelude.{filter, not, ◌&&◌, ◌==◌, IfSome}
use Rattle.std.specs.List.{list_any, range_with_len}
use Rattle.std.proofs.lemmas.Bool.{false≢true, eqb-true, eq-eqb}
use Rattle.std.proofs.lemmas.List.{get_or_default, map-append}
use Rattle.std.proofs.lemmas.List.Elements.{filter_agree}
use Rattle.stage_graph.specs.Plain.{PlainGraph, all_places}
use Rattle.stage_graph.specs.Sound.{IsSound}
use Rattle.stage_graph.specs.Walk.{IsRanked}
use Rattle.stage_graph.proofs.Lists.{same_function}
use Rattle.stage_ops.specs.Java.{java_step}
use Rattle.scratch_eval.proofs.Querying.{passing_more}
use Rattle.rank_order.specs.Lists.{is_among}
use Rattle.rank_order.proofs.Members.{same_tests, among_here, among_later, among_filter, among_range}
use Rattle.propagate.specs.Reach.{reads_at}
use Rattle.failure_origins.specs.declared.failure.Failure.{Failure}
use Rattle.failure_origins.specs.Failures.{failure_at, failures, handles, holds, is_origin, is_reached}
use Rattle.failure_origins.specs.Lists.{failure_by, handles_by, is_reached_by, list_at, AreLists}
use Rattle.failure_origins.specs.Origins.{comes_from, is_from, origin_at, AreOrigins}
use Rattle.failure_origins.proofs.Arising.{holds_own}

known_from : (origin : ℕ) (known : Option ℕ) → is_from origin known ≡ true → known ≡ Some origin
known_from origin None is = absurd (false≢true is)
known_from origin (Some known) is = ap (λ (place : ℕ). Some place) (eqb-true known origin is)

from_itself : (origin : ℕ) → is_from origin (Some origin) ≡ true
from_itself origin = eq-eqb origin origin refl

abbrev pub made : ℕ → List ℕ → List ℕ → Failure
made origin reaches handled = record { origin = origin; reaches = reaches; handled = handled }

-- functions that agree on each member make one list
map_members : {B : Type 0} (f g : ℕ → B) (xs : List ℕ) → ((x : ℕ) → is_among x xs ≡ true → f x ≡ g x) → map f xs ≡ map g xs
map_members f g [] same = refl
map_members f g (x ∷ xs) same =
    let first : f x ≡ g x = same x (among_here x xs) in
    let rest : map f xs ≡ map g xs = map_members f g xs (λ y among. same y (among_later y x xs among)) in
    cc

module _ (graph : PlainGraph) (origins : List (Option ℕ)) (are : AreOrigins graph origins) where
  -- of an origin: what is known is what holds
  held_by : (origin : ℕ) → is_origin graph origin ≡ true → (place : ℕ) → comes_from origins origin place ≡ holds graph origin place
  held_by origin is place = same_tests (comes_from origins origin place) (holds graph origin place)
      (λ from. subst (λ (known : Option ℕ). IfSome known (λ origin. holds graph origin place ≡ true)) (known_from origin (origin_at origins place) from) (are.each place).held)
      (λ here. ap (is_from origin) ((are.each place).only origin is here) ∙ from_itself origin)

  reached_same : (origin : ℕ) → is_origin graph origin ≡ true → (place : ℕ) → is_reached_by origins origin place ≡ is_reached graph origin place
  reached_same origin is place = ap (λ (b : Bool). not (place == origin) && b) (held_by origin is place)

  handles_same : (origin : ℕ) → is_origin graph origin ≡ true → (place : ℕ) → handles_by graph origins origin place ≡ handles graph origin place
  handles_same origin is place =
      ap (λ (from : ℕ → Bool). list_any from (reads_at (java_step graph.mode) graph.places place) && not (from place)) (same_function (held_by origin is))

  module _ (sound : IsSound graph) (ranked : IsRanked graph.places) where
    origin_same : (place : ℕ) → comes_from origins place place ≡ is_origin graph place
    origin_same place = same_tests (comes_from origins place place) (is_origin graph place)
        (λ from. subst (λ (known : Option ℕ). IfSome known (λ origin. is_origin graph origin ≡ true)) (known_from place (origin_at origins place) from) (are.each place).arose)
        (λ is. ap (is_from place) ((are.each place).only place is (holds_own graph sound ranked place is)) ∙ from_itself place)

    -- all failures
    pub all_failures : (reached handled : List (List ℕ)) → AreLists (is_reached_by origins) (length origins) (length origins) reached → AreLists (handles_by graph origins) (length origins) (length origins) handled
        → map (failure_by reached handled) (filter (λ place. comes_from origins place place) (range_with_len 0 (length origins))) ≡ failures graph
    all_failures reached handled are_reached are_handled =
        ap (λ (count : ℕ). map (failure_by reached handled) (filter (λ place. comes_from origins place place) (range_with_len 0 count))) are.long
        ∙ ap (map (failure_by reached handled)) (filter_agree (λ place. comes_from origins place place) (is_origin graph) origin_same (all_places graph.places))
        ∙ map_members (failure_by reached handled) (failure_at graph) (filter (is_origin graph) (all_places graph.places)) (λ origin among.
        let (here, is) = among_filter (is_origin graph) origin (all_places graph.places) among in
        let (low, below) = among_range origin 0 (length graph.places) here in
        let within : origin < length origins = omega (arith, are.long) in
        let reaches : list_at reached origin ≡ filter (is_reached graph origin) (all_places graph.places) =
        are_reached.each origin within ∙ ap (λ (count : ℕ). filter (is_reached_by origins origin) (range_with_len 0 count)) are.long
        ∙ filter_agree (is_reached_by origins origin) (is_reached graph origin) (reached_same origin is) (all_places graph.places) in
        let handles_it : list_at handled origin ≡ filter (handles graph origin) (all_places graph.places) =
        are_handled.each origin within ∙ ap (λ (count : ℕ). filter (handles_by graph origins origin) (range_with_len 0 count)) are.long
        ∙ filter_agree (handles_by graph origins origin) (handles graph origin) (handles_same origin is) (all_places graph.places) in
        same_failure origin reaches handles_it) where
          same_failure : (origin : ℕ) → list_at reached origin ≡ filter (is_reached graph origin) (all_places graph.places) → list_at handled origin ≡ filter (handles graph origin) (all_places graph.places)
              → failure_by reached handled origin ≡ failure_at graph origin
          same_failure origin reaches handled_is =
              ap (λ (list : List ℕ). made origin list (list_at handled origin)) reaches
              ∙ ap (made origin (filter (is_reached graph origin) (all_places graph.places))) handled_is

-- ---- the loop that gathers them

-- the lists from here on are as they were
pub record AreLeft (from : ℕ) (lists left : List (List ℕ)) : Type 0 where
  pub long : length left ≡ length lists
  pub same : (origin : ℕ) → from ≤ origin → list_at left origin ≡ list_at lists origin

-- one more of them was taken
pub taken_one : (from : ℕ) (lists left : List (List ℕ)) (list : List ℕ) → AreLeft from lists left → AreLeft (from + 1) lists (set left from list)
taken_one from lists left list are = record {
  long = length-set left from list ∙ are.long;
  same = λ origin above. get_or-set_other left from origin list [] (let apart : origin ≢ from = omega arith in apart) ∙ are.same origin (omega arith);
}

-- what was taken
pub taken_is : (from : ℕ) (lists left : List (List ℕ)) (was taken : List ℕ) → AreLeft from lists left → from < length left → was ≡ get_or left from was → taken ≡ was → taken ≡ list_at lists from
taken_is from lists left was taken are within read same = same ∙ read ∙ get_or_default left from was [] within ∙ are.same from (omega arith)

pub left_on : (from : ℕ) (lists left : List (List ℕ)) → AreLeft from lists left → AreLeft (from + 1) lists left
left_on from lists left are = record { long = are.long; same = λ origin above. are.same origin (omega arith) }

module _ (reached handled : List (List ℕ)) (test : ℕ → Bool) where
  -- an origin with its lists
  pub gathered_more : (origin : ℕ) (found : List Failure) (reaches handles : List ℕ) → found ≡ map (failure_by reached handled) (filter test (range_with_len 0 origin)) → test origin ≡ true
      → reaches ≡ list_at reached origin → handles ≡ list_at handled origin → found ++ made origin reaches handles ∷ [] ≡ map (failure_by reached handled) (filter test (range_with_len 0 (origin + 1)))
  gathered_more origin found reaches handles so_far passes first second =
      ap (λ (list : List ℕ). found ++ made origin list handles ∷ []) first ∙ ap (λ (list : List ℕ). found ++ made origin (list_at reached origin) list ∷ []) second
      ∙ ap (λ (found : List Failure). found ++ failure_by reached handled origin ∷ []) so_far
      ∙ sym (map-append (failure_by reached handled) (filter test (range_with_len 0 origin)) (origin ∷ []))
      ∙ ap (λ (b : Bool). map (failure_by reached handled) (filter test (range_with_len 0 origin) ++ cond b (origin ∷ []) [])) (sym passes)
      ∙ ap (map (failure_by reached handled)) (sym (passing_more test origin))

  -- a place that is none
  pub gathered_same : (origin : ℕ) (found : List Failure) → found ≡ map (failure_by reached handled) (filter test (range_with_len 0 origin)) → test origin ≡ false
      → found ≡ map (failure_by reached handled) (filter test (range_with_len 0 (origin + 1)))
  gathered_same origin found so_far fails =
      so_far ∙ ap (map (failure_by reached handled))
      (sym (append-nil (filter test (range_with_len 0 origin))) ∙ ap (λ (b : Bool). filter test (range_with_len 0 origin) ++ cond b (origin ∷ []) []) (sym fails) ∙ sym (passing_more test origin))
