-- The touched stages, sorted by place.
use Rattle.std.proofs.Common.{◌≡◌, ℕ, ◌<◌, List, [], ◌∷◌, length, Option, Some, None, Bool, true, sym, ◌∙◌}
use Rattle.std.specs.Prelude.{nat_eq, filter}
use Rattle.std.specs.List.{IsDistinct}
use Rattle.std.specs.List.Sorted.{IsPermutation, IsSorted, IsStrictlyIncreasing}
use Rattle.std.specs.Ordering.{nat_cmp}
use Rattle.std.proofs.lemmas.List.Sorted.{IsNonDecreasingBy-from_sort, list_any-IsPermutation}
use Rattle.std.proofs.lemmas.List.Kept.{AllPairs-from_increasing}
use Rattle.std.proofs.lemmas.Map.Keys.{IsDistinct-IsPermutation, IsStrictlyIncreasing-from_distinct}
use Rattle.stage_graph.specs.Plain.{PlainGraph, all_places, stage_at}
use Rattle.stage_graph.specs.Changes.{is_edited}
use Rattle.stage_ops.specs.Java.{java_step}
use Rattle.rank_order.specs.Lists.{is_among, Ascends, IsAscending}
use Rattle.rank_order.proofs.Members.{among_filter, ascends_filter, filter_among, pairs_from_ascends, range_ascends, same_members, same_tests}
use Rattle.propagate.specs.Reach.{is_touched, touched}
use Rattle.propagate.proofs.Members.{flip_eq}
use Rattle.propagate.proofs.Ascending.{Ascends as Follows, IsBefore, among_levels, ascends_from_pairs, distinct_from_before, levels_ascend}
use Rattle.version_store.specs.Plain.{Origin, PlainVersion}
use Rattle.version_store.specs.Queries.{touched_by_place, touched_in, touched_of}

following : (R : ℕ → ℕ → Type 0) (xs : List ℕ) → Follows R xs → Ascends R xs
following R [] kept = tt
following R (x ∷ xs) kept = (kept.0, following R xs kept.1)

-- no stage is touched twice
each_once : (origin : Option Origin) (graph : PlainGraph) → IsDistinct nat_eq (touched_in origin graph)
unfolding IsDistinct
each_once None graph = tt
each_once (Some origin) graph =
    let size = length graph.places in
    let test = is_touched (java_step graph.mode) origin.graph.places graph.places (λ place. is_edited origin.edits (stage_at graph.places place)) in
    distinct_from_before graph.places _ (pairs_from_ascends (IsBefore graph.places) _ (following (IsBefore graph.places) _ (levels_ascend graph.places test size 0 size)))

-- a touched stage stands at one of the places
within : (origin : Option Origin) (graph : PlainGraph) (place : ℕ) → is_among place (touched_in origin graph) ≡ true → is_among place (all_places graph.places) ≡ true
within None graph place among = cc
within (Some origin) graph place among =
    let size = length graph.places in
    let test = is_touched (java_step graph.mode) origin.graph.places graph.places (λ place. is_edited origin.edits (stage_at graph.places place)) in
    let (low, here, passes) = among_levels graph.places test (all_places graph.places) 0 size place among in
    here

pub sorted_is : (version : PlainVersion) (sorted : List ℕ) → IsPermutation (touched_of version) sorted → IsSorted nat_cmp sorted → sorted ≡ touched_by_place version
sorted_is version sorted moved rises =
    let found = touched_of version in
    let increasing : IsStrictlyIncreasing sorted =
    IsStrictlyIncreasing-from_distinct sorted (IsNonDecreasingBy-from_sort (λ x. x) sorted rises)
    (IsDistinct-IsPermutation nat_eq flip_eq found sorted moved (each_once version.origin version.graph)) in
    let test : ℕ → Bool = λ place. is_among place found in
    let places = all_places version.graph.places in
    let ascending : IsAscending sorted = following (λ x y. x < y) sorted (ascends_from_pairs (λ x y. x < y) sorted (AllPairs-from_increasing sorted increasing)) in
    same_members sorted (filter test places) ascending (ascends_filter (λ x y. x < y) test places (range_ascends 0 (length version.graph.places)))
    (λ place.
    let same : is_among place found ≡ is_among place sorted = list_any-IsPermutation (nat_eq place) found sorted moved in
    same_tests (is_among place sorted) (is_among place (filter test places))
    (λ among. let touched : is_among place found ≡ true = same ∙ among in filter_among test place places (within version.origin version.graph place touched) touched)
    (λ among. sym same ∙ (among_filter test place places among).1))
