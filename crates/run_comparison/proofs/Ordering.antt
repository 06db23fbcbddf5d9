-- The differences in their order.
use Rattle.std.proofs.Common.{◌≡◌, ◌+◌, ◌<◌, ◌++◌, ℕ, Bool, true, false, cond, List, [], ◌∷◌, Option, Some, None, append-nil, refl, arith, subst}
use Rattle.std.specs.Prelude.{◌||◌, All, IfSome, IsPermutation, filter_map}
use Rattle.std.specs.List.{cons_option}
use Rattle.std.specs.List.Sorted.{IsNonDecreasingBy, IsStableByKey}
use Rattle.std.specs.Ordering.{nat_cmp}
use Rattle.std.proofs.Math.Nat.{le-max_left, le-max_right}
use Rattle.std.proofs.lemmas.List.Elements.{All-cons, All-nil}
use Rattle.std.proofs.lemmas.List.Sorted.{All-permutation}
use Rattle.stage_graph.specs.declared.stage.Stage.{Stage}
use Rattle.stage_graph.specs.Plain.{PlainGraph, all_places, place_named, stage_at}
use Rattle.time_sweep.proofs.ByKey.{sorted_by_key}
use Rattle.run_comparison.specs.declared.difference.Difference.{Difference}
use Rattle.run_comparison.specs.declared.difference.Stands.TheVariants.{Both, OnlyBad}
use Rattle.run_comparison.specs.Differences.{StandsByShare, above_orders, bad_at, bad_in, bad_told, difference, good_at, good_in, good_told, in_turn, is_told, of_both, of_good, order_in}

-- ---- their keys

all_below : (found : List Difference) → All (λ (one : Difference). order_in one < above_orders found) found
all_below [] = All-nil (λ (one : Difference). order_in one < 0)
all_below (first ∷ rest) =
    let one = le-max_left (order_in first + 1) (above_orders rest) in
    let more = le-max_right (order_in first + 1) (above_orders rest) in
    All-cons (λ (one : Difference). order_in one < above_orders (first ∷ rest)) first rest
    (omega (arith, one))
    (λ k d short. let less = all_below rest k d short in omega (arith, less, more))

-- a difference of this key
abbrev of_order : ℕ → Difference
of_order order = record { stands = OnlyBad 0; order = order }

-- what a stable sort makes of them
pub sorted_in_turn : (found ordered : List Difference) → IsPermutation found ordered → IsNonDecreasingBy order_in ordered → IsStableByKey order_in nat_cmp found ordered → ordered ≡ in_turn found
sorted_in_turn found ordered permutation rising stable =
    sorted_by_key Difference order_in of_order (λ key. refl) (above_orders found) found ordered rising stable
    (All-permutation (λ (one : Difference). order_in one < above_orders found) found ordered permutation (all_below found))

-- ---- each stands by its share

with_others : (Q : Difference → Type 0) (one : Option Difference) (later rest : List Difference) → IfSome one Q → All Q (later ++ rest) → All Q (cons_option one later ++ rest)
with_others Q None later rest is all = all
with_others Q (Some one) later rest is all = All-cons Q one (later ++ rest) is all

all_told : (Q : Difference → Type 0) (told : ℕ → Option Difference) → ((place : ℕ) → IfSome (told place) Q) → (places : List ℕ) (rest : List Difference) → All Q rest → All Q (filter_map told places ++ rest)
all_told Q told each [] rest all = all
all_told Q told each (place ∷ places) rest all = with_others Q (told place) (filter_map told places) rest (each place) (all_told Q told each places rest all)

module _ (good bad : PlainGraph) where
  by_share_if : (there here : ℕ) (b : Bool) → IfSome (cond b (Some (difference good bad (Both there here))) None) (StandsByShare good bad)
  by_share_if there here true = refl
  by_share_if there here false = tt

  bad_by_share : (on : ℕ → Bool) (is_on_path : Bool) (here : ℕ) (named : Option ℕ) → IfSome (bad_told good on bad is_on_path here named) (StandsByShare good bad)
  bad_by_share on is_on_path here None = refl
  bad_by_share on is_on_path here (Some there) = by_share_if there here (is_told good there bad here (is_on_path || on there))

  bad_in_by_share : (on : ℕ → Bool) (is_on_path : Bool) (here : ℕ) (stage : Option Stage) → IfSome (bad_in good on bad is_on_path here stage) (StandsByShare good bad)
  bad_in_by_share on is_on_path here None = tt
  bad_in_by_share on is_on_path here (Some stage) = bad_by_share on is_on_path here (place_named good.places stage.name)

  good_by_share : (there : ℕ) (named : Option ℕ) → IfSome (good_told good bad there named) (StandsByShare good bad)
  good_by_share there None = refl
  good_by_share there (Some here) = tt

  good_in_by_share : (there : ℕ) (stage : Option Stage) → IfSome (good_in good bad there stage) (StandsByShare good bad)
  good_in_by_share there None = tt
  good_in_by_share there (Some stage) = good_by_share there (place_named bad.places stage.name)

  of_good_by_share : All (StandsByShare good bad) (of_good good bad ++ [])
  of_good_by_share =
      all_told (StandsByShare good bad) (good_at good bad) (λ there. good_in_by_share there (stage_at good.places there)) (all_places good.places) [] (All-nil (StandsByShare good bad))

  pub each_by_share : (on_good_path on_bad_path : ℕ → Bool) → All (StandsByShare good bad) (of_both good on_good_path bad on_bad_path)
  each_by_share on_good_path on_bad_path =
      all_told (StandsByShare good bad) (bad_at good on_good_path bad on_bad_path)
      (λ here. bad_in_by_share on_good_path (on_bad_path here) here (stage_at bad.places here)) (all_places bad.places) (of_good good bad)
      (subst (All (StandsByShare good bad)) (append-nil (of_good good bad)) of_good_by_share)
