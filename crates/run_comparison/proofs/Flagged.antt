-- What is told where the places of the paths are known by their flags is what is to be told by the paths.
use Rattle.std.proofs.Common.{◌≡◌, ◌+◌, ◌<◌, ◌++◌, ◌∙◌, ℕ, zero, suc, Bool, List, length, Option, Some, None, refl, ap, arith}
use Rattle.std.specs.Prelude.{◌||◌, filter_map}
use Rattle.std.specs.List.{cons_option, range_with_len}
use Rattle.stage_graph.specs.declared.stage.Stage.{Stage}
use Rattle.stage_graph.specs.Plain.{PlainGraph, place_named, stage_at}
use Rattle.stage_graph.proofs.Placing.{named_at}
use Rattle.run_comparison.specs.declared.difference.Difference.{Difference}
use Rattle.run_comparison.specs.Differences.{bad_at, bad_in, bad_told, both_told, is_on, of_both, of_good}
use Rattle.place_flags.specs.Flags.{AreFlags, is_flagged}

same_over : (told other : ℕ → Option Difference) (start count : ℕ) → ((place : ℕ) → place < start + count → told place ≡ other place)
    → filter_map told (range_with_len start count) ≡ filter_map other (range_with_len start count)
same_over told other start zero same = refl
same_over told other start (suc count) same =
    ap (λ (one : Option Difference). cons_option one (filter_map told (range_with_len (start + 1) count))) (same start (omega arith))
    ∙ ap (λ (later : List Difference). cons_option (other start) later) (same_over told other (start + 1) count (λ place below. same place (omega (arith, below))))

module _ (good : PlainGraph) (on other : ℕ → Bool) (same : (there : ℕ) → there < length good.places → on there ≡ other there) (bad : PlainGraph) (is_on_path : Bool) (here : ℕ) where
  same_told : (name : List ℕ) (named : Option ℕ) → place_named good.places name ≡ named → bad_told good on bad is_on_path here named ≡ bad_told good other bad is_on_path here named
  same_told name None is = refl
  same_told name (Some there) is =
      ap (λ (on_path : Bool). both_told good there bad here (is_on_path || on_path)) (same there (named_at good.places name there is).0)

  same_in : (stage : Option Stage) → bad_in good on bad is_on_path here stage ≡ bad_in good other bad is_on_path here stage
  same_in None = refl
  same_in (Some stage) = same_told stage.name (place_named good.places stage.name) refl

pub told_by_paths : (good bad : PlainGraph) (good_flags bad_flags : List Bool) (good_path bad_path : List ℕ) → AreFlags good_flags (length good.places) good_path → AreFlags bad_flags (length bad.places) bad_path
    → of_both good (is_flagged good_flags) bad (is_flagged bad_flags) ≡ of_both good (is_on good_path) bad (is_on bad_path)
told_by_paths good bad good_flags bad_flags good_path bad_path on_good on_bad =
    ap (λ (first : List Difference). first ++ of_good good bad)
    (same_over (bad_at good (is_flagged good_flags) bad (is_flagged bad_flags)) (bad_at good (is_on good_path) bad (is_on bad_path)) 0 (length bad.places)
    (λ here below.
    ap (λ (flag : Bool). bad_in good (is_flagged good_flags) bad flag here (stage_at bad.places here)) (on_bad here (omega (arith, below)))
    ∙ same_in good (is_flagged good_flags) (is_on good_path) on_good bad (is_on bad_path here) here (stage_at bad.places here)))
