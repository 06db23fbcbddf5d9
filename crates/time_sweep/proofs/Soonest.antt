-- A stable sort of trials lists those of each tick in turn; a sweep is two of them, one after the other.
use Rattle.std.proofs.Common.{◌≡◌, ◌<◌, ℕ, List, [], ◌∷◌, ◌++◌, Bool, true, false, cond, Option, Some, None, refl, ap, sym, ◌∙◌, append-nil, arith, subst}
use Rattle.std.specs.Prelude.{All, IfSome, filter, filter_map, is_some, nat_lt, not}
use Rattle.std.specs.List.{cons_option}
use Rattle.std.proofs.lemmas.Bool.{cond-false, cond-true, ltb-true, not-true}
use Rattle.std.proofs.lemmas.List.Elements.{All-cons, All-filter, All-head, All-nil, All-tail, filter-append, filter_passes}
use Rattle.std.proofs.lemmas.List.Sorted.{All-permutation}
use Rattle.act_expr.specs.declared.outcome.Outcome.TheVariants.{Value as Normal}
use Rattle.act_expr.specs.declared.outcome.Value.TheVariants.{Null}
use Rattle.stage_graph.specs.declared.stage.Stage.{Stage}
use Rattle.stage_graph.specs.Plain.{PlainGraph, all_places, stage_at}
use Rattle.stage_ops.specs.declared.state.Done.{Done}
use Rattle.time_sweep.specs.declared.trial.Trial.{Trial}
use Rattle.time_sweep.specs.declared.haste.Haste.{Haste}
use Rattle.time_sweep.specs.Hastened.{hastened}
use Rattle.time_sweep.specs.Sweep.{completion_of, fails, failures, has_value, sooner_trial, soonest, sweep, ticks_of, trial_at, trial_moment, trial_of, trials, values, IsRanked, IsSoonestFirst, IsSweep}
use Rattle.time_sweep.proofs.ByKey.{sorted_by_key}

-- ---- all trials are sooner than the target

below_if : (old new : Done) (trial : Trial) → trial.moment ≡ new.moment → (b : Bool) → nat_lt new.moment old.moment ≡ b → IfSome (cond b (Some trial) None) (λ (trial : Trial). trial.moment < old.moment)
below_if old new trial is true sooner = let less = ltb-true new.moment old.moment sooner in omega (arith, is, less)
below_if old new trial is false sooner = tt

sooner_below : (place : ℕ) (old new : Option Done) → IfSome (sooner_trial place old new) (λ (trial : Trial). trial.moment < ticks_of old)
sooner_below place None new = tt
sooner_below place (Some old) None = tt
sooner_below place (Some old) (Some new) = below_if old new (record { place = place; outcome = new.outcome; moment = new.moment }) refl (nat_lt new.moment old.moment) refl

acting_below : (acts : Bool) (ticks : ℕ) (trial : Option Trial) → IfSome trial (λ (trial : Trial). trial.moment < ticks) → IfSome (cond acts trial None) (λ (trial : Trial). trial.moment < ticks)
acting_below true ticks trial below = below
acting_below false ticks trial below = tt

trial_below : (graph : PlainGraph) (haste : Haste) (target place : ℕ) (here : Option Stage) → IfSome (trial_of graph haste target place here) (λ (trial : Trial). trial.moment < ticks_of (completion_of graph target))
trial_below graph haste target place None = tt
trial_below graph haste target place (Some stage) =
    acting_below (is_some stage.action) (ticks_of (completion_of graph target)) (sooner_trial place (completion_of graph target) (completion_of (hastened graph haste stage) target))
    (sooner_below place (completion_of graph target) (completion_of (hastened graph haste stage) target))

-- what holds of each input element holds of the sorted list
all_with : {B : Type 0} (P : B → Type 0) (one : Option B) (rest : List B) → IfSome one P → All P rest → All P (cons_option one rest)
all_with P None rest is all = all
all_with P (Some one) rest is all = All-cons P one rest is all

all_given : {A B : Type 0} (P : B → Type 0) (given : A → Option B) → ((a : A) → IfSome (given a) P) → (xs : List A) → All P (filter_map given xs)
all_given P given each [] = All-nil P
all_given P given each (x ∷ xs) = all_with P (given x) (filter_map given xs) (each x) (all_given P given each xs)

trials_below : (graph : PlainGraph) (haste : Haste) (target : ℕ) → All (λ (trial : Trial). trial.moment < ticks_of (completion_of graph target)) (trials graph haste target)
trials_below graph haste target =
    all_given (λ (trial : Trial). trial.moment < ticks_of (completion_of graph target)) (trial_at graph haste target) (λ place. trial_below graph haste target place (stage_at graph.places place)) (all_places graph.places)

-- ---- the list that a stable sort makes of some of them

abbrev at : ℕ → Trial
at tick = record { place = 0; outcome = Normal Null; moment = tick }

sorted_is_soonest : (graph : PlainGraph) (target : ℕ) (some found : List Trial) → All (λ (trial : Trial). trial.moment < ticks_of (completion_of graph target)) some → IsSoonestFirst some found
    → found ≡ soonest graph target some
sorted_is_soonest graph target some found below sorted =
    sorted_by_key Trial trial_moment at (λ tick. refl) (ticks_of (completion_of graph target)) some found sorted.ordered sorted.by_place
    (All-permutation (λ (trial : Trial). trial.moment < ticks_of (completion_of graph target)) some found sorted.permutation below)

pub ranked_is_sweep : (graph : PlainGraph) (haste : Haste) (target : ℕ) (found : List Trial) → IsSweep graph haste target found → found ≡ sweep graph haste target
ranked_is_sweep graph haste target found ranked =
    let all = trials graph haste target in
    let below = trials_below graph haste target in
    ranked.values_first
    ∙ ap (λ (first : List Trial). first ++ failures found)
    (sorted_is_soonest graph target (values all) (values found) (All-filter has_value (λ (trial : Trial). trial.moment < ticks_of (completion_of graph target)) all below) ranked.of_values)
    ∙ ap (λ (then : List Trial). soonest graph target (values all) ++ then)
    (sorted_is_soonest graph target (failures all) (failures found) (All-filter fails (λ (trial : Trial). trial.moment < ticks_of (completion_of graph target)) all below) ranked.of_failures)

-- ---- values, and failures after them

all_kept : (test : Trial → Bool) (items : List Trial) → All (λ (trial : Trial). test trial ≡ true) items → filter test items ≡ items
all_kept test [] all = refl
all_kept test (first ∷ rest) all =
    cond-true (test first) (first ∷ filter test rest) (filter test rest) (All-head (λ (trial : Trial). test trial ≡ true) first rest all)
    ∙ ap (λ (rest : List Trial). first ∷ rest) (all_kept test rest (All-tail (λ (trial : Trial). test trial ≡ true) first rest all))

none_kept : (test : Trial → Bool) (items : List Trial) → All (λ (trial : Trial). test trial ≡ false) items → filter test items ≡ []
none_kept test [] all = refl
none_kept test (first ∷ rest) all =
    cond-false (test first) (first ∷ filter test rest) (filter test rest) (All-head (λ (trial : Trial). test trial ≡ false) first rest all)
    ∙ none_kept test rest (All-tail (λ (trial : Trial). test trial ≡ false) first rest all)

all_so : (P Q : Trial → Type 0) → ((trial : Trial) → P trial → Q trial) → (items : List Trial) → All P items → All Q items
all_so P Q so [] all = All-nil Q
all_so P Q so (first ∷ rest) all = All-cons Q first rest (so first (All-head P first rest all)) (all_so P Q so rest (All-tail P first rest all))

-- two lists that were sorted, one after the other
pub both_ranked : (all good bad found : List Trial) → IsSoonestFirst (values all) good → IsSoonestFirst (failures all) bad → found ≡ good ++ bad → IsRanked all found
both_ranked all good bad found first second is =
    let passing : All (λ (trial : Trial). has_value trial ≡ true) good = All-permutation (λ (trial : Trial). has_value trial ≡ true) (values all) good first.permutation (filter_passes has_value all) in
    let failing : All (λ (trial : Trial). fails trial ≡ true) bad = All-permutation (λ (trial : Trial). fails trial ≡ true) (failures all) bad second.permutation (filter_passes fails all) in
    let good_values : values good ≡ good = all_kept has_value good passing in
    let bad_values : values bad ≡ [] =
    none_kept has_value bad (all_so (λ (trial : Trial). fails trial ≡ true) (λ (trial : Trial). has_value trial ≡ false) (λ trial is. not-true (has_value trial) is) bad failing) in
    let good_failures : failures good ≡ [] =
    none_kept fails good (all_so (λ (trial : Trial). has_value trial ≡ true) (λ (trial : Trial). fails trial ≡ false) (λ trial is. ap not is) good passing) in
    let bad_failures : failures bad ≡ bad = all_kept fails bad failing in
    let values_are : values found ≡ good =
    ap values is ∙ filter-append has_value good bad ∙ ap (λ (l : List Trial). l ++ values bad) good_values ∙ ap (λ (l : List Trial). good ++ l) bad_values ∙ append-nil good in
    let failures_are : failures found ≡ bad =
    ap failures is ∙ filter-append fails good bad ∙ ap (λ (l : List Trial). l ++ failures bad) good_failures ∙ ap (λ (l : List Trial). [] ++ l) bad_failures in
    record {
      values_first = is ∙ ap (λ (l : List Trial). l ++ bad) (sym values_are) ∙ ap (λ (l : List Trial). values found ++ l) (sym failures_are);
      of_values = subst (IsSoonestFirst (values all)) (sym values_are) first;
      of_failures = subst (IsSoonestFirst (failures all)) (sym failures_are) second;
    }
