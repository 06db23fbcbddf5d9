-- Tables with one entry for each span.
use Rattle.std.proofs.Common.{◌≡◌, ℕ, ◌+◌, List, [], ◌∷◌, ◌++◌, Bool, true, false, Option, Some, None, cond, map, sym, ap, ◌∙◌, zero-add}
use Rattle.std.specs.Prelude.{unwrap_or}
use Rattle.std.specs.List.{range_with_len}
use Rattle.std.proofs.lemmas.List.{map-append}
use Rattle.std.proofs.lemmas.List.FromFn.{map-range_with_len_more}
use Rattle.trace_stages.specs.declared.outcomes.Outcome.{Outcome}
use Rattle.trace_stages.specs.declared.stage.Exception.{Exception}
use Rattle.trace_stages.specs.Beginnings.{all_entries}
use Rattle.trace_stages.specs.Known.{PlainKnown}
use Rattle.trace_stages.specs.Scene.{PlainScene, all_entry_outcomes, all_outcomes, scene_of, scene_with, whole_sight}
use Rattle.trace_stages.specs.HandedOn.{all_handed}
use Rattle.trace_stages.specs.Joins.{PlainJoined}
use Rattle.trace_stages.specs.declared.walk.stage_id.StageId.{StageId}

-- one more entry
pub table_more : {X Y : Type 0} (f : X → Y) (g : ℕ → Y) (xs new : List X) (x : X) (i : ℕ) → map f xs ≡ map g (range_with_len 0 i) → f x ≡ g i → new ≡ xs ++ x ∷ [] → map f new ≡ map g (range_with_len 0 (i + 1))
table_more f g xs new x i so_far is pushed =
    ap (λ those. map f those) pushed
    ∙ map-append f xs (x ∷ [])
    ∙ ap (λ those. those ++ f x ∷ []) so_far
    ∙ ap (λ y. map g (range_with_len 0 i) ++ y ∷ []) is
    ∙ sym (map-range_with_len_more g 0 i i (zero-add i))

-- one more failure
pub one_failure : (b : Bool) (exception : Option Exception) (old new : Option (Option Exception)) → new ≡ cond b (Some exception) old → unwrap_or new None ≡ cond b exception (unwrap_or old None)
one_failure true exception old new e = ap (λ o. unwrap_or o None) e
one_failure false exception old new e = ap (λ o. unwrap_or o None) e

-- what the code found is what the definition names
pub scene_as : (known : PlainKnown) (failures : ℕ → Option Exception) (handed : List (List StageId)) (outcomes : List (List Outcome)) (entries : List PlainJoined) (entry_outcomes : List (List Outcome)) → handed ≡ all_handed known failures → outcomes ≡ all_outcomes known failures handed → entries ≡ all_entries known → entry_outcomes ≡ all_entry_outcomes (whole_sight known failures outcomes) entries → ◌≡◌ {A = PlainScene} (record { known = known; failures = failures; handed = handed; outcomes = outcomes; entries = entries; entry_outcomes = entry_outcomes }) (scene_of known failures)
scene_as known failures handed outcomes entries entry_outcomes is_handed are are_entries end_so =
    let one : ◌≡◌ {A = PlainScene} (record { known = known; failures = failures; handed = handed; outcomes = outcomes; entries = entries; entry_outcomes = entry_outcomes }) (record { known = known; failures = failures; handed = handed; outcomes = outcomes; entries = entries; entry_outcomes = all_entry_outcomes (whole_sight known failures outcomes) entries }) =
    ap (λ (those : List (List Outcome)). record { known = known; failures = failures; handed = handed; outcomes = outcomes; entries = entries; entry_outcomes = those }) end_so in
    let two : ◌≡◌ {A = PlainScene} (record { known = known; failures = failures; handed = handed; outcomes = outcomes; entries = entries; entry_outcomes = all_entry_outcomes (whole_sight known failures outcomes) entries }) (scene_with known failures handed outcomes) =
    ap (λ (those : List PlainJoined). record { known = known; failures = failures; handed = handed; outcomes = outcomes; entries = those; entry_outcomes = all_entry_outcomes (whole_sight known failures outcomes) those }) are_entries in
    one ∙ two ∙ ap (λ those. scene_with known failures handed those) are ∙ ap (λ those. scene_with known failures those (all_outcomes known failures those)) is_handed
