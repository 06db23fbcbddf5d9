-- What is said of a view of a stage that was looked up, as of the stage at its place.
use Rattle.std.proofs.Common.{◌≡◌, ℕ, Option, Some, ap, ◌∙◌}
use Rattle.std.specs.Option.{option_and_then, option_map}
use Rattle.stage_graph.specs.declared.stage.Stage.{Stage}
use Rattle.version_store.specs.Plain.{PlainVersion}

module _ {X : Type 0} (seen version : PlainVersion) (at place : ℕ) (stage : Stage) (found : Option Stage) (is : seen ≡ version) (there : at ≡ place) (stands : Some stage ≡ found) where
  pub of_the_view : (form : PlainVersion → ℕ → Stage → X) (x : X) → x ≡ form seen at stage → Some x ≡ option_map (form version place) found
  of_the_view form x told =
      ap Some (told ∙ ap (λ (version : PlainVersion). form version at stage) is ∙ ap (λ place. form version place stage) there) ∙ ap (option_map (form version place)) stands

  pub found_of_the_view : (form : PlainVersion → ℕ → Stage → Option X) (x : Option X) → x ≡ form seen at stage → x ≡ option_and_then (form version place) found
  found_of_the_view form x told =
      told ∙ ap (λ (version : PlainVersion). form version at stage) is ∙ ap (λ place. form version place stage) there ∙ ap (option_and_then (form version place)) stands
