-- What was found to stand at the places whose ranks are known.
use Rattle.std.specs.Prelude.{ℕ, ◌≡◌, List, Option, None, IfSome, slice_index_or}
use Rattle.std.specs.Option.{option_map}
use Rattle.stage_graph.specs.Plain.{stage_at, dependents}
use Rattle.stage_graph.specs.Sound.{IsSoundStage}
use Rattle.propagate.specs.Reach.{Stages}
use Rattle.time_sweep.specs.declared.standing.Standing.{Standing}
use Rattle.time_sweep.specs.Known.{IsKnown}

-- the stage at the place, with the places of its dependents; none where no stage stands
pub record IsStanding (stages : Stages) (place : ℕ) (found : Option Standing) : Type 0 where
  pub stage : option_map (λ (one : Standing). one.stage.now) found ≡ stage_at stages place
  pub sound : IfSome found (λ (one : Standing). IsSoundStage stages place one.stage.now)
  pub dependents : IfSome found (λ (one : Standing). one.dependents.now ≡ dependents stages place)

abbrev pub standing_at : List (Option Standing) → ℕ → Option Standing
standing_at standing place = slice_index_or standing place None

abbrev pub AreStanding : Stages → List (Option ℕ) → List (Option Standing) → Type 0
AreStanding stages ranks standing = (place : ℕ) → IsKnown ranks place → IsStanding stages place (standing_at standing place)
