-- The name of a stage, put together.
use Rattle.std.proofs.Common.{◌≡◌, List, ℕ, ◌++◌, refl, append-nil}
use Rattle.trace_stages.specs.declared.stage.StageName.{StageName}
use Rattle.trace_stages.specs.declared.stage.StageName.TheVariants.{Start, Whole, Join, Work, Tried, Limit, Answer}
use Rattle.trace_import.specs.StageNames.{ending_of, name_at, place_of, stage_name}

pub put_together : (names : List (List ℕ)) (stage : StageName) → name_at names (place_of stage) ++ ending_of stage ≡ stage_name names stage
put_together names (Whole place) = append-nil (name_at names place)
put_together names (Start place) = refl
put_together names (Join place number) = refl
put_together names (Work place number) = refl
put_together names (Tried place) = refl
put_together names (Limit place) = refl
put_together names (Answer place) = refl
