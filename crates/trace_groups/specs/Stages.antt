-- Of which spans the stages of an import are.
use Rattle.std.specs.Prelude.{ℕ, Bool, true, false, List, map, nat_eq, Option, Some}
use Rattle.span_groups.specs.declared.making.StageOf.{StageOf}
use Rattle.trace_stages.specs.declared.stage.ImportedStage.{ImportedStage}
use Rattle.trace_stages.specs.declared.stage.StageName.{StageName}
use Rattle.trace_stages.specs.declared.stage.StageName.TheVariants.{Whole, Start, Join, Work, Tried, Limit, Answer}

-- all stages of a span are its work, but for the limit at which it was given up
abbrev pub stage_of : StageName → StageOf
stage_of (Whole span) = record { span = span; is_work = true; is_end = true }
stage_of (Start span) = record { span = span; is_work = true; is_end = false }
stage_of (Join span number) = record { span = span; is_work = true; is_end = false }
stage_of (Work span number) = record { span = span; is_work = true; is_end = false }
stage_of (Tried span) = record { span = span; is_work = true; is_end = false }
stage_of (Answer span) = record { span = span; is_work = true; is_end = false }
stage_of (Limit span) = record { span = span; is_work = false; is_end = false }

abbrev pub stages_of : List ImportedStage → List (Option StageOf)
stages_of stages = map (λ (stage : ImportedStage). Some (stage_of stage.name)) stages

-- the stage that ends when a span did
abbrev pub is_end_of : ℕ → StageName → Bool
is_end_of span (Whole place) = nat_eq place span
is_end_of span other = false
