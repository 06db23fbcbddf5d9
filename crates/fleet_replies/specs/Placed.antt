-- Where the reply of a trace stands in its recording.
use Rattle.std.specs.Prelude.{ℕ, ◌≡◌, ◌⊎◌, false, List, All, Option, Some, None, find, map, slice_get}
use Rattle.std.specs.Option.{option_map}
use Rattle.fleet_summary.specs.declared.group_by.GroupBy.{GroupBy}
use Rattle.span_groups.specs.Groups.{IsGroupingOf}
use Rattle.trace_stages.specs.declared.stage.ImportedStage.{ImportedStage}
use Rattle.trace_stages.specs.declared.stage.StageName.TheVariants.{Whole}
use Rattle.trace_groups.specs.GroupNames.{group_name}
use Rattle.trace_groups.specs.Replies.{answers_for}
use Rattle.trace_groups.specs.Stages.{is_end_of, stages_of}
use Rattle.trace_import.specs.declared.reading.Reading.{Reading}
use Rattle.fleet_replies.specs.declared.placed.Placed.{Placed}

-- the span whose end is the reply: of those of the name that is asked for, or of the roots, the first to start
abbrev pub replying : Reading → Option (List ℕ) → Option ℕ
replying reading wanted = find (answers_for reading.trace.now.spans reading.relations.parents.items wanted) reading.relations.order.items

-- the reply is the stage that ends when the span did which answers, and stages count to the groups of the spans whose they are
pub record IsPlaced (by : GroupBy) (wanted : Option (List ℕ)) (reading : Reading) (placed : Placed) : Type 0 where
  pub span : ℕ
  pub answers : replying reading wanted ≡ Some span
  pub stage : option_map (λ (stage : ImportedStage). stage.name) (slice_get reading.stages.0.items placed.reply) ≡ Some (Whole span)
  pub groups : IsGroupingOf (map (group_name by) reading.trace.now.spans) (stages_of reading.stages.0.items) placed.grouping

-- no span answers, or no stage ends with the one that does
abbrev pub HasNoPlace : Option (List ℕ) → Reading → Type 0
HasNoPlace wanted reading =
    (replying reading wanted ≡ None)
    ⊎ ((span : ℕ) × (replying reading wanted ≡ Some span) × All (λ (stage : ImportedStage). is_end_of span stage.name ≡ false) reading.stages.0.items)

-- where the reply stands, if it stands somewhere
abbrev pub IsPlacing : GroupBy → Option (List ℕ) → Reading → Option Placed → Type 0
IsPlacing by wanted reading None = HasNoPlace wanted reading
IsPlacing by wanted reading (Some placed) = IsPlaced by wanted reading placed
