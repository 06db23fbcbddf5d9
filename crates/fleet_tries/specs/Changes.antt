-- A change of a group, as changes of the stages of a trace.
use Rattle.std.specs.Prelude.{ℕ, Bool, false, bytes_eq, if◌then◌else◌, List, Option, Some, None, filter_map}
use Rattle.stage_graph.specs.declared.stage.Stage.{Stage}
use Rattle.stage_graph.specs.Plain.{PlainGraph, all_places, stage_at}
use Rattle.change_words.specs.declared.change.Change.{Change}
use Rattle.change_words.specs.Changes.{assigns}
use Rattle.span_groups.specs.Grouping.{counted_at, name_at}
use Rattle.span_groups.specs.declared.grouping.Counted.{Counted}
use Rattle.span_groups.specs.declared.grouping.Grouping.{Grouping}
use Rattle.fleet_tries.specs.declared.pieces.Time.TheVariants.{Queued, Runs}
use Rattle.fleet_tries.specs.Pieces.{piece_amount}

-- what is assigned to the end of a span, if it is that
abbrev pub at_end : {A : Type 0} → Bool → Option A → Option A
at_end is_end assigned = if is_end then assigned else None

-- what a change of a group is of the stage at a place, which counts to a span of the group
abbrev pub stage_change : PlainGraph → List (Option Counted) → Change → ℕ → Counted → Stage → Change
stage_change graph stages change place counted stage = record {
  name = stage.name;
  queued = piece_amount graph stages Queued counted.stage.span place change.queued;
  runs = piece_amount graph stages Runs counted.stage.span place change.runs;
  outcome = at_end counted.stage.is_end change.outcome;
  moment = at_end counted.stage.is_end change.moment;
  limit = at_end counted.stage.is_end change.limit;
}

-- the change, if it assigns something
abbrev pub if_assigns : Change → Option Change
if_assigns change = if assigns change then Some change else None

-- a group has the name of a change
abbrev pub is_called : Option (List ℕ) → Change → Bool
is_called None change = false
is_called (Some name) change = bytes_eq name change.name

abbrev pub change_in : PlainGraph → List (Option Counted) → Change → ℕ → Option Counted → Option Stage → Option Change
change_in graph stages change place (Some counted) (Some stage) = if_assigns (stage_change graph stages change place counted stage)
change_in graph stages change place counted stage = None

-- what a change of a group is of the stage at a place, if it is something
abbrev pub change_at : PlainGraph → Grouping → Change → ℕ → Option Change
change_at graph grouping change place =
    if is_called (name_at grouping place) change
    then change_in graph grouping.stages.items change place (counted_at grouping.stages.items place) (stage_at graph.places place)
    else None

-- that of each stage, by place
abbrev pub changes_of : PlainGraph → Grouping → Change → List Change
changes_of graph grouping change = filter_map (change_at graph grouping change) (all_places graph.places)
