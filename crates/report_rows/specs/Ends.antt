-- The ends of stages, as reports name them.
use Rattle.std.specs.Prelude.{ℕ, ◌==◌, ◌&&◌, Bool, false, List, [], Option, None, Some, codes, count_by, is_some, slice_get}
use Rattle.std.specs.Option.{option_and_then}
use Rattle.stage_graph.specs.declared.end.Act.{Act}
use Rattle.stage_graph.specs.declared.end.Act.TheVariants.{Complete, CompleteExceptionally, Cancel, OrTimeout, CompleteOnTimeout}
use Rattle.stage_graph.specs.declared.end.End.{End}
use Rattle.stage_graph.specs.declared.stage.Stage.{Stage}
use Rattle.stage_graph.specs.Plain.{PlainGraph, stage_at}

-- the kind of an end, by its name in recordings
abbrev pub act_text : Act → List ℕ
act_text (Complete value) = codes "complete"
act_text (CompleteExceptionally name) = codes "completeExceptionally"
act_text Cancel = codes "cancel"
act_text (OrTimeout delay) = codes "orTimeout"
act_text (CompleteOnTimeout delay value) = codes "completeOnTimeout"

abbrev pub end_text : Option End → List ℕ
end_text None = []
end_text (Some end) = act_text end.act

-- how long after it was set a timeout acts
abbrev pub delay_by : Act → Option ℕ
delay_by (Complete value) = None
delay_by (CompleteExceptionally name) = None
delay_by Cancel = None
delay_by (OrTimeout delay) = Some delay
delay_by (CompleteOnTimeout delay value) = Some delay

abbrev pub delay_in : Option End → Option ℕ
delay_in None = None
delay_in (Some end) = delay_by end.act

-- the end of an index of the stage at a place
abbrev pub end_of : ℕ → Stage → Option End
end_of index stage = slice_get stage.ends index

abbrev pub end_at : PlainGraph → ℕ → ℕ → Option End
end_at graph place index = option_and_then (end_of index) (stage_at graph.places place)

-- the tick at which it is set
abbrev pub set_at : Option End → ℕ
set_at None = 0
set_at (Some end) = end.at

abbrev pub is_timeout : End → Bool
is_timeout end = is_some (delay_by end.act)

-- the end of an index is the one timeout of a stage
abbrev pub is_only_in : ℕ → Stage → Bool
is_only_in index stage = is_some (delay_in (end_of index stage)) && (count_by is_timeout stage.ends == 1)

abbrev pub only_where : ℕ → Option Stage → Bool
only_where index None = false
only_where index (Some stage) = is_only_in index stage

-- of the stage at a place
abbrev pub is_only_timeout : PlainGraph → ℕ → ℕ → Bool
is_only_timeout graph place index = only_where index (stage_at graph.places place)
