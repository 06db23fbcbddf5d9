-- The single changes of a stage that are tried, in order.
use Rattle.std.specs.Prelude.{ℕ, ◌++◌, ◌==◌, ◌&&◌, Bool, false, not, nat_lt, if◌then◌else◌, List, [], ◌∷◌, length, Option, None, Some}
use Rattle.std.specs.Option.{option_to_list}
use Rattle.std.specs.List.{flat_map, range_with_len}
use Rattle.act_expr.specs.declared.outcome.Value.{Value}
use Rattle.stage_graph.specs.declared.end.End.{End}
use Rattle.stage_graph.specs.declared.stage.Stage.{Stage}
use Rattle.stage_graph.specs.Plain.{PlainGraph}
use Rattle.stage_ops.specs.declared.reason.Cause.{Cause}
use Rattle.stage_ops.specs.declared.reason.Cause.TheVariants.{Ended}
use Rattle.scratch_eval.specs.Path.{reason_at}
use Rattle.failure_origins.specs.Failures.{is_origin}
use Rattle.reply_rescue.specs.declared.change.Change.{Change}
use Rattle.reply_rescue.specs.declared.change.Change.TheVariants.{NoTime, NotQueued, NoFailure, WithoutEnd, TwiceTheDelay}
use Rattle.reply_rescue.specs.Ends.{can_double, delay_at, is_timeout_at}

abbrev pub only_if : Bool → Change → List Change
only_if holds change = if holds then change ∷ [] else []

-- its action takes no time, if it takes any, and is not queued, if it is
abbrev pub action_changes : Stage → List Change
action_changes stage = only_if (nat_lt 0 stage.runs) NoTime ++ only_if (nat_lt 0 stage.queued) NotQueued

-- an exception that an end set did not come with that end away, and each other one was this value
abbrev pub undone : Value → Cause → Change
undone value (Ended index) = WithoutEnd index
undone value cause = NoFailure value

-- where an exception arose in the stage: that it did not
abbrev pub failure_change : PlainGraph → Value → ℕ → Option Change
failure_change graph value place = if is_origin graph place then Some (undone value (reason_at graph place).cause) else None

-- the end of this index is taken away by the change
abbrev pub takes_away : Option Change → ℕ → Bool
takes_away (Some (WithoutEnd taken)) index = taken == index
takes_away other index = false

-- A timeout is taken away. Where its exception arose in the stage, that is a trial of its own already, which is not made twice.
abbrev pub without_at : Option Change → List End → ℕ → List Change
without_at failure ends index = only_if (is_timeout_at ends index && not (takes_away failure index)) (WithoutEnd index)

-- a timeout has twice the delay, where that is more
abbrev pub longer_at : List End → ℕ → List Change
longer_at ends index = only_if (can_double (delay_at ends index)) (TwiceTheDelay index)

-- those of each end, in list order
abbrev pub at_ends : (ℕ → List Change) → List End → List Change
at_ends changes ends = flat_map changes (range_with_len 0 (length ends))

abbrev pub end_changes : Option Change → List End → List Change
end_changes failure ends = at_ends (without_at failure ends) ends ++ at_ends (longer_at ends) ends

-- of its action, of its failure and of its timeouts
abbrev pub changes_with : Option Change → Stage → List Change
changes_with failure stage = action_changes stage ++ (option_to_list failure ++ end_changes failure stage.ends)

-- of the stage at a place
abbrev pub changes_of : PlainGraph → Value → ℕ → Stage → List Change
changes_of graph value place stage = changes_with (failure_change graph value place) stage
