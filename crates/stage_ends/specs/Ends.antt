-- What became of the ends that are set from outside.
use Rattle.std.specs.Prelude.{ℕ, ◌+◌, ◌-◌, Bool, false, not, ◌&&◌, nat_le, ◌==◌, if◌then◌else◌, List, [], ◌∷◌, Option, None, Some}
use Rattle.std.specs.Option.{option_map}
use Rattle.std.specs.List.{flat_map}
use Rattle.stage_graph.specs.declared.end.Act.{Act}
use Rattle.stage_graph.specs.declared.end.Act.TheVariants.{Complete, CompleteExceptionally, Cancel, OrTimeout, CompleteOnTimeout}
use Rattle.stage_graph.specs.declared.end.End.{End}
use Rattle.stage_graph.specs.declared.stage.Stage.{Stage}
use Rattle.stage_graph.specs.Plain.{PlainGraph, all_places, stage_at}
use Rattle.stage_ops.specs.declared.reason.Cause.{Cause}
use Rattle.stage_ops.specs.declared.reason.Cause.TheVariants.{Ended}
use Rattle.stage_ops.specs.Ended.{acts_at}
use Rattle.scratch_eval.specs.Path.{reason_at}
use Rattle.version_store.specs.Queries.{moment_in, state_of}
use Rattle.version_store.specs.Starts.{action_start_at}
use Rattle.stage_ends.specs.declared.completed.Completed.{Completed}
use Rattle.stage_ends.specs.declared.fate.EndFate.{EndFate}
use Rattle.stage_ends.specs.declared.fate.Fate.{Fate}
use Rattle.stage_ends.specs.declared.fate.Fate.TheVariants.{Struck, CutOff, NotReached, TooLate}

-- the end of this index is the cause of a stage's state
abbrev pub has_struck : Cause → ℕ → Bool
has_struck (Ended struck) index = struck == index
has_struck cause index = false

-- ---- the stage's own action, which starts at a tick by its operation

-- from the trigger on it is queued
abbrev pub trigger_of : Stage → ℕ → ℕ
trigger_of stage start = start - stage.queued

-- by this moment it had run all its ticks
abbrev pub has_ended : Stage → ℕ → ℕ → Bool
has_ended stage start moment = nat_le (start + stage.runs) moment

-- at this moment it was queued or ran
abbrev pub is_under_way : Stage → ℕ → ℕ → Bool
is_under_way stage start moment = nat_le (trigger_of stage start) moment && not (has_ended stage start moment)

-- ---- an end

-- it completed the stage at this moment, and cut the action off that was under way: after as many ticks as it had run, none where it was still queued
abbrev pub struck : Stage → Option ℕ → ℕ → Fate
struck stage None moment = Struck
struck stage (Some start) moment = if is_under_way stage start moment then CutOff (moment - start) stage.runs else Struck

-- it acts this many ticks after the stage had completed: a timeout was not reached, a call came too late
abbrev pub missed : Act → ℕ → Fate
missed (Complete value) by = TooLate by
missed (CompleteExceptionally name) by = TooLate by
missed Cancel by = TooLate by
missed (OrTimeout delay) by = NotReached by
missed (CompleteOnTimeout delay value) by = NotReached by

-- of an end of this index that acts so at this tick
abbrev pub fate_of : Stage → Completed → ℕ → Act → ℕ → Fate
fate_of stage completed index act tick =
    if has_struck completed.cause index then struck stage completed.start completed.moment else missed act (tick - completed.moment)

abbrev pub end_fate : ℕ → Stage → Completed → ℕ → End → EndFate
end_fate place stage completed index end = record {
  place = place;
  index = index;
  moment = acts_at end;
  fate = fate_of stage completed index end.act (acts_at end);
}

-- ---- the ends of a stage, in order, the first of them with this index

abbrev pub fates_from : ℕ → Stage → Completed → ℕ → List End → List EndFate
fates_from place stage completed index [] = []
fates_from place stage completed index (end ∷ ends) = end_fate place stage completed index end ∷ fates_from place stage completed (index + 1) ends

-- why the stage at a place completed, which it did at this moment, and when its action starts by its operation
abbrev pub completed_when : PlainGraph → ℕ → ℕ → Completed
completed_when graph place moment = record { moment = moment; cause = (reason_at graph place).cause; start = action_start_at graph place }

-- none while it is pending
abbrev pub completed_at : PlainGraph → ℕ → Option Completed
completed_at graph place = option_map (completed_when graph place) (moment_in (state_of graph place))

-- a pending stage has no ends: each stage that has one completes
abbrev pub fates_of : ℕ → Stage → Option Completed → List EndFate
fates_of place stage None = []
fates_of place stage (Some completed) = fates_from place stage completed 0 stage.ends

abbrev pub fates_in : PlainGraph → ℕ → Option Stage → List EndFate
fates_in graph place None = []
fates_in graph place (Some stage) = fates_of place stage (completed_at graph place)

abbrev pub fates_at : PlainGraph → ℕ → List EndFate
fates_at graph place = fates_in graph place (stage_at graph.places place)

-- those of all live stages, by place
abbrev pub ends : PlainGraph → List EndFate
ends graph = flat_map (fates_at graph) (all_places graph.places)
