-- How much later or earlier a stage completes than in another version.
use Rattle.std.specs.Prelude.{ℕ, ◌-◌, Option, None, Some, nat_lt, if◌then◌else◌}
use Rattle.stage_graph.specs.declared.stage.Stage.{Stage}
use Rattle.stage_ops.specs.declared.state.Done.{Done}
use Rattle.version_store.specs.declared.before.Before.{Before}
use Rattle.version_store.specs.declared.before.Before.TheVariants as stood
use Rattle.version_store.specs.Plain.{PlainVersion}
use Rattle.version_store.specs.Queries.{state_of, moment_in, before}
use Rattle.report_rows.specs.declared.shift.Shift.{Shift}
use Rattle.report_rows.specs.declared.shift.Shift.TheVariants.{Later, Earlier}
use Rattle.report_rows.specs.Standings.{done_of}

-- how much later or earlier the second moment is, if it is another
abbrev pub shift_between : ℕ → ℕ → Option Shift
shift_between old new = if nat_lt old new then Some (Later (new - old)) else if nat_lt new old then Some (Earlier (old - new)) else None

-- ---- than in the parent

-- from a completion there to one here, if there are both
abbrev pub shift_since : Before → Option ℕ → Option Shift
shift_since stood.Absent new = None
shift_since stood.Pending new = None
shift_since (stood.Done outcome old) None = None
shift_since (stood.Done outcome old) (Some new) = shift_between old new

abbrev pub shift_at : PlainVersion → ℕ → Option Shift
shift_at version place = shift_since (before version.origin place) (moment_in (state_of version.graph place))

-- ---- than in another version

abbrev pub shift_from : Option (Option Done) → Option ℕ → Option Shift
shift_from (Some (Some there)) (Some moment) = shift_between there.moment moment
shift_from there moment = None

-- how much later or earlier than the stage of its name there
abbrev pub shift_against : PlainVersion → PlainVersion → ℕ → Stage → Option Shift
shift_against version against place stage = shift_from (done_of against.graph stage.name) (moment_in (state_of version.graph place))
