-- What the reports say of a stage.
use Rattle.std.specs.Prelude.{ℕ, ◌+◌, ◌-◌, ◌^◌, Option, None, Some, min, if◌then◌else◌}
use Rattle.std.specs.Option.{option_map, option_map_or}
use Rattle.stage_graph.specs.declared.stage.Stage.{Stage}
use Rattle.stage_graph.specs.Plain.{PlainGraph, stage_at}
use Rattle.stage_graph.specs.Walk.{rank}
use Rattle.scratch_eval.specs.Path.{reason_at}
use Rattle.version_store.specs.Plain.{PlainVersion}
use Rattle.version_store.specs.Queries.{state_of, moment_in, start_in, before}
use Rattle.failure_origins.specs.declared.failure.Failure.{Failure}
use Rattle.stage_ends.specs.declared.fate.EndFate.{EndFate}
use Rattle.reply_rescue.specs.declared.rescue.Rescue.{Rescue}
use Rattle.run_comparison.specs.Differences.{share_of}
use Rattle.run_comparison.specs.declared.difference.Difference.{Difference}
use Rattle.run_comparison.specs.declared.difference.Stands.{Stands}
use Rattle.run_comparison.specs.declared.difference.Stands.TheVariants.{Both, OnlyBad, OnlyGood}
use Rattle.stage_slack.specs.declared.slack.Slack.{Slack}
use Rattle.time_sweep.specs.declared.trial.Trial.{Trial}
use Rattle.report_rows.specs.declared.in_run.InRun.{InRun}
use Rattle.report_rows.specs.declared.row.Row.{Row}
use Rattle.report_rows.specs.declared.row.Row.TheVariants as a_row
use Rattle.report_rows.specs.declared.shift.Shift.{Shift}
use Rattle.report_rows.specs.declared.standing.Standing.TheVariants.{Absent}
use Rattle.report_rows.specs.Against.{is_changed}
use Rattle.report_rows.specs.Causes.{because_of}
use Rattle.report_rows.specs.Changes.{tried_change}
use Rattle.report_rows.specs.Ends.{delay_in, end_at, end_text}
use Rattle.report_rows.specs.Names.{name_at, names_at}
use Rattle.report_rows.specs.Standings.{standing_at, standing_before, standing_there}

-- its operation, its rank, and what it is
abbrev pub state_row : PlainGraph → ℕ → Stage → Row
state_row graph place stage = a_row.State stage.name stage.op (rank graph.places place) (standing_at graph place)

-- when its action started, and how long it was queued and ran
abbrev pub times_row : PlainGraph → ℕ → Stage → Row
times_row graph place stage = a_row.Times stage.name (start_in (state_of graph place)) stage.queued stage.runs

-- why it completed when it did, or why it is pending
abbrev pub step_row : PlainGraph → ℕ → Stage → Row
step_row graph place stage =
    a_row.Step stage.name (moment_in (state_of graph place)) (reason_at graph place).queued (reason_at graph place).ran (because_of graph stage (reason_at graph place).cause)

-- what it was in the parent, and what it is here
abbrev pub change_row : PlainVersion → ℕ → Stage → Row
change_row version place stage = a_row.Change stage.name (standing_before (before version.origin place)) (standing_at version.graph place)

-- how much later or earlier it completes, where it does at another moment
abbrev pub shift_row : Stage → Option Shift → Option Row
shift_row stage shift = option_map (a_row.Shift stage.name) shift

-- what it is in another version and here, unless it is as the one of its name there
abbrev pub change_against_row : PlainVersion → PlainVersion → ℕ → Stage → Option Row
change_against_row version against place stage =
    if is_changed version against place stage
    then Some (a_row.Change stage.name (standing_there against.graph stage.name) (standing_at version.graph place))
    else None

-- what became of an end
abbrev pub end_row : PlainGraph → EndFate → Row
end_row graph one =
    a_row.End (name_at graph one.place) (end_text (end_at graph one.place one.index)) (delay_in (end_at graph one.place one.index)) one.moment one.fate

-- the exception that arose in a stage, whom it reaches, and who handles it
abbrev pub failure_row : PlainGraph → Failure → Stage → Row
failure_row graph failure stage =
    a_row.Failure stage.name (standing_at graph failure.origin) (names_at graph failure.reaches) (names_at graph failure.handled)

-- what a target that completes at this tick would come to if the action of the stage were faster
abbrev pub trial_row : PlainGraph → ℕ → Trial → Row
trial_row graph tick trial = a_row.Trial (name_at graph trial.place) (tick - trial.moment) trial.outcome trial.moment

-- how much longer the action of a stage may run, and when it started
abbrev pub slack_row : PlainGraph → Slack → Row
slack_row graph slack = a_row.Slack (name_at graph slack.place) slack.ticks slack.start

-- as many ticks after the start as the slack has, and the last tick of the clock if that is sooner; none where the slack has no end
abbrev pub latest_start : ℕ → Option ℕ → Option ℕ
latest_start start None = None
latest_start start (Some ticks) = Some (min (start + ticks) (2 ^ 64 - 1))

-- a change of a stage by which another one would have had a value, which, and when
abbrev pub rescue_row : PlainGraph → Rescue → Row
rescue_row graph rescue = a_row.Rescue (name_at graph rescue.place) (tried_change graph rescue.place rescue.change) rescue.value rescue.moment

-- ---- a stage of a good run and of a bad one

-- how long its own action was queued and ran, and what it came to
abbrev pub in_run_of : PlainGraph → ℕ → InRun
in_run_of graph place = record { queued = (share_of graph place).queued; ran = (share_of graph place).ran; standing = standing_at graph place }

-- where none stands
abbrev pub not_in_run : InRun
not_in_run = record { queued = 0; ran = 0; standing = Absent }

abbrev pub in_run : PlainGraph → ℕ → InRun
in_run graph place = option_map_or (λ stage. in_run_of graph place) (stage_at graph.places place) not_in_run

-- what it is in both, or in the one that has it
abbrev pub stands_row : PlainGraph → PlainGraph → Stands → Row
stands_row good bad (Both there here) = a_row.Differs (name_at bad here) (in_run good there) (in_run bad here)
stands_row good bad (OnlyBad here) = a_row.OnlyInBad (name_at bad here) (in_run bad here)
stands_row good bad (OnlyGood there) = a_row.OnlyInGood (name_at good there) (in_run good there)

abbrev pub difference_row : PlainGraph → PlainGraph → Difference → Row
difference_row good bad one = stands_row good bad one.stands
