-- What is asked of a sweep, and which of its trials are told.
use Rattle.std.specs.Prelude.{List, Option, None, Some, ◌==◌, if◌then◌else◌}
use Rattle.time_sweep.specs.declared.haste.Haste.{Haste}
use Rattle.time_sweep.specs.declared.haste.Part.{Part}
use Rattle.time_sweep.specs.declared.haste.Part.TheVariants.{Both, Queue}
use Rattle.time_sweep.specs.declared.trial.Trial.{Trial}
use Rattle.time_sweep.specs.Hastened.{whole_haste}
use Rattle.time_sweep.specs.Sweep.{values}
use Rattle.report_rows.specs.declared.sweep_asked.Ending.{Ending}
use Rattle.report_rows.specs.declared.sweep_asked.Ending.TheVariants.{Any, Value}
use Rattle.report_rows.specs.declared.sweep_asked.SweepAsked.{SweepAsked}

-- all trials of actions that are not queued and take no time
abbrev pub plain_sweep : SweepAsked
plain_sweep = record { haste = whole_haste; ending = Any; most = None }

-- the haste, unless it is that one
abbrev pub haste_by : Part → Haste → Option Haste
haste_by Both haste = if haste.percent == 0 then None else Some haste
haste_by Queue haste = Some haste

abbrev pub told_haste : Haste → Option Haste
told_haste haste = haste_by haste.part haste

-- those by which the target ends as is asked for
abbrev pub ending_so : Ending → List Trial → List Trial
ending_so Any trials = trials
ending_so Value trials = values trials
