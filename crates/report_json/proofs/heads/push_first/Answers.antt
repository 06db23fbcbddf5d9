use Rattle.std.proofs.Common.{ap, refl, sym}
use Rattle.report_json.specs.Json.{count}
use Rattle.report_json.specs.Rows.{names_json}
use Rattle.report_json.proofs.Pushed.{no_rows_told, only_row}
use Rattle.report_json.proofs.heads.push_first.Goals as goal

pub returns-in-All : goal.returns-in-All
returns-in-All c = rw c.in-All.is (no_rows_told _)

pub returns-in-Times : goal.returns-in-Times
returns-in-Times c = rw c.in-Times.is (no_rows_told _)

pub returns-in-Path : goal.returns-in-Path
returns-in-Path c = rw c.in-Path.is (no_rows_told _)

pub returns-in-Change : goal.returns-in-Change
returns-in-Change c = rw c.in-Change.is (no_rows_told _)

pub returns-in-Changes : goal.returns-in-Changes
returns-in-Changes c = rw c.in-Changes.is (no_rows_told _)

pub returns-in-Drift : goal.returns-in-Drift
returns-in-Drift c = rw c.in-Drift.is (no_rows_told _)

pub returns-in-Ends : goal.returns-in-Ends
returns-in-Ends c = rw c.in-Ends.is (no_rows_told _)

pub returns-in-Failures : goal.returns-in-Failures
returns-in-Failures c = rw c.in-Failures.is (no_rows_told _)

pub returns-in-Blame : goal.returns-in-Blame
returns-in-Blame c = rw c.in-Blame.is (only_row c.push_names_member.result _ _ _ _ _ (ap names_json c.as_slice.ensures) c.push_names_member.ensures)

pub returns-in-ChangesAgainst : goal.returns-in-ChangesAgainst
returns-in-ChangesAgainst c = rw c.in-ChangesAgainst.is (only_row c.count.result _ _ _ _ _ (ap count c.from.ensures) c.count.ensures)

pub returns-in-DriftAgainst : goal.returns-in-DriftAgainst
returns-in-DriftAgainst c = rw c.in-DriftAgainst.is (only_row c.count-in-DriftAgainst.result _ _ _ _ _ (ap count c.from-in-DriftAgainst.ensures) c.count-in-DriftAgainst.ensures)

pub returns-in-Slack : goal.returns-in-Slack
returns-in-Slack c = rw c.in-Slack.is (only_row c.count-in-Slack.result _ _ _ _ _ refl c.count-in-Slack.ensures)

pub returns-in-Rescue : goal.returns-in-Rescue
returns-in-Rescue c = rw c.in-Rescue.is c.push_first_of_rescue.ensures

pub returns-in-Sweep : goal.returns-in-Sweep
returns-in-Sweep c = rw c.in-Sweep.is c.push_first_of_sweep.ensures

pub returns-in-Differences : goal.returns-in-Differences
returns-in-Differences c = rw c.in-Differences.is (rw (sym c.standing.ensures, sym c.standing-in-Differences.ensures) c.push_first_of_differences.ensures)
