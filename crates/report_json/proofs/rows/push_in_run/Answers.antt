use Rattle.std.proofs.Common.{sym}
use Rattle.report_json.proofs.rows.push_in_run.Goals as goal

pub returns : goal.returns
returns c = rw (sym c.standing.ensures) c.push_own.ensures
