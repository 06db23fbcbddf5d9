use Rattle.std.proofs.Common.{sym}
use Rattle.report_json.proofs.heads.push_last.Goals as goal

pub returns-in-One : goal.returns-in-One
returns-in-One g c = rw c.in-One.is (rw (sym c.standing-standing.ensures) c.push_last_of_one.ensures)

pub returns-in-Rescue : goal.returns-in-Rescue
returns-in-Rescue g c = rw c.in-Rescue.is (rw (sym c.standing-standing-in-Rescue.ensures) c.push_last_of_rescue.ensures)
