use Rattle.std.proofs.Common.{refl}
use Rattle.report_json.proofs.Pushed.{no_rows_told, only_row}
use Rattle.report_json.proofs.haste.push_haste.Goals as goal

pub returns-in-Some : goal.returns-in-Some
returns-in-Some c = rw c.in-Some.is (only_row c.push_hundredths.result _ _ _ _ _ refl c.push_hundredths.ensures)

pub returns-in-None : goal.returns-in-None
returns-in-None c = rw c.in-None.is (no_rows_told _)
