use Rattle.report_json.proofs.Pushed.{no_rows_told, number_told}
use Rattle.report_json.proofs.heads.push_number.Goals as goal

pub returns-in-Some : goal.returns-in-Some
returns-in-Some c = number_told c.count.result _ _ _ _ c.in-Some.is c.count.ensures

pub returns-in-None : goal.returns-in-None
returns-in-None c = rw c.in-None.is (no_rows_told _)
