use Rattle.std.proofs.Common.{ap}
use Rattle.report_json.specs.Json.{text}
use Rattle.report_json.proofs.Pushed.{member_is, one_row, then_rows}
use Rattle.report_json.proofs.heads.push_last_of_all.Goals as goal

pub returns : goal.returns
returns g c = then_rows c.push_listed_since.result _ _ _ _ _ (one_row _ _ _ _ (member_is _ _ _ _ _ (ap text c.mode_text.ensures) c.in_ok-text.ensures)) c.push_listed_since.ensures
