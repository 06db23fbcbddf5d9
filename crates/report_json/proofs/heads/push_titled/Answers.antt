use Rattle.std.proofs.Common.{ap}
use Rattle.report_json.specs.Json.{count}
use Rattle.report_json.proofs.Pushed.{last_row, named_told, one_row}
use Rattle.report_json.proofs.heads.push_titled.Goals as goal

pub returns : goal.returns
returns g c =
    last_row c.count.result _ _ _ _ _ _ _ (ap count c.from.ensures)
    (one_row _ _ _ _ (named_told _ _ _ _ _ c.in_ok-name.ensures c.in_ok-push_rows.ensures))
    c.count.ensures
