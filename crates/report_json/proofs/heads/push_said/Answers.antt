use Rattle.report_json.proofs.InOrder.{said_told}
use Rattle.report_json.proofs.heads.push_said.Goals as goal

pub returns : goal.returns
returns g c =
    said_told c.end_object.result c.args.number _ _ _ _ _ _ _ _ _ c.said.view_is c.rows-rows.ensures c.in_ok-begin_object.ensures c.in_ok-push_first.ensures c.in_ok-push_number.ensures c.in_ok-push_last.ensures
    c.end_object.ensures
