use Rattle.report_json.proofs.Pushed.{named_told, one_row, then_row}
use Rattle.report_json.proofs.heads.push_first_of_differences.Goals as goal

pub returns : goal.returns
returns c =
    then_row c.push_standing-2.result _ _ _ _ _ _ _ (one_row _ _ _ _ (named_told _ _ _ _ _ c.in_ok-name.ensures c.in_ok-push_standing.ensures)) c.in_ok-name-2.ensures c.push_standing-2.ensures
