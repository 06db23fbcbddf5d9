use Rattle.report_text.proofs.Lines.{two_parts}
use Rattle.report_text.proofs.rows.push_concerned.Goals as goal

pub returns : goal.returns
returns c = two_parts c.push_titled_names-2.result _ _ _ _ _ c.in_ok-push_titled_names.ensures c.push_titled_names-2.ensures
