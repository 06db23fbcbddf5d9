use Rattle.report_text.proofs.Lines.{two_parts}
use Rattle.report_text.proofs.rows.push_end.Goals as goal

pub returns : goal.returns
returns c = two_parts c.push_fate_line.result _ _ _ _ _ c.in_ok-push_end_at.ensures c.push_fate_line.ensures
