use Rattle.report_text.proofs.Lines.{two_parts}
use Rattle.report_text.proofs.haste.push_both.Goals as goal

pub returns : goal.returns
returns c = two_parts c.push_share-2.result _ _ _ _ _ c.in_ok-push_share.ensures c.push_share-2.ensures
