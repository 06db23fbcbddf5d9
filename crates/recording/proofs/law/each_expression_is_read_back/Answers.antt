use Rattle.recording.proofs.ReadBack.{each_is_read_back}
use Rattle.recording.proofs.law.each_expression_is_read_back.Goals as goal

pub returns : goal.returns
returns c = each_is_read_back
