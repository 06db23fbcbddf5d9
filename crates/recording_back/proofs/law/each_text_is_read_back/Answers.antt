use Rattle.recording_back.proofs.StageBack.{read_back}
use Rattle.recording_back.proofs.law.each_text_is_read_back.Goals as goal

pub returns : goal.returns
returns c = read_back
