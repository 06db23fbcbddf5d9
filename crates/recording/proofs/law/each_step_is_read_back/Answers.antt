use Rattle.recording.proofs.StepsReadBack.{step_back}
use Rattle.recording.proofs.law.each_step_is_read_back.Goals as goal

pub returns : goal.returns
returns c = step_back
