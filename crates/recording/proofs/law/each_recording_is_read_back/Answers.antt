use Rattle.recording.proofs.StagesReadBack.{recording_back}
use Rattle.recording.proofs.law.each_recording_is_read_back.Goals as goal

pub returns : goal.returns
returns c = recording_back
