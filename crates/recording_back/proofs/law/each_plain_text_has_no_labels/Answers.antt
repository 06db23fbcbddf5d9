use Rattle.recording_back.proofs.Plain.{text_same}
use Rattle.recording_back.proofs.law.each_plain_text_has_no_labels.Goals as goal

pub returns : goal.returns
returns c = text_same
