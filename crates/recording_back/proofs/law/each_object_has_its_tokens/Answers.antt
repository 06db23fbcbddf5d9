use Rattle.recording_back.proofs.Objects.{object_tokens}
use Rattle.recording_back.proofs.law.each_object_has_its_tokens.Goals as goal

pub returns : goal.returns
returns c = object_tokens
