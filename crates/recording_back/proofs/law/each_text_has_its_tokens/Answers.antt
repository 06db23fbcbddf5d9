use Rattle.recording_back.proofs.TextTokens.{text_tokens}
use Rattle.recording_back.proofs.law.each_text_has_its_tokens.Goals as goal

pub returns : goal.returns
returns c = text_tokens
