use Rattle.step_words.proofs.Faults.{step_untold}
use Rattle.step_words.proofs.speaking.no_step.Goals as goal

pub returns-in_default : goal.returns-in_default
returns-in_default c meant read = step_untold _ meant read c.in_default.not-Memory
