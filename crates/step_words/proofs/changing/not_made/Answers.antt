use Rattle.step_words.proofs.Faults.{edits_unmade}
use Rattle.step_words.proofs.changing.not_made.Goals as goal

pub returns-in_default : goal.returns-in_default
returns-in_default c meant made = edits_unmade _ meant made c.in_default.not-Memory
