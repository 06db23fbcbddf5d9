use Rattle.std.proofs.Common.{ℕ, length}
use Rattle.diagnosis.proofs.passing.after_unread.Given as goal

-- what is still to be gone past gets shorter
abbrev pub decreases-loop-rest : goal.decreases-loop-rest
decreases-loop-rest g l = length l.rest
