use Rattle.std.proofs.Common.{length}
use Rattle.library_tests.proofs.propagation.+touch.Given as goal

-- the steps that are left
abbrev pub decreases-touch : goal.decreases-touch
decreases-touch g l = length l.rows.now
