use Rattle.std.proofs.Common.{length}
use Rattle.desk.proofs.close.+have_own_numbers.Given as goal

abbrev pub decreases-have_own_numbers : goal.decreases-have_own_numbers
decreases-have_own_numbers g l = length l.clients.now
