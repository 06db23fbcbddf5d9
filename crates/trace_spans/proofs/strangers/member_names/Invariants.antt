use Rattle.std.proofs.Common.{length}
use Rattle.trace_spans.proofs.strangers.member_names.Given as goal

abbrev pub decreases-members : goal.decreases-members
decreases-members l = length l.members
