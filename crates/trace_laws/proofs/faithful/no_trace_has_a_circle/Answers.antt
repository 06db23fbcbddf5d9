use Rattle.trace_laws.proofs.Holding.{no_circle}
use Rattle.trace_laws.proofs.faithful.no_trace_has_a_circle.Goals as goal

pub returns : goal.returns
returns c = no_circle
