use Rattle.trace_laws.proofs.Meeting.{each_is_faithful}
use Rattle.trace_laws.proofs.faithful.each_trace_is_faithful.Goals as goal

pub returns : goal.returns
returns c = each_is_faithful
