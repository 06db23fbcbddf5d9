use Rattle.trace_laws.proofs.Holding.{each_has_its_stages}
use Rattle.trace_laws.proofs.faithful.each_span_has_its_stages.Goals as goal

pub returns : goal.returns
returns c = each_has_its_stages
