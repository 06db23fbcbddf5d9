use Rattle.trace_laws.proofs.Holding.{each_source_is_a_stage}
use Rattle.trace_laws.proofs.faithful.each_source_is_a_stage.Goals as goal

pub returns : goal.returns
returns c = each_source_is_a_stage
