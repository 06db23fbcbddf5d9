use Rattle.trace_stages.proofs.Apart.{names_apart}
use Rattle.trace_stages.proofs.span_names.laws.names_are_apart.Goals as goal

pub returns : goal.returns
returns c = names_apart
