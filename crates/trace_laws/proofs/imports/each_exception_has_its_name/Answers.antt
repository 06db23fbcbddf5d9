use Rattle.trace_laws.proofs.Exceptions.{each_has_its_name}
use Rattle.trace_laws.proofs.imports.each_exception_has_its_name.Goals as goal

pub returns : goal.returns
returns c = each_has_its_name
