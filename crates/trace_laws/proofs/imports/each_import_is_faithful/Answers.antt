use Rattle.trace_laws.proofs.Importing.{import_faithful}
use Rattle.trace_laws.proofs.imports.each_import_is_faithful.Goals as goal

pub returns : goal.returns
returns c = import_faithful
