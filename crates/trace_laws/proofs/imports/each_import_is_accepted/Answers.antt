use Rattle.trace_laws.proofs.Importing.{import_accepted}
use Rattle.trace_laws.proofs.imports.each_import_is_accepted.Goals as goal

pub returns : goal.returns
returns c = import_accepted
