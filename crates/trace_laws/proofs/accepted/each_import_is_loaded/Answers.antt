use Rattle.trace_laws.proofs.Loading.{import_loaded}
use Rattle.trace_laws.proofs.accepted.each_import_is_loaded.Goals as goal

pub returns : goal.returns
returns c = import_loaded
