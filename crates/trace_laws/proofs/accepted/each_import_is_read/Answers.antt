use Rattle.trace_laws.proofs.Reading.{import_read}
use Rattle.trace_laws.proofs.accepted.each_import_is_read.Goals as goal

pub returns : goal.returns
returns c = import_read
