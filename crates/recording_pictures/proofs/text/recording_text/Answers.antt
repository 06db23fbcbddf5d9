use Rattle.std.proofs.Common.{option_copied}
use Rattle.recording_pictures.specs.Told.{plain_told}
use Rattle.recording_pictures.proofs.Pictured.{as_told, made}
use Rattle.recording_pictures.proofs.text.recording_text.Goals as goal

pub returns : goal.returns
returns g c =
    let told = as_told c.args.recording.now c.in-Ok.read.1 c.in-Ok.ensures.unit c.in-Ok.ensures.imported c.in-Ok.ensures.deadline in
    made c.args.recording.now (option_copied c.args.asked.file) c.args.asked.layout (option_copied c.args.asked.stage) c.in-Ok.read.0 c.in-Ok-load.version (plain_told c.in-Ok.read.1) c.version_text-written.result
    c.in-Ok.ensures.graph c.in-Ok-load.ensures told c.version_text-written.ensures
