use Rattle.std.proofs.Common.{option_copied}
use Rattle.recording_pictures.specs.Told.{plain_told}
use Rattle.recording_pictures.proofs.Put.{drawn_of}
use Rattle.recording_pictures.proofs.drawing.draw_version.Goals as goal

pub returns-clause-written : goal.returns-clause-written
returns-clause-written g c =
    drawn_of c.args.version.now (plain_told c.args.told.now) (option_copied c.args.asked.file) c.args.asked.layout (option_copied c.args.asked.stage) _ _ c.in_ok-written.written c.put.result
    c.in_ok-written.ensures c.put.ensures.put
