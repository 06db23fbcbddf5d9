use Rattle.std.proofs.Common.{option_copied}
use Rattle.recording_pictures.proofs.Put.{drawn}
use Rattle.recording_pictures.proofs.drawing.draw_recording.Goals as goal

pub returns-clause-written : goal.returns-clause-written
returns-clause-written g c =
    drawn c.args.recording.now (option_copied c.args.asked.file) c.args.asked.layout (option_copied c.args.asked.stage) _ _ c.in_ok-written.written c.put.result
    c.in_ok-written.ensures c.put.ensures.put
