use Rattle.std.proofs.Common.{option_copied}
use Rattle.std.specs.Prelude.{string_bytes}
use Rattle.recording_pictures.specs.Told.{plain_told}
use Rattle.recording_pictures.proofs.Pictured.{shown_of}
use Rattle.recording_pictures.proofs.text.target_text.Goals as goal

pub returns-in_ok-text-in-Ok : goal.returns-in_ok-text-in-Ok
returns-in_ok-text-in-Ok g c =
    shown_of c.args.version.now (plain_told c.args.told.now) (option_copied c.args.file) c.args.layout c.args.target c.in-Ok.drawing c.as_str.result.now c.room_of-room.result
    c.labels_of-labels.result (string_bytes c.in_ok-text-in-Ok.text) c.as_str.ensures.value c.room_of-room.ensures c.labels_of-labels.ensures c.in-Ok.ensures.drawn c.in_ok-text-in-Ok.ensures
