-- A picture that is written, whole or in part.
use Rattle.std.proofs.Common.{ℕ, List, Option, Result, Ok, Err, sym, subst}
use Rattle.std.specs.Prelude.{string_bytes}
use Rattle.recording_reports.specs.declared.fault.RecordingFault.{RecordingFault}
use Rattle.recording_reports.specs.declared.fault.RecordingFault.TheVariants.{Refused, NoStage, Write, Memory}
use Rattle.version_store.specs.Plain.{PlainVersion}
use Rattle.version_rows.specs.declared.left_out.LeftOut.{LeftOut}
use Rattle.recording_pictures.specs.Drawn.{IsDrawn, IsDrawnOf, IsPut}
use Rattle.recording_pictures.specs.Pictures.{IsPictureOf, IsVersionPicture}
use Rattle.recording_pictures.specs.Told.{PlainTold}
use Rattle.recording_pictures.specs.declared.asked.Layout.{Layout}
use Rattle.recording_pictures.specs.declared.text.Written.{Written}

-- the picture of a recording
pub drawn : (recording : List ℕ) (file : Option (List ℕ)) (layout : Layout) (name old new : Option (List ℕ)) (written : Written) (result : Result LeftOut RecordingFault)
    → IsPictureOf recording file layout name (string_bytes written.text) written.left_out → IsPut written old new result → IsDrawn recording file layout name old new result
drawn recording file layout name old new written (Ok left_out) shows put = (
  string_bytes written.text,
  subst (λ (left_out : LeftOut). IsPictureOf recording file layout name (string_bytes written.text) left_out) (sym put.0) shows,
  put.1,
)
drawn recording file layout name old new written (Err (Refused fault)) shows put = absurd put
drawn recording file layout name old new written (Err NoStage) shows put = absurd put
drawn recording file layout name old new written (Err Write) shows put = (string_bytes written.text, written.left_out, shows, put)
drawn recording file layout name old new written (Err Memory) shows put = absurd put

-- that of a version
pub drawn_of : (version : PlainVersion) (told : PlainTold) (file : Option (List ℕ)) (layout : Layout) (name old new : Option (List ℕ)) (written : Written) (result : Result LeftOut RecordingFault)
    → IsVersionPicture version told file layout name (string_bytes written.text) written.left_out → IsPut written old new result → IsDrawnOf version told file layout name old new result
drawn_of version told file layout name old new written (Ok left_out) shows put = (
  string_bytes written.text,
  subst (λ (left_out : LeftOut). IsVersionPicture version told file layout name (string_bytes written.text) left_out) (sym put.0) shows,
  put.1,
)
drawn_of version told file layout name old new written (Err (Refused fault)) shows put = absurd put
drawn_of version told file layout name old new written (Err NoStage) shows put = absurd put
drawn_of version told file layout name old new written (Err Write) shows put = (string_bytes written.text, written.left_out, shows, put)
drawn_of version told file layout name old new written (Err Memory) shows put = absurd put
