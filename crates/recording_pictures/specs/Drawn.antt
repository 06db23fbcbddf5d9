-- What is written of a picture, from what the sink held and holds, by how the call ended.
use Rattle.std.specs.Prelude.{ℕ, ◌≡◌, List, Option, None, Result, Ok, Err, string_bytes}
use Rattle.std.specs.Io.KnownBytes.{Appends, Keeps}
use Rattle.text_io.specs.Sink.{AppendsPrefix}
use Rattle.recording.specs.Reads.{IsNamed}
use Rattle.recording.specs.RecordingOf.{named}
use Rattle.version_store.specs.Plain.{PlainVersion}
use Rattle.version_rows.specs.declared.left_out.LeftOut.{LeftOut}
use Rattle.recording_reports.specs.declared.fault.RecordingFault.{RecordingFault}
use Rattle.recording_reports.specs.declared.fault.RecordingFault.TheVariants.{Refused, NoStage, Write, Memory}
use Rattle.recording_pictures.specs.Pictures.{IsPictureOf, IsVersionPicture, IsWithout, target_of}
use Rattle.recording_pictures.specs.Told.{PlainTold}
use Rattle.recording_pictures.specs.declared.asked.Layout.{Layout}
use Rattle.recording_pictures.specs.declared.text.Written.{Written}

abbrev pub IsPut : Written → Option (List ℕ) → Option (List ℕ) → Result LeftOut RecordingFault → Type 0
-- the whole text
IsPut written old new (Ok left_out) = (left_out ≡ written.left_out) × Appends old new (string_bytes written.text)
-- a part of it, as a write failed
IsPut written old new (Err Write) = AppendsPrefix old new (string_bytes written.text)
IsPut written old new (Err other) = ⊥

abbrev pub IsDrawn : List ℕ → Option (List ℕ) → Layout → Option (List ℕ) → Option (List ℕ) → Option (List ℕ) → Result LeftOut RecordingFault → Type 0
-- the whole picture of a recording, which leaves so many stages out
IsDrawn recording file layout name old new (Ok left_out) = (text : List ℕ) × IsPictureOf recording file layout name text left_out × Appends old new text
-- nothing, as the recording is refused, or memory ran out while it was read
IsDrawn recording file layout name old new (Err (Refused fault)) = IsNamed (Err fault) (named recording) × Keeps old new
-- nothing, as the recording has no stage of the name
IsDrawn recording file layout name old new (Err NoStage) = IsWithout recording name × Keeps old new
-- a part of the picture, as a write failed
IsDrawn recording file layout name old new (Err Write) = (text : List ℕ) × (left_out : LeftOut) × IsPictureOf recording file layout name text left_out × AppendsPrefix old new text
-- nothing, as memory ran out
IsDrawn recording file layout name old new (Err Memory) = Keeps old new

abbrev pub IsDrawnOf : PlainVersion → PlainTold → Option (List ℕ) → Layout → Option (List ℕ) → Option (List ℕ) → Option (List ℕ) → Result LeftOut RecordingFault → Type 0
-- the whole picture of a version, which leaves so many stages out
IsDrawnOf version told file layout name old new (Ok left_out) = (text : List ℕ) × IsVersionPicture version told file layout name text left_out × Appends old new text
-- a version is not refused
IsDrawnOf version told file layout name old new (Err (Refused fault)) = ⊥
-- nothing, as the version has no stage of the name
IsDrawnOf version told file layout name old new (Err NoStage) = (target_of version.graph name ≡ None) × Keeps old new
-- a part of the picture, as a write failed
IsDrawnOf version told file layout name old new (Err Write) = (text : List ℕ) × (left_out : LeftOut) × IsVersionPicture version told file layout name text left_out × AppendsPrefix old new text
-- nothing, as memory ran out
IsDrawnOf version told file layout name old new (Err Memory) = Keeps old new

-- how many writes failed
abbrev pub failed_writes : Result LeftOut RecordingFault → ℕ
failed_writes (Err Write) = 1
failed_writes others = 0
