-- What an import writes: the recording that a trace makes.
use Rattle.std.specs.Prelude.{◌≡◌, ℕ, ◌<◌, ◌≤◌, List, [], ◌∷◌, codes, length, Option, Result, Ok, Err, Vec}
use Rattle.std.specs.Fmt.{signed_decimal}
use Rattle.std.specs.Io.KnownBytes.{Appends, Keeps}
use Rattle.std.specs.declared.alloc.Global.{Global}
use Rattle.recording_text.specs.Labels.{PlainHead, labelled_recording}
use Rattle.text_io.specs.Sink.{AppendsPrefix}
use Rattle.trace_relations.specs.Ancestry.{most_spans}
use Rattle.trace_relations.specs.Reads.{IsFault as IsRelationsFault}
use Rattle.trace_relations.specs.Relations.{AreRelationsOf, PlainRelations, fault_in, moved_of, plain}
use Rattle.trace_relations.specs.Units.{unit_text}
use Rattle.trace_relations.specs.declared.fault.RelationsFault.{RelationsFault}
use Rattle.trace_spans.specs.Reads.{IsFault}
use Rattle.trace_spans.specs.Spans.{spans_of}
use Rattle.trace_spans.specs.declared.trace.Trace.{Trace}
use Rattle.trace_stages.specs.Names.{names}
use Rattle.trace_stages.specs.Naming.{plain_stages}
use Rattle.trace_stages.specs.StagesOf.{AreStages}
use Rattle.trace_stages.specs.declared.stage.Stages.{Stages}
use Rattle.trace_import.specs.ClockLabels.{clock_labels}
use Rattle.trace_import.specs.Limits.{longest, most_stages}
use Rattle.trace_import.specs.Specs.{labelled_stages}
use Rattle.trace_import.specs.Texts.{TellsTexts}
use Rattle.trace_import.specs.declared.fault.ImportFault.{ImportFault}
use Rattle.trace_import.specs.declared.fault.ImportFault.TheVariants.{Refused, Unticked, TooManyStages, TooLong, Write, Memory}
use Rattle.trace_import.specs.declared.note.Note.{Note}
use Rattle.trace_import.specs.declared.options.Mapping.{Mapping}
use Rattle.trace_import.specs.declared.recorded.Recorded.{Recorded}
use Rattle.trace_import.specs.declared.reading.Reading.{Reading}
use Rattle.trace_import.specs.declared.traced.TraceRecording.{TraceRecording}

abbrev pub count_of : Stages → ℕ
count_of stages = length stages.0.items

-- a trace whose spans are not too many; they stand so to each other, and these are its stages
pub record IsMadeFrom (mapping : Mapping) (trace : Trace) (relations : PlainRelations) (stages : Stages) : Type 0 where
  pub few : length trace.spans ≤ most_spans
  pub texts : TellsTexts trace
  pub stand : AreRelationsOf mapping.unit mapping.as_told trace.spans relations
  pub stages_are : AreStages trace.spans relations mapping.as_told stages

-- the trace has no ticks, for this reason
abbrev pub IsUnticked : Mapping → Trace → RelationsFault → Type 0
IsUnticked mapping trace fault = IsRelationsFault fault (fault_in mapping.unit mapping.as_told trace.spans)

-- there are too many stages
abbrev pub HasTooMany : Mapping → Trace → Type 0
HasTooMany mapping trace = (relations : PlainRelations) × (stages : Stages) × IsMadeFrom mapping trace relations stages × (most_stages < count_of stages)

-- ---- the text

-- the trace, the unit of ticks, the earliest time, and the clocks that are moved
abbrev pub head_of : Mapping → Trace → PlainRelations → PlainHead
head_of mapping trace relations =
    ((codes "trace", trace.id) ∷ (codes "unit", unit_text mapping.unit) ∷ (codes "start", signed_decimal relations.origin) ∷ [], (codes "clocks", clock_labels mapping.as_told trace.spans))

-- the text of the recording of stages
abbrev pub text_of : Mapping → Trace → PlainRelations → Stages → List ℕ
text_of mapping trace relations stages =
    labelled_recording (head_of mapping trace relations) (labelled_stages trace.spans (names trace.spans relations.order) (plain_stages stages.0.items))

-- the text of the recording that a trace makes, which may be too long
abbrev pub IsTextOf : Mapping → Trace → List ℕ → Type 0
IsTextOf mapping trace text = (relations : PlainRelations) × (stages : Stages) × IsMadeFrom mapping trace relations stages × (count_of stages ≤ most_stages) × (text ≡ text_of mapping trace relations stages)

-- the text of the recording that a trace makes
abbrev pub IsRecordingOf : Mapping → Trace → List ℕ → Type 0
IsRecordingOf mapping trace text = IsTextOf mapping trace text × (length text ≤ longest)

-- the recording that a trace makes is too long
abbrev pub IsTooLong : Mapping → Trace → Type 0
IsTooLong mapping trace = (text : List ℕ) × IsTextOf mapping trace text × (longest < length text)

-- ---- why a trace makes no recording

abbrev pub IsNotMade : Mapping → Trace → ImportFault → Type 0
IsNotMade mapping trace (Refused fault) = ⊥
-- it has no ticks
IsNotMade mapping trace (Unticked fault) = IsUnticked mapping trace fault
IsNotMade mapping trace TooManyStages = HasTooMany mapping trace
IsNotMade mapping trace TooLong = IsTooLong mapping trace
IsNotMade mapping trace Write = ⊥
IsNotMade mapping trace Memory = Unit {0}

-- ---- what the calls inside answer

-- the clocks of what was made of a trace are moved as they are said to be
abbrev pub HasMoved : Mapping → Reading → Type 0
HasMoved mapping reading = reading.relations.moved.items ≡ moved_of mapping.as_told reading.trace.now.spans

-- what is made of a trace
abbrev pub IsReadingOf : Mapping → Trace → Result Reading ImportFault → Type 0
IsReadingOf mapping trace (Ok reading) = (reading.trace.now ≡ trace) × IsMadeFrom mapping trace (plain reading.relations) reading.stages × (count_of reading.stages ≤ most_stages) × HasMoved mapping reading
IsReadingOf mapping trace (Err TooLong) = ⊥
IsReadingOf mapping trace (Err fault) = IsNotMade mapping trace fault

-- the spans of what was made have these names
abbrev pub HasNames : Mapping → Reading → List (List ℕ) → Type 0
HasNames mapping reading named = HasMoved mapping reading × (named ≡ names reading.trace.now.spans (plain reading.relations).order)

-- the text of what was made, whose spans have these names, or why there is none
abbrev pub IsTextOfReading : Mapping → Reading → List (List ℕ) → Result (Vec ℕ Global) ImportFault → Type 0
IsTextOfReading mapping reading named (Ok text) =
    (HasNames mapping reading named → text.items ≡ text_of mapping reading.trace.now (plain reading.relations) reading.stages) × (length text.items ≤ longest)
IsTextOfReading mapping reading named (Err TooLong) =
    HasNames mapping reading named → longest < length (text_of mapping reading.trace.now (plain reading.relations) reading.stages)
IsTextOfReading mapping reading named (Err Memory) = Unit {0}
IsTextOfReading mapping reading named (Err other) = ⊥

-- what is made of a trace and the text of its recording, or why there is none
abbrev pub IsTracedFrom : Mapping → Trace → Result TraceRecording ImportFault → Type 0
IsTracedFrom mapping trace (Ok made) =
    IsReadingOf mapping trace (Ok made.reading) × (made.text.items ≡ text_of mapping trace (plain made.reading.relations) made.reading.stages) × (length made.text.items ≤ longest)
IsTracedFrom mapping trace (Err fault) = IsNotMade mapping trace fault

-- the recording of a trace, or why there is none
abbrev pub IsRecordedFrom : Mapping → Trace → Result Recorded ImportFault → Type 0
IsRecordedFrom mapping trace (Ok recorded) = IsRecordingOf mapping trace recorded.text.items
IsRecordedFrom mapping trace (Err fault) = IsNotMade mapping trace fault

-- ---- imports

-- what was written of the trace that bytes tell, from what the sink held and holds, by how the call ended
abbrev pub IsWrittenOf : Mapping → Trace → Option (List ℕ) → Option (List ℕ) → Result (Vec Note Global) ImportFault → Type 0
-- the whole recording
IsWrittenOf mapping trace old new (Ok notes) = (text : List ℕ) × IsRecordingOf mapping trace text × Appends old new text
-- a part of the recording, as a write failed
IsWrittenOf mapping trace old new (Err Write) = (text : List ℕ) × IsRecordingOf mapping trace text × AppendsPrefix old new text
-- nothing, as none is made
IsWrittenOf mapping trace old new (Err fault) = IsNotMade mapping trace fault × Keeps old new

-- what was written of the trace that is asked for; nothing, if the file is refused or memory is out
abbrev pub IsImported : List ℕ → Option (List ℕ) → Mapping → Option (List ℕ) → Option (List ℕ) → Result (Vec Note Global) ImportFault → Type 0
IsImported bytes wanted mapping old new (Err (Refused fault)) = IsFault fault (spans_of bytes wanted) × Keeps old new
IsImported bytes wanted mapping old new (Err Memory) = Keeps old new
IsImported bytes wanted mapping old new result = (trace : Trace) × (spans_of bytes wanted ≡ Ok trace) × IsWrittenOf mapping trace old new result
