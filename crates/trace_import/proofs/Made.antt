-- What a trace makes, put together from what each call says.
use Rattle.std.proofs.Common.{◌≡◌, ◌≤◌, ◌∙◌, ℕ, List, length, Ok, Err, Vec, ap, subst}
use Rattle.std.specs.declared.alloc.Global.{Global}
use Rattle.trace_relations.specs.Ancestry.{most_spans}
use Rattle.trace_relations.specs.Relations.{AreRelations, AreRelationsOf, plain}
use Rattle.trace_relations.specs.declared.relations.Relations.{Relations}
use Rattle.trace_spans.specs.declared.span.Span.{Span}
use Rattle.trace_spans.specs.declared.trace.Trace.{Trace}
use Rattle.trace_stages.specs.Names.{names}
use Rattle.trace_stages.specs.StagesOf.{AreStages}
use Rattle.trace_stages.specs.declared.stage.Stages.{Stages}
use Rattle.trace_import.specs.Imported.{IsMadeFrom, IsNotMade, IsReadingOf, IsRecordingOf, IsTextOf, IsTextOfReading, IsTracedFrom, text_of}
use Rattle.trace_import.specs.Limits.{longest}
use Rattle.trace_import.specs.Texts.{TellsTexts}
use Rattle.trace_import.specs.declared.fault.ImportFault.{ImportFault}
use Rattle.trace_import.specs.declared.fault.ImportFault.TheVariants.{Refused, Unticked, TooManyStages, TooLong, Write, Memory}
use Rattle.trace_import.specs.declared.options.Mapping.{Mapping}
use Rattle.trace_import.specs.declared.reading.Reading.{Reading}
use Rattle.trace_import.specs.declared.traced.TraceRecording.{TraceRecording}

pub made_from : (mapping : Mapping) (trace : Trace) (spans : List Span) (relations : Relations) (stages : Stages)
    → spans ≡ trace.spans → TellsTexts trace → AreRelations mapping.unit mapping.as_told spans (Ok relations) → AreStages spans (plain relations) mapping.as_told stages
    → IsMadeFrom mapping trace (plain relations) stages
made_from mapping trace spans relations stages are texts stand stages_are = record {
  few = subst (λ (those : List Span). length those ≤ most_spans) are stand.0;
  texts = texts;
  stand = subst (λ (those : List Span). AreRelationsOf mapping.unit mapping.as_told those (plain relations)) are stand.1;
  stages_are = subst (λ (those : List Span). AreStages those (plain relations) mapping.as_told stages) are stages_are;
}

-- why nothing is made of a trace, as what is made of it says
pub not_read : (mapping : Mapping) (trace : Trace) (fault : ImportFault) → IsReadingOf mapping trace (Err fault) → IsNotMade mapping trace fault
not_read mapping trace (Refused fault) why = why
not_read mapping trace (Unticked fault) why = why
not_read mapping trace TooManyStages why = why
not_read mapping trace TooLong why = absurd why
not_read mapping trace Write why = why
not_read mapping trace Memory why = why

text_made : (mapping : Mapping) (trace : Trace) (reading : Reading) → IsReadingOf mapping trace (Ok reading) → IsTextOf mapping trace (text_of mapping reading.trace.now (plain reading.relations) reading.stages)
text_made mapping trace reading from = (plain reading.relations, reading.stages, from.1, from.2, ap (λ (it : Trace). text_of mapping it (plain reading.relations) reading.stages) from.0)

-- the text of what was made is that of the trace
pub traced : (mapping : Mapping) (trace : Trace) (reading : Reading) (named : List (List ℕ)) (text : Vec ℕ Global)
    → IsReadingOf mapping trace (Ok reading) → named ≡ names reading.trace.now.spans (plain reading.relations).order → IsTextOfReading mapping reading named (Ok text)
    → (text.items ≡ text_of mapping trace (plain reading.relations) reading.stages) × (length text.items ≤ longest)
traced mapping trace reading named text from so told =
    (told.0 (from.3, so) ∙ ap (λ (it : Trace). text_of mapping it (plain reading.relations) reading.stages) from.0, told.1)

-- so it is the trace's recording
pub recorded : (mapping : Mapping) (trace : Trace) (made : TraceRecording) → IsTracedFrom mapping trace (Ok made) → IsRecordingOf mapping trace made.text.items
recorded mapping trace made from = ((plain made.reading.relations, made.reading.stages, from.0.1, from.0.2, from.1), from.2)

-- why what was made has no text, as the trace has none
pub not_told : (mapping : Mapping) (trace : Trace) (reading : Reading) (named : List (List ℕ)) (fault : ImportFault)
    → IsReadingOf mapping trace (Ok reading) → named ≡ names reading.trace.now.spans (plain reading.relations).order → IsTextOfReading mapping reading named (Err fault)
    → IsNotMade mapping trace fault
not_told mapping trace reading named (Refused fault) from so why = absurd why
not_told mapping trace reading named (Unticked fault) from so why = absurd why
not_told mapping trace reading named TooManyStages from so why = absurd why
not_told mapping trace reading named TooLong from so why = (text_of mapping reading.trace.now (plain reading.relations) reading.stages, text_made mapping trace reading from, why (from.3, so))
not_told mapping trace reading named Write from so why = absurd why
not_told mapping trace reading named Memory from so why = tt
