-- What an import writes is read as the stages of its trace.
use Rattle.std.specs.Prelude.{◌≡◌, ◌≤◌, length, Ok}
use Rattle.act_expr.specs.declared.outcome.Mode.TheVariants.{Computed}
use Rattle.recording.specs.RecordingOf.{named, recorded}
use Rattle.trace_relations.specs.Ancestry.{most_spans}
use Rattle.trace_relations.specs.Relations.{AreRelationsOf, PlainRelations}
use Rattle.trace_spans.specs.declared.trace.Trace.{Trace}
use Rattle.trace_stages.specs.StagesOf.{AreStages}
use Rattle.trace_stages.specs.declared.stage.Stages.{Stages}
use Rattle.trace_import.specs.declared.options.Mapping.{Mapping}
use Rattle.trace_import.specs.Imported.{count_of, text_of}
use Rattle.trace_import.specs.Limits.{longest, most_stages}
use Rattle.trace_import.specs.Texts.{TellsTexts}
use Rattle.trace_laws.specs.Accepted.{graph_of, specs_of}

-- the text is read as the stages of a trace, of which none is refused
pub record IsRead (mapping : Mapping) (trace : Trace) (relations : PlainRelations) (stages : Stages) : Type 0 where
  pub as_stages : recorded (text_of mapping trace relations stages) ≡ Ok (record { mode = Computed; stages = specs_of trace.spans relations stages })
  pub as_graph : named (text_of mapping trace relations stages) ≡ Ok (graph_of (specs_of trace.spans relations stages))

-- the text of the stages of each trace is read so, if neither spans nor stages are too many and it is not too long
abbrev pub EachImportIsRead : Type 0
EachImportIsRead =
    (mapping : Mapping) (trace : Trace) (relations : PlainRelations) (stages : Stages)
    → TellsTexts trace → AreRelationsOf mapping.unit mapping.as_told trace.spans relations → AreStages trace.spans relations mapping.as_told stages → length trace.spans ≤ most_spans → count_of stages ≤ most_stages
    → length (text_of mapping trace relations stages) ≤ longest → IsRead mapping trace relations stages
