-- No stage that an import writes is refused.
use Rattle.std.specs.Prelude.{◌≡◌, ◌≤◌, List, length, Ok}
use Rattle.act_expr.specs.declared.outcome.Mode.TheVariants.{Computed}
use Rattle.stage_graph.specs.Loading.{loaded, stages_from}
use Rattle.stage_graph.specs.Names.{place_of}
use Rattle.stage_graph.specs.Plain.{PlainGraph}
use Rattle.stage_graph.specs.declared.stage.Spec.{Spec}
use Rattle.trace_relations.specs.Ancestry.{most_spans}
use Rattle.trace_relations.specs.Relations.{AreRelationsOf, PlainRelations}
use Rattle.trace_relations.specs.declared.as_told.AsTold.{AsTold}
use Rattle.trace_relations.specs.declared.unit.Unit.{Unit as TickUnit}
use Rattle.trace_spans.specs.declared.span.Span.{Span}
use Rattle.trace_stages.specs.Names.{names}
use Rattle.trace_stages.specs.Naming.{plain_stages}
use Rattle.trace_stages.specs.StagesOf.{AreStages}
use Rattle.trace_stages.specs.declared.stage.Stages.{Stages}
use Rattle.trace_import.specs.Limits.{most_stages}
use Rattle.trace_import.specs.Specs.{imported_specs}

-- the graph of stages, with the places of their sources
abbrev pub graph_of : List Spec → PlainGraph
graph_of specs = record { mode = Computed; places = stages_from (place_of specs) 0 specs }

-- the stages of spans, as stages of a recording
abbrev pub specs_of : List Span → PlainRelations → Stages → List Spec
specs_of spans relations stages = imported_specs spans (names spans relations.order) (plain_stages stages.0.items)

-- the stages of the spans of a trace, if neither are too many, are loaded as the graph that they tell
abbrev pub EachImportIsLoaded : Type 0
EachImportIsLoaded =
    (unit : TickUnit) (as_told : AsTold) (spans : List Span) (relations : PlainRelations) (stages : Stages)
    → AreRelationsOf unit as_told spans relations → AreStages spans relations as_told stages → length spans ≤ most_spans → length stages.0.items ≤ most_stages
    → loaded Computed (specs_of spans relations stages) ≡ Ok (graph_of (specs_of spans relations stages))
