-- The stages of an import as stages of a recording, and what they bear beside.
use Rattle.std.specs.Prelude.{ℕ, List, [], ◌∷◌, map, codes, Option, Some, None, option_map, option_to_list, slice_get}
use Rattle.recording_text.specs.Labels.{Labelled, PlainLabel}
use Rattle.stage_graph.specs.declared.op.Op.{Op}
use Rattle.stage_graph.specs.declared.op.Op.TheVariants as op
use Rattle.stage_graph.specs.declared.stage.Spec.{Spec}
use Rattle.trace_spans.specs.declared.span.Span.{Span}
use Rattle.trace_stages.specs.Naming.{PlainStage}
use Rattle.trace_stages.specs.declared.stage.Op.{Op as ImportedOp}
use Rattle.trace_stages.specs.declared.stage.Op.TheVariants.{Async, Manual, ThenRun, Handle, WhenComplete, ExceptionallyCompose, AllOf, AnyOf}
use Rattle.trace_stages.specs.declared.stage.StageName.{StageName}
use Rattle.trace_stages.specs.declared.stage.StageName.TheVariants.{Whole, Work}
use Rattle.trace_import.specs.Actions.{imported_action}
use Rattle.trace_import.specs.StageNames.{stage_name}

abbrev pub imported_op : ImportedOp → Op
imported_op Async = op.Async
imported_op Manual = op.Manual
imported_op ThenRun = op.ThenRun
imported_op Handle = op.Handle
imported_op WhenComplete = op.WhenComplete
imported_op ExceptionallyCompose = op.ExceptionallyCompose
imported_op AllOf = op.AllOf
imported_op AnyOf = op.AnyOf

abbrev pub imported_spec : List Span → List (List ℕ) → PlainStage → Spec
imported_spec spans names stage = record {
  name = stage_name names stage.name;
  op = imported_op stage.op;
  sources = map (stage_name names) stage.sources;
  inner = map (stage_name names) (option_to_list stage.inner);
  created = stage.created;
  queued = stage.queued;
  runs = stage.runs;
  action = option_map (imported_action spans) stage.action;
  pin_result = None;
  pin_moment = None;
  ends = [];
}

abbrev pub imported_specs : List Span → List (List ℕ) → List PlainStage → List Spec
imported_specs spans names stages = map (imported_spec spans names) stages

-- ---- labels

abbrev pub id_label : List ℕ → Option Span → List PlainLabel
id_label name None = []
id_label name (Some span) = (name, span.id) ∷ []

-- the stage that ends when its span did bears the id of that, and own work that of the span whose it is
abbrev pub labels_of : List Span → StageName → List PlainLabel
labels_of spans (Whole place) = id_label (codes "span") (slice_get spans place)
labels_of spans (Work place number) = id_label (codes "x-work-of") (slice_get spans place)
labels_of spans other = []

abbrev pub labelled_stage : List Span → List (List ℕ) → PlainStage → Labelled
labelled_stage spans names stage = (imported_spec spans names stage, labels_of spans stage.name)

abbrev pub labelled_stages : List Span → List (List ℕ) → List PlainStage → List Labelled
labelled_stages spans names stages = map (labelled_stage spans names) stages
