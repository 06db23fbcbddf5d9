-- What an import writes is read without a refusal.
use Rattle.std.proofs.Common.{◌≡◌, ℕ, List, [], ◌∷◌, Ok, refl, ap, ◌∙◌}
use Rattle.stage_graph.specs.Plain.{PlainGraph}
use Rattle.stage_graph.specs.declared.stage.Spec.{Spec}
use Rattle.recording.specs.RecordingOf.{as_read, graph_of as graph_of_recording, named, recorded}
use Rattle.recording_back.specs.ReadBack.{specs_in}
use Rattle.recording_back.proofs.StageBack.{read_back}
use Rattle.act_expr.specs.declared.outcome.Mode.TheVariants.{Computed}
use Rattle.std.specs.Prelude.{None}
use Rattle.trace_spans.specs.declared.span.Span.{Span}
use Rattle.trace_stages.specs.Names.{names}
use Rattle.trace_stages.specs.Naming.{PlainStage, plain_stages}
use Rattle.trace_import.specs.Imported.{head_of, text_of}
use Rattle.trace_import.specs.Specs.{imported_spec, imported_specs, labelled_stages}
use Rattle.trace_laws.specs.Accepted.{graph_of, specs_of}
use Rattle.trace_laws.specs.Read.{EachImportIsRead}
use Rattle.trace_laws.proofs.Loading.{import_fine, import_loaded}
use Rattle.trace_laws.proofs.Spelled.{head_beside}
use Rattle.trace_laws.proofs.Types.{Recording}
use Rattle.trace_laws.proofs.Writable.{all_written}

without_labels : (spans : List Span) (names : List (List ℕ)) (stages : List PlainStage) → specs_in (labelled_stages spans names stages) ≡ imported_specs spans names stages
without_labels spans names [] = refl
without_labels spans names (stage ∷ stages) = ap (λ l. imported_spec spans names stage ∷ l) (without_labels spans names stages)

with_name : (text : List ℕ) (recording : Recording) (graph : PlainGraph) → recorded text ≡ Ok recording → graph_of_recording recording ≡ Ok graph → named text ≡ Ok graph
with_name text recording graph is then = rw is then

-- stages whose outcomes are computed
abbrev recording_of : List Spec → Recording
recording_of specs = record { mode = Computed; stages = specs }

pub import_read : EachImportIsRead
import_read mapping trace relations stages tells related made short few low =
    let all = import_fine mapping.unit mapping.as_told trace.spans relations stages related made short few in
    let own = names trace.spans relations.order in
    let plain = plain_stages stages.0.items in
    let written = all_written trace.spans own plain all tells.spans in
    let read : recorded (text_of mapping trace relations stages) ≡ Ok (record { mode = Computed; stages = specs_of trace.spans relations stages }) =
    read_back None (head_of mapping trace relations) (labelled_stages trace.spans own plain) (head_beside mapping trace relations tells) written low ∙ ap Ok (ap recording_of (without_labels trace.spans own plain)) in
    let loads = import_loaded mapping.unit mapping.as_told trace.spans relations stages related made short few in
    record { as_stages = read; as_graph = with_name (text_of mapping trace relations stages) (recording_of (specs_of trace.spans relations stages)) (graph_of (specs_of trace.spans relations stages)) read (ap as_read loads) }
