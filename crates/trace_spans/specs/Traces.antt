-- All traces that bytes tell.
use Rattle.std.specs.Prelude.{ℕ, List, [], ◌∷◌, ◌++◌, fold, map, if◌then◌else◌, Result, Ok, Err}
use Rattle.trace_spans.specs.declared.fault.Fault.{Fault}
use Rattle.trace_spans.specs.declared.fault.Fault.TheVariants.{NoTrace}
use Rattle.trace_spans.specs.declared.span.Span.{Span}
use Rattle.trace_spans.specs.declared.told.Told.{Told}
use Rattle.trace_spans.specs.declared.trace.Trace.{Trace}
use Rattle.trace_spans.specs.Choice.{is_among, spans_of_trace}
use Rattle.trace_spans.specs.Members.{then_on}
use Rattle.trace_spans.specs.Spans.{told_by_bytes}

abbrev pub with_id : List (List ℕ) → List ℕ → List (List ℕ)
with_id ids id = if is_among ids id then ids else ids ++ id ∷ []

-- the ids of all traces, in the order of their first spans
unfoldable pub ids_of : List Span → List (List ℕ)
ids_of spans = fold (λ ids span. with_id ids span.trace) [] spans

-- each with its spans but for repeats
abbrev pub traces_of : Told → List Trace
traces_of told = map (λ id. record { id = id; spans = spans_of_trace id told.spans; is_cut = told.is_cut }) (ids_of told.spans)

-- the spans of all parts of traces, in their order
abbrev pub spans_in : List Trace → List Span
spans_in [] = []
spans_in (part ∷ parts) = part.spans ++ spans_in parts

abbrev pub unless_none : List Trace → Result (List Trace) Fault
unless_none [] = Err NoTrace
unless_none (trace ∷ traces) = Ok (trace ∷ traces)

unfoldable pub traces_of_bytes : List ℕ → Result (List Trace) Fault
traces_of_bytes bytes = then_on (told_by_bytes bytes) (λ told. unless_none (traces_of told))
