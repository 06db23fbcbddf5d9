-- Which of the spans count: those of the trace that is asked for, but for repeats.
use Rattle.std.specs.Prelude.{ℕ, ◌&&◌, ◌++◌, List, [], ◌∷◌, Bool, not, length, nat_eq, nat_lt, if◌then◌else◌, fold, Option, Some, None, Result, Ok, Err}
use Rattle.std.specs.Bool.{beq}
use Rattle.std.specs.List.{list_any, starts_with}
use Rattle.std.specs.Option.{option_eq}
use Rattle.std.specs.Str.{bytes_eq}
use Rattle.trace_spans.specs.declared.fault.Fault.{Fault}
use Rattle.trace_spans.specs.declared.fault.Fault.TheVariants.{NoTrace, SeveralTraces}
use Rattle.trace_spans.specs.declared.span.Span.{Span}
use Rattle.trace_spans.specs.Identifiers.{compared, is_id}

unfoldable pub is_among : List (List ℕ) → List ℕ → Bool
is_among texts wanted = list_any (λ text. bytes_eq text wanted) texts

-- with the trace of one more span, if its id begins so, unless it is among them or there are 16
abbrev pub with_trace : List ℕ → List (List ℕ) → List ℕ → List (List ℕ)
with_trace beginning traces trace =
    if nat_lt (length traces) 16 && starts_with nat_eq trace beginning && not (is_among traces trace) then traces ++ trace ∷ [] else traces

abbrev pub with_traces : List ℕ → List (List ℕ) → List Span → List (List ℕ)
with_traces beginning traces [] = traces
with_traces beginning traces (span ∷ spans) = with_traces beginning (with_trace beginning traces span.trace) spans

-- the traces whose ids begin so, in the order of their first spans, 16 at most
unfoldable pub traces_of : List ℕ → List Span → List (List ℕ)
traces_of beginning spans = with_traces beginning [] spans

unfoldable pub only_trace : List (List ℕ) → Result (List ℕ) Fault
only_trace [] = Err NoTrace
only_trace (only ∷ []) = Ok only
only_trace (first ∷ second ∷ others) = Err (SeveralTraces (first ∷ second ∷ others))

abbrev pub has_spans : List ℕ → List Span → Bool
has_spans trace spans = list_any (λ span. bytes_eq span.trace trace) spans

abbrev pub trace_or_only : List ℕ → List Span → Result (List ℕ) Fault
trace_or_only trace spans = if has_spans trace spans then Ok trace else only_trace (traces_of trace spans)

-- the trace that is asked for, by its id or a beginning of it that no other has; or the only one
unfoldable pub chosen_trace : Option (List ℕ) → List Span → Result (List ℕ) Fault
chosen_trace (Some wanted) spans = if is_id wanted then trace_or_only (compared wanted) spans else Err NoTrace
chosen_trace None spans = only_trace (traces_of [] spans)

-- two spans of the same id, service, name, start and end, both or neither the server's half
abbrev pub is_repeat : Span → Span → Bool
is_repeat span other =
    bytes_eq (compared span.id) (compared other.id)
    && (beq span.shared other.shared && (bytes_eq span.service other.service && (bytes_eq span.name other.name && (option_eq nat_eq span.start other.start && option_eq nat_eq span.end other.end))))

abbrev pub is_repeated : List Span → Span → Bool
is_repeated earlier span = list_any (λ other. is_repeat other span) earlier

-- with one more span, if it is of the trace and repeats none of the earlier ones
abbrev pub with_span : List ℕ → List Span → Span → List Span
with_span trace earlier span = if bytes_eq span.trace trace && not (is_repeated earlier span) then earlier ++ span ∷ [] else earlier

unfoldable pub spans_of_trace : List ℕ → List Span → List Span
spans_of_trace trace spans = fold (with_span trace) [] spans
