-- The trace that bytes tell, or the first fault in them.
use Rattle.std.specs.Prelude.{ℕ, ◌++◌, List, [], ◌∷◌, length, nat_lt, if◌then◌else◌, Option, Some, None, Result, Ok, Err}
use Rattle.std.specs.Option.{option_or}
use Rattle.serde_json.specs.Data.{Data, null, boolean, number, string, array, object, Items, no_items, item}
use Rattle.trace_spans.specs.declared.fault.Fault.{Fault}
use Rattle.trace_spans.specs.declared.fault.Fault.TheVariants.{TooLong, NotATrace, NoTrace}
use Rattle.trace_spans.specs.declared.span.Span.{Span}
use Rattle.trace_spans.specs.declared.told.Told.{Told}
use Rattle.trace_spans.specs.declared.trace.Trace.{Trace}
use Rattle.trace_spans.specs.Choice.{chosen_trace, spans_of_trace}
use Rattle.trace_spans.specs.Jaeger.{jaeger_told}
use Rattle.trace_spans.specs.Members.{then_on}
use Rattle.trace_spans.specs.Otlp.{otlp_told, other_signals_told}
use Rattle.trace_spans.specs.Texts.{Texts, texts_of}
use Rattle.trace_spans.specs.Zipkin.{zipkin_told}

-- the spans of a text in the first format that it is of
unfoldable pub told_in_a_format : Data → Option (Result (List Span) Fault)
told_in_a_format text =
    option_or (zipkin_told text)
    (option_or (otlp_told text)
    (option_or (jaeger_told text) (other_signals_told text)))

-- what stands for none
abbrev pub told_or : Option (Result (List Span) Fault) → Result (List Span) Fault → Result (List Span) Fault
told_or (Some told) other = told
told_or None other = other

abbrev pub not_a_trace : Result (List Span) Fault
not_a_trace = Err (NotATrace tt)

-- the spans of a text: a list that is of no format is a list of texts
abbrev mutual
  pub spans_of_text : Data → Result (List Span) Fault
  spans_of_text null = told_or (told_in_a_format null) not_a_trace
  spans_of_text (boolean b) = told_or (told_in_a_format (boolean b)) not_a_trace
  spans_of_text (number n) = told_or (told_in_a_format (number n)) not_a_trace
  spans_of_text (string s) = told_or (told_in_a_format (string s)) not_a_trace
  spans_of_text (object ms) = told_or (told_in_a_format (object ms)) not_a_trace
  spans_of_text (array ds) = told_or (told_in_a_format (array ds)) (spans_of_list ds)

  pub spans_of_list : Items → Result (List Span) Fault
  spans_of_list no_items = not_a_trace
  spans_of_list (item d ds) =
      then_on (spans_of_text d) (λ first.
      then_on (spans_of_items ds) (λ others.
      Ok (first ++ others)))

  pub spans_of_items : Items → Result (List Span) Fault
  spans_of_items no_items = Ok []
  spans_of_items (item d ds) =
      then_on (spans_of_text d) (λ first.
      then_on (spans_of_items ds) (λ others.
      Ok (first ++ others)))

-- all spans of texts
abbrev pub spans_of_texts : List Data → Result (List Span) Fault
spans_of_texts [] = Ok []
spans_of_texts (text ∷ texts) =
    then_on (spans_of_text text) (λ first.
    then_on (spans_of_texts texts) (λ others.
    Ok (first ++ others)))

-- what texts tell
unfoldable pub told_by_texts : Texts → Result Told Fault
told_by_texts told = then_on (spans_of_texts told.texts) (λ spans. Ok (record { spans = spans; is_cut = told.is_cut }))

abbrev pub longest : ℕ
longest = 268_435_456

-- what a file tells
unfoldable pub told_by_bytes : List ℕ → Result Told Fault
told_by_bytes bytes = if nat_lt longest (length bytes) then Err TooLong else (then_on (texts_of bytes) told_by_texts)

abbrev pub unless_empty : List ℕ → List Span → Result (List Span) Fault
unless_empty id [] = Err NoTrace
unless_empty id (span ∷ spans) = Ok (span ∷ spans)

abbrev pub chosen : Option (List ℕ) → Told → Result Trace Fault
chosen wanted told =
    then_on (chosen_trace wanted told.spans) (λ id.
    then_on (unless_empty id (spans_of_trace id told.spans)) (λ spans.
    Ok (record { id = id; spans = spans; is_cut = told.is_cut })))

-- the trace of a file, of several the one that is asked for
unfoldable pub spans_of : List ℕ → Option (List ℕ) → Result Trace Fault
spans_of bytes wanted = then_on (told_by_bytes bytes) (chosen wanted)
