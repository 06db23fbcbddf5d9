-- What is read of texts one after another.
use Rattle.std.specs.Prelude.{◌≡◌, ℕ, ◌++◌, List, ◌∷◌, Result, Ok, Err}
use Rattle.serde_json.specs.Data.{Data}
use Rattle.trace_spans.specs.declared.fault.Fault.{Fault}
use Rattle.trace_spans.specs.declared.lines.Reading.{Reading}
use Rattle.trace_spans.specs.declared.lines.Reading.TheVariants.{Spans, Refused}
use Rattle.trace_spans.specs.declared.span.Span.{Span}
use Rattle.trace_spans.specs.declared.told.Told.{Told}
use Rattle.trace_spans.specs.Members.{then_on}
use Rattle.trace_spans.specs.Reads.{IsFault}
use Rattle.trace_spans.specs.Spans.{spans_of_texts}
use Rattle.trace_spans.specs.Texts.{Texts, json_of}

-- the spans of those texts and more
abbrev pub spans_after : Reading → List Data → Result (List Span) Fault
spans_after (Spans spans) texts = then_on (spans_of_texts texts) (λ more. Ok (spans ++ more))
spans_after (Refused fault) texts = Err fault

-- what those texts and more tell
abbrev pub told_after : Reading → Texts → Result Told Fault
told_after reading told = then_on (spans_after reading told.texts) (λ spans. Ok (record { spans = spans; is_cut = told.is_cut }))

-- the line is one more text, or no JSON
abbrev pub ReadsOn : Reading → List ℕ → Result Reading Fault → Type 0
ReadsOn so_far line (Ok reading) =
    (text : Data) × (json_of line ≡ Ok text) × ((texts : List Data) → spans_after so_far (text ∷ texts) ≡ spans_after reading texts)
ReadsOn so_far line (Err fault) = IsFault fault (json_of line)
