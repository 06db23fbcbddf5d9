-- What formats add to the spans before a text.
use Rattle.std.specs.Prelude.{List, ◌++◌, Bool, true, false, Option, Some, None, Result, Ok, Err}
use Rattle.trace_spans.specs.declared.fault.Fault.{Fault}
use Rattle.trace_spans.specs.declared.span.Span.{Span}

-- whether a text is of a format, and the spans with its own
abbrev pub added : Option (Result (List Span) Fault) → List Span → Result (Bool × List Span) Fault
added None spans = Ok (false, spans)
added (Some (Ok more)) spans = Ok (true, spans ++ more)
added (Some (Err fault)) spans = Err fault
