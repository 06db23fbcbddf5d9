-- The texts of a trace that are written, which are UTF-8 as all texts are that a program holds.
use Rattle.std.specs.Prelude.{All}
use Rattle.std.specs.Str.{IsUtf8}
use Rattle.trace_spans.specs.declared.span.Span.{Span}
use Rattle.trace_spans.specs.declared.trace.Trace.{Trace}

-- the id of a span, and the parts of its clock
pub record HasTexts (span : Span) : Type 0 where
  pub id : IsUtf8 span.id
  pub clock : All IsUtf8 span.clock

-- the id of a trace, and the texts of its spans
pub record TellsTexts (trace : Trace) : Type 0 where
  pub id : IsUtf8 trace.id
  pub spans : All HasTexts trace.spans
