-- What names spans to people.
use Rattle.trace_relations.specs.declared.fault.SpanName.{SpanName}
use Rattle.trace_spans.specs.declared.span.Span.{Span}

abbrev pub name_of : Span → SpanName
name_of span = record { id = span.id; name = span.name }
