-- The keys by which spans name the spans of their trace.
use Rattle.std.specs.Prelude.{ℕ, List, ◌++◌, codes, if◌then◌else◌}
use Rattle.trace_spans.specs.declared.span.Span.{Span}
use Rattle.trace_spans.specs.Identifiers.{compared}

-- the key of the server's half of the span with that key: an s that no id has
abbrev pub half_key : List ℕ → List ℕ
half_key key = key ++ codes "s"

abbrev pub key_of : Span → List ℕ
key_of span = if span.shared then half_key (compared span.id) else compared span.id
