-- Kinds of spans, by their names and numbers.
use Rattle.std.specs.Prelude.{ℕ, ◌==◌, ◌||◌, List, Bool, codes, if◌then◌else◌}
use Rattle.std.specs.Str.{bytes_eq}
use Rattle.trace_spans.specs.declared.span.Kind.{Kind}
use Rattle.trace_spans.specs.declared.span.Kind.TheVariants.{Server, Client, Producer, Consumer, Other}

-- one of the spellings of OTLP, Jaeger and Zipkin
abbrev pub is_one_of : List ℕ → List ℕ → List ℕ → List ℕ → Bool
is_one_of first second third name = bytes_eq name first || bytes_eq name second || bytes_eq name third

abbrev pub kind_named : List ℕ → Kind
kind_named name =
    if is_one_of (codes "server") (codes "SERVER") (codes "SPAN_KIND_SERVER") name then Server else
    (if is_one_of (codes "client") (codes "CLIENT") (codes "SPAN_KIND_CLIENT") name then Client else
    (if is_one_of (codes "producer") (codes "PRODUCER") (codes "SPAN_KIND_PRODUCER") name then Producer else
    (if is_one_of (codes "consumer") (codes "CONSUMER") (codes "SPAN_KIND_CONSUMER") name then Consumer else Other)))

abbrev pub kind_numbered : ℕ → Kind
kind_numbered n =
    if n == 2 then Server else
    (if n == 3 then Client else
    (if n == 4 then Producer else
    (if n == 5 then Consumer else Other)))
