-- The names of groups of spans. A text stands whole, where names of stages are cut.
use Rattle.std.specs.Prelude.{ℕ, List, [], ◌∷◌, ◌++◌, codes}
use Rattle.trace_spans.specs.declared.span.Span.{Span}
use Rattle.fleet_summary.specs.declared.group_by.GroupBy.{GroupBy}
use Rattle.fleet_summary.specs.declared.group_by.GroupBy.TheVariants as by

-- a text, or a word where it is empty
abbrev pub text_or : List ℕ → List ℕ → List ℕ
text_or word [] = word
text_or word (first ∷ rest) = first ∷ rest

abbrev pub service_of : Span → List ℕ
service_of span = text_or (codes "service") span.service

-- the service, a dot and the name
abbrev pub span_name : Span → List ℕ
span_name span = service_of span ++ codes "." ++ text_or (codes "span") span.name

abbrev pub group_name : GroupBy → Span → List ℕ
group_name by.Span span = span_name span
group_name by.Service span = service_of span
