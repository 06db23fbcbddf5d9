-- The clocks that are moved, as labels.
use Rattle.std.specs.Prelude.{ℕ, List, [], fold, Option, Some, None, slice_get, string_bytes}
use Rattle.std.specs.Fmt.{signed_decimal}
use Rattle.std.specs.BTreeMap.{insert_entry}
use Rattle.std.specs.Cmp.Lexicographic.{slice_cmp}
use Rattle.std.specs.Ordering.{nat_cmp}
use Rattle.recording_text.specs.Labels.{PlainLabel}
use Rattle.trace_relations.specs.declared.as_told.AsTold.{AsTold}
use Rattle.trace_relations.specs.declared.placing.Moved.{Moved}
use Rattle.trace_relations.specs.Relations.{moved_of}
use Rattle.trace_spans.specs.Clocks.{clock_text}
use Rattle.trace_spans.specs.declared.span.Span.{Span}
use Rattle.trace_import.specs.declared.clock_labels.ClockText.{ClockText}

abbrev pub plain_clock : ClockText → PlainLabel
plain_clock clock = (string_bytes clock.clock, string_bytes clock.by)

abbrev pub told_clock : Option Span → List ℕ
told_clock None = []
told_clock (Some span) = clock_text span.clock

abbrev pub with_clock : List Span → List PlainLabel → Moved → List PlainLabel
with_clock spans labels moved = insert_entry (slice_cmp nat_cmp) labels (told_clock (slice_get spans moved.clock)) (signed_decimal moved.by)

-- from each of these clocks, as it is told, to by how many nanoseconds it is moved; in the order of their texts, of several that are told alike the last
abbrev pub told_clocks : List Span → List Moved → List PlainLabel
told_clocks spans moved = fold (with_clock spans) [] moved

abbrev pub clock_labels : AsTold → List Span → List PlainLabel
clock_labels as_told spans = told_clocks spans (moved_of as_told spans)
