-- Zipkin's second form: a list of spans, of which client and server may share one. Its times are in microseconds.
use Rattle.std.specs.Prelude.{ℕ, ◌&&◌, ◌++◌, List, [], ◌∷◌, Bool, true, false, not, codes, if◌then◌else◌, Option, Some, None, option_and_then, Result, Ok, Err}
use Rattle.std.specs.Option.{option_or}
use Rattle.std.specs.Str.{bytes_eq}
use Rattle.serde_json.specs.Data.{Data, Items, no_items, item, Members}
use Rattle.serde_json.specs.Find.{as_array, as_bool, as_object, as_str}
use Rattle.trace_spans.specs.declared.fault.Fault.{Fault}
use Rattle.trace_spans.specs.declared.fault.Fault.TheVariants.{Shape}
use Rattle.trace_spans.specs.declared.member.Member.TheVariants as member
use Rattle.trace_spans.specs.declared.span.Kind.{Kind}
use Rattle.trace_spans.specs.declared.span.Span.{Span}
use Rattle.trace_spans.specs.declared.tags.Tags.{Tags}
use Rattle.trace_spans.specs.Clocks.{service_of}
use Rattle.trace_spans.specs.Endpoints.{clock_in}
use Rattle.trace_spans.specs.Exceptions.{exception_name}
use Rattle.trace_spans.specs.Halves.{ToldHalf, halves_of, has_half, is_shared}
use Rattle.trace_spans.specs.Identifiers.{compared, compared_in, span_id_in}
use Rattle.trace_spans.specs.Keys.{half_key}
use Rattle.trace_spans.specs.Kinds.{kind_named}
use Rattle.trace_spans.specs.Members.{then_on, has, item_in, member_of, text_in}
use Rattle.trace_spans.specs.Micros.{end_in, start_in}
use Rattle.trace_spans.specs.Tags.{no_tags, tags_among}
use Rattle.trace_spans.specs.Targets.{target_of}

unfoldable pub kind_in : Data → Result Kind Fault
kind_in span = then_on (text_in member.Kind span) (λ name. Ok (kind_named name))

abbrev pub tags_by : Option Members → Result Tags Fault
tags_by None = Err (Shape member.Tags)
tags_by (Some members) = Ok (tags_among members)

abbrev pub tags_of : Option Data → Result Tags Fault
tags_of None = Ok no_tags
tags_of (Some d) = tags_by (as_object d)

unfoldable pub tags_in : Data → Result Tags Fault
tags_in span = tags_of (member_of member.Tags span)

-- false, or the text `false`
abbrev pub is_false : Option Bool → Option (List ℕ) → Bool
is_false (Some b) text = not b
is_false None None = false
is_false None (Some text) = bytes_eq text (codes "false")

abbrev pub is_error : Option Data → Bool
is_error None = false
is_error (Some d) = not (is_false (as_bool d) (as_str d))

-- a tag `error` is there, and is not `false`
unfoldable pub failed_by : Tags → Bool
failed_by tags = is_error tags.error

abbrev pub name_of : Option Data → Option (List ℕ)
name_of tag = option_and_then exception_name (option_and_then as_str tag)

unfoldable pub exception_by : Bool → Tags → Option (List ℕ)
exception_by failed tags = if failed then option_or (name_of tags.exception_type) (name_of tags.error_type) else None

abbrev pub parent_key : List ToldHalf → List ℕ → List ℕ → List ℕ → List ℕ
parent_key halves trace parent service = if has_half halves trace parent service then half_key parent else parent

abbrev pub named_parents : List ToldHalf → List ℕ → List ℕ → List ℕ → List (List ℕ)
named_parents halves trace [] service = []
named_parents halves trace (x ∷ xs) service = parent_key halves trace (x ∷ xs) service ∷ []

-- a server's half is below the client's; what that server calls is below its half
unfoldable pub parents_by : List ToldHalf → Bool → List ℕ → List ℕ → List ℕ → List ℕ → List (List ℕ)
parents_by halves shared trace id parent service =
    if shared then compared id ∷ [] else named_parents halves trace parent service

unfoldable pub zipkin_span : List ToldHalf → Data → Result Span Fault
zipkin_span halves span =
    then_on (item_in member.Spans span) (λ _.
    then_on (compared_in member.OtlpTrace span) (λ trace.
    then_on (span_id_in member.ZipkinSpan span) (λ id.
    then_on (text_in member.Name span) (λ name.
    then_on (kind_in span) (λ kind.
    then_on (compared_in member.ZipkinParent span) (λ parent.
    then_on (clock_in span) (λ clock.
    then_on (start_in member.Timestamp span) (λ start.
    then_on (end_in start span) (λ end.
    then_on (tags_in span) (λ tags.
    Ok (record { trace = trace; id = id; shared = is_shared span; service = service_of clock; name = name; kind = kind; clock = clock; target = target_of tags; start = start; end = end; parents = parents_by halves (is_shared span) trace id parent (service_of clock); links = []; failed = failed_by tags; exception = exception_by (failed_by tags) tags })))))))))))

abbrev pub spans_of_items : List ToldHalf → Items → Result (List Span) Fault
spans_of_items halves no_items = Ok []
spans_of_items halves (item span spans) =
    then_on (zipkin_span halves span) (λ first.
    then_on (spans_of_items halves spans) (λ others.
    Ok ((first ∷ []) ++ others)))

-- the spans of a list
unfoldable pub zipkin_spans : Items → Result (List Span) Fault
zipkin_spans spans = then_on (halves_of spans) (λ halves. spans_of_items halves spans)

unfoldable pub is_span : Data → Bool
is_span d = has member.OtlpTrace d && has member.ZipkinSpan d

abbrev pub are_spans : Items → Bool
are_spans no_items = true
are_spans (item d ds) = is_span d && are_spans ds

abbrev pub list_told : Items → Option (Result (List Span) Fault)
list_told no_items = None
list_told (item d ds) = if are_spans (item d ds) then Some (zipkin_spans (item d ds)) else None

-- a list that is not empty, whose items all have `traceId` and `id`
unfoldable pub zipkin_told : Data → Option (Result (List Span) Fault)
zipkin_told text = option_and_then list_told (as_array text)
