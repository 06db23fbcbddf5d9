-- OTLP/JSON: the spans of resources and scopes.
use Rattle.std.specs.Prelude.{ℕ, ◌==◌, ◌||◌, ◌++◌, List, [], ◌∷◌, Bool, false, codes, if◌then◌else◌, Option, Some, None, option_map, option_and_then, unwrap_or, Result, Ok}
use Rattle.std.specs.Option.{ok_or, option_or}
use Rattle.std.specs.Str.{bytes_eq}
use Rattle.serde_json.specs.Data.{Data, Num, Items, no_items, item}
use Rattle.serde_json.specs.Find.{as_number, as_str, as_u64}
use Rattle.trace_spans.specs.declared.fault.Fault.{Fault}
use Rattle.trace_spans.specs.declared.fault.Fault.TheVariants.{Shape}
use Rattle.trace_spans.specs.declared.member.Member.{Member}
use Rattle.trace_spans.specs.declared.member.Member.TheVariants as member
use Rattle.trace_spans.specs.declared.span.Kind.{Kind}
use Rattle.trace_spans.specs.declared.span.Kind.TheVariants.{Other}
use Rattle.trace_spans.specs.declared.span.Span.{Span}
use Rattle.trace_spans.specs.declared.tags.TagForm.TheVariants as form
use Rattle.trace_spans.specs.Clocks.{clock_of, service_of}
use Rattle.trace_spans.specs.Exceptions.{exception_if, tag_in, tag_text}
use Rattle.trace_spans.specs.Identifiers.{compared_in, one_unless_empty, span_id_in}
use Rattle.trace_spans.specs.Kinds.{kind_named, kind_numbered}
use Rattle.trace_spans.specs.Members.{then_on, has, item_in, items_in, member_of, number_in, object_in, text_in}
use Rattle.trace_spans.specs.Tags.{tags_in}
use Rattle.trace_spans.specs.Targets.{target_of}

-- 0 is no time
abbrev pub known_time : Option ℕ → Option ℕ
known_time None = None
known_time (Some time) = if time == 0 then None else Some time

unfoldable pub time_in : Member → Data → Result (Option ℕ) Fault
time_in m span = then_on (number_in m span) (λ time. Ok (known_time time))

abbrev pub kind_by_number : Option ℕ → Result Kind Fault
kind_by_number n = ok_or (option_map kind_numbered n) (Shape member.Kind)

abbrev pub kind_of_value : Option (List ℕ) → Option Num → Result Kind Fault
kind_of_value (Some name) n = Ok (kind_named name)
kind_of_value None n = kind_by_number (option_and_then as_u64 n)

abbrev pub kind_by : Option Data → Result Kind Fault
kind_by None = Ok Other
kind_by (Some v) = kind_of_value (as_str v) (as_number v)

-- by its number or its name
unfoldable pub kind_in : Data → Result Kind Fault
kind_in span = kind_by (member_of member.Kind span)

abbrev pub failure_numbered : Option ℕ → Result Bool Fault
failure_numbered n = ok_or (option_map (λ code. code == 2) n) (Shape member.Code)

abbrev pub failure_of_value : Option (List ℕ) → Option Num → Result Bool Fault
failure_of_value (Some name) n = Ok (bytes_eq name (codes "STATUS_CODE_ERROR"))
failure_of_value None n = failure_numbered (option_and_then as_u64 n)

abbrev pub failure_by : Option Data → Result Bool Fault
failure_by None = Ok false
failure_by (Some code) = failure_of_value (as_str code) (as_number code)

-- the code is an error's, by its number or its name
unfoldable pub is_failure : Data → Result Bool Fault
is_failure status = failure_by (member_of member.Code status)

abbrev pub failed_by : Option Data → Result Bool Fault
failed_by None = Ok false
failed_by (Some status) = is_failure status

unfoldable pub failed_in : Data → Result Bool Fault
failed_in span = then_on (object_in member.Status span) failed_by

unfoldable pub parents_in : Data → Result (List (List ℕ)) Fault
parents_in span = then_on (compared_in member.OtlpParent span) (λ id. Ok (one_unless_empty id))

-- those into the trace
abbrev pub links_of : List ℕ → Items → Result (List (List ℕ)) Fault
links_of trace no_items = Ok []
links_of trace (item link links) =
    then_on (item_in member.Links link) (λ _.
    then_on (compared_in member.OtlpTrace link) (λ linked.
    then_on (compared_in member.OtlpSpan link) (λ id.
    then_on (links_of trace links) (λ ids.
    Ok (if bytes_eq linked trace then id ∷ ids else ids)))))

unfoldable pub links_in : List ℕ → Data → Result (List (List ℕ)) Fault
links_in trace span = then_on (items_in member.Links span) (links_of trace)

-- a span whose times this clock told
unfoldable pub otlp_span : List (List ℕ) → Data → Result Span Fault
otlp_span clock span =
    then_on (item_in member.Spans span) (λ _.
    then_on (compared_in member.OtlpTrace span) (λ trace.
    then_on (span_id_in member.OtlpSpan span) (λ id.
    then_on (text_in member.Name span) (λ name.
    then_on (time_in member.StartTimeUnixNano span) (λ start.
    then_on (time_in member.EndTimeUnixNano span) (λ end.
    then_on (parents_in span) (λ parents.
    then_on (links_in trace span) (λ links.
    then_on (kind_in span) (λ kind.
    then_on (failed_in span) (λ failed.
    then_on (exception_if failed form.Otlp span) (λ exception.
    then_on (tags_in form.Otlp member.Attributes span) (λ tags.
    Ok (record { trace = trace; id = id; shared = false; service = service_of clock; name = name; kind = kind; clock = clock; target = target_of tags; start = start; end = end; parents = parents; links = links; failed = failed; exception = exception })))))))))))))

abbrev pub attribute_in : List ℕ → Data → Result (List ℕ) Fault
attribute_in key resource =
    then_on (tag_in member.Attributes key resource) (λ tag.
    Ok (unwrap_or (option_and_then (tag_text form.Otlp) tag) []))

-- the text of a resource's attribute with a key, empty if there is none
unfoldable pub attribute_by : List ℕ → Option Data → Result (List ℕ) Fault
attribute_by key None = Ok []
attribute_by key (Some resource) = attribute_in key resource

-- the clock that the resource tells
unfoldable pub clock_in : Data → Result (List (List ℕ)) Fault
clock_in resource_spans =
    then_on (object_in member.Resource resource_spans) (λ resource.
    then_on (attribute_by (codes "service.name") resource) (λ service.
    then_on (attribute_by (codes "service.instance.id") resource) (λ instance.
    then_on (attribute_by (codes "host.name") resource) (λ host.
    Ok (clock_of service instance host)))))

abbrev pub spans_of_items : List (List ℕ) → Items → Result (List Span) Fault
spans_of_items clock no_items = Ok []
spans_of_items clock (item span spans) =
    then_on (otlp_span clock span) (λ first.
    then_on (spans_of_items clock spans) (λ others.
    Ok ((first ∷ []) ++ others)))

-- the spans of a scope in the list that this member is
unfoldable pub spans_of_scope : List (List ℕ) → Member → Data → Result (List Span) Fault
spans_of_scope clock list scope =
    then_on (item_in list scope) (λ _.
    then_on (items_in member.Spans scope) (spans_of_items clock))

abbrev pub spans_of_scopes : List (List ℕ) → Member → Items → Result (List Span) Fault
spans_of_scopes clock list no_items = Ok []
spans_of_scopes clock list (item scope scopes) =
    then_on (spans_of_scope clock list scope) (λ first.
    then_on (spans_of_scopes clock list scopes) (λ others.
    Ok (first ++ others)))

unfoldable pub spans_of_scope_list : List (List ℕ) → Member → Data → Result (List Span) Fault
spans_of_scope_list clock list resource = then_on (items_in list resource) (spans_of_scopes clock list)

-- the spans of a resource in the list that this member is
unfoldable pub spans_of_resource : Member → Data → Result (List Span) Fault
spans_of_resource list resource =
    then_on (item_in list resource) (λ _.
    then_on (clock_in resource) (λ clock.
    then_on (spans_of_scope_list clock member.ScopeSpans resource) (λ first.
    then_on (spans_of_scope_list clock member.InstrumentationLibrarySpans resource) (λ others.
    Ok (first ++ others)))))

abbrev pub spans_of_resources : Member → Items → Result (List Span) Fault
spans_of_resources list no_items = Ok []
spans_of_resources list (item resource resources) =
    then_on (spans_of_resource list resource) (λ first.
    then_on (spans_of_resources list resources) (λ others.
    Ok (first ++ others)))

unfoldable pub spans_of_list : Member → Data → Result (List Span) Fault
spans_of_list list text = then_on (items_in list text) (spans_of_resources list)

-- a text that has the list
unfoldable pub told_by : Member → Data → Option (Result (List Span) Fault)
told_by list text = if has list text then Some (spans_of_list list text) else None

-- a text of which a member has the list
unfoldable pub told_within : Member → Data → Option (Result (List Span) Fault)
told_within wrapping text = option_and_then (told_by member.ResourceSpans) (member_of wrapping text)

-- a text that is itself an element of the list
unfoldable pub told_alone : Data → Option (Result (List Span) Fault)
told_alone text =
    if has member.ScopeSpans text || has member.InstrumentationLibrarySpans text then Some (spans_of_resource member.ResourceSpans text) else None

-- the spans of a text of OTLP/JSON: an export, what Tempo answers (`batches`, `trace`), Jaeger's third interface (`result`), or one resource
unfoldable pub otlp_told : Data → Option (Result (List Span) Fault)
otlp_told text =
    option_or (told_by member.ResourceSpans text)
    (option_or (told_by member.Batches text)
    (option_or (told_within member.Result text)
    (option_or (told_within member.Trace text) (told_alone text))))

-- metrics and logs have no spans
unfoldable pub other_signals_told : Data → Option (Result (List Span) Fault)
other_signals_told text = if has member.ResourceMetrics text || has member.ResourceLogs text then Some (Ok []) else None
