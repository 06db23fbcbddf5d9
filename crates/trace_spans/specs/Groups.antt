-- The spans of a file by their traces, in the order of the first ones.
use Rattle.std.specs.Prelude.{◌≡◌, ℕ, suc, List, [], ◌∷◌, Bool, map, if◌then◌else◌, Option, Some, None, option_map}
use Rattle.std.specs.HashMap.{get_by_text}
use Rattle.std.specs.List.{filter}
use Rattle.std.specs.Str.{bytes_eq}
use Rattle.trace_spans.specs.declared.span.Span.{Span}
use Rattle.trace_spans.specs.declared.trace.Trace.{Trace}
use Rattle.trace_spans.specs.declared.traces.Group.{Group}
use Rattle.trace_spans.specs.declared.traces.Groups.{Groups}
use Rattle.trace_spans.specs.Choice.{spans_of_trace}

-- the spans of a trace, repeats too
abbrev pub spans_with : List ℕ → List Span → List Span
spans_with id spans = filter (λ span. bytes_eq span.trace id) spans

abbrev pub group_of : List Span → List ℕ → Group
group_of spans id = record { trace = id; spans = spans_with id spans }

-- the first place of an id among ids
abbrev pub place_in : List (List ℕ) → List ℕ → Option ℕ
place_in [] wanted = None
place_in (id ∷ ids) wanted = if bytes_eq id wanted then Some 0 else option_map suc (place_in ids wanted)

-- there is one for each of these traces, with its spans, and each is found by its id
abbrev pub AreGroups : Groups → List (List ℕ) → List Span → Type 0
AreGroups groups ids spans =
    (groups.groups.items ≡ map (group_of spans) ids) × ((id : List ℕ) → get_by_text groups.places id ≡ place_in ids id)

-- the trace of a group, whose spans count but for repeats
abbrev pub trace_of : Bool → Group → Trace
trace_of is_cut group = record { id = group.trace; spans = spans_of_trace group.trace group.spans; is_cut = is_cut }
