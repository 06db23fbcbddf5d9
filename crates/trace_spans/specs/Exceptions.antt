-- The names of exceptions, and where spans tell them.
use Rattle.std.specs.Prelude.{ℕ, ◌||◌, ◌==◌, List, Bool, codes, map, take, length, if◌then◌else◌, Option, Some, None, option_and_then, Result, Ok}
use Rattle.std.specs.Str.{bytes_eq, chars, encode_utf8_all}
use Rattle.serde_json.specs.Data.{Data, Items, no_items, item}
use Rattle.serde_json.specs.Find.{as_str}
use Rattle.trace_spans.specs.declared.tags.TagForm.{TagForm}
use Rattle.trace_spans.specs.declared.tags.TagForm.TheVariants.{Otlp, Jaeger}
use Rattle.trace_spans.specs.declared.fault.Fault.{Fault}
use Rattle.trace_spans.specs.declared.member.Member.{Member}
use Rattle.trace_spans.specs.declared.member.Member.TheVariants as member
use Rattle.trace_spans.specs.Identifiers.{is_between}
use Rattle.trace_spans.specs.Members.{then_on, member_of, item_in, items_in, text_in}

-- `A` to `Z`, `a` to `z`, `0` to `9`, `.`, `_` and `$`
abbrev pub is_name_character : ℕ → Bool
is_name_character c = is_between 65 90 c || is_between 97 122 c || is_between 48 57 c || c == 46 || c == 95 || c == 36

abbrev pub kept : ℕ → ℕ
kept c = if is_name_character c then c else 95

abbrev pub completion_exception : List ℕ
completion_exception = codes "java.util.concurrent.CompletionException"

abbrev pub execution_exception : List ℕ
execution_exception = codes "java.util.concurrent.ExecutionException"

-- it wraps another exception, and names none
abbrev pub is_wrapper : List ℕ → Bool
is_wrapper name = bytes_eq name completion_exception || bytes_eq name execution_exception

abbrev pub named : List ℕ → Option (List ℕ)
named name = if length name == 0 || is_wrapper name then None else Some name

-- the exception's name that a text is: other characters become `_`, and 128 are kept
unfoldable pub exception_name : List ℕ → Option (List ℕ)
exception_name text = named (encode_utf8_all (map kept (take 128 (chars text))))

-- the value of a tag, where it is a text
unfoldable pub tag_text : TagForm → Data → Option (List ℕ)
tag_text Otlp tag = option_and_then as_str (option_and_then (member_of member.StringValue) (member_of member.Value tag))
tag_text Jaeger tag = option_and_then as_str (member_of member.Value tag)

-- the first tag with a key
abbrev pub first_tag : Member → List ℕ → Items → Result (Option Data) Fault
first_tag list key no_items = Ok None
first_tag list key (item tag tags) =
    then_on (item_in list tag) (λ _.
    then_on (text_in member.Key tag) (λ name.
    if bytes_eq name key then Ok (Some tag) else first_tag list key tags))

unfoldable pub tag_in : Member → List ℕ → Data → Result (Option Data) Fault
tag_in list key d = then_on (items_in list d) (first_tag list key)

unfoldable pub exception_in_tag : TagForm → Member → List ℕ → Data → Result (Option (List ℕ)) Fault
exception_in_tag form list key d = then_on (tag_in list key d) (λ tag. Ok (option_and_then exception_name (option_and_then (tag_text form) tag)))

-- the one, or what stands for none
abbrev pub or_on : {A : Type 0} → Option A → Result (Option A) Fault → Result (Option A) Fault
or_on (Some a) other = Ok (Some a)
or_on None other = other

unfoldable pub exception_in_log : Data → Result (Option (List ℕ)) Fault
exception_in_log d =
    then_on (exception_in_tag Jaeger member.Fields (codes "exception.type") d) (λ name.
    or_on name (exception_in_tag Jaeger member.Fields (codes "error.kind") d))

unfoldable pub exception_in_event : TagForm → Data → Result (Option (List ℕ)) Fault
exception_in_event Otlp d = exception_in_tag Otlp member.Attributes (codes "exception.type") d
exception_in_event Jaeger d = exception_in_log d

abbrev pub or_else : {A : Type 0} → Option A → Option A → Option A
or_else (Some a) other = Some a
or_else None other = other

-- that of the last event with one
abbrev pub last_exception : TagForm → Member → Items → Result (Option (List ℕ)) Fault
last_exception form list no_items = Ok None
last_exception form list (item event events) =
    then_on (item_in list event) (λ _.
    then_on (exception_in_event form event) (λ name.
    then_on (last_exception form list events) (λ later.
    Ok (or_else later name))))

abbrev pub events_of : TagForm → Member
events_of Otlp = member.Events
events_of Jaeger = member.Logs

abbrev pub tags_of : TagForm → Member
tags_of Otlp = member.Attributes
tags_of Jaeger = member.Tags

-- the name of the exception with which a span failed, if it did and tells one
unfoldable pub exception_in : TagForm → Data → Result (Option (List ℕ)) Fault
exception_in form span =
    then_on (then_on (items_in (events_of form) span) (last_exception form (events_of form))) (λ name.
    or_on name (exception_in_tag form (tags_of form) (codes "error.type") span))

abbrev pub exception_if : Bool → TagForm → Data → Result (Option (List ℕ)) Fault
exception_if failed form span = if failed then exception_in form span else Ok None
