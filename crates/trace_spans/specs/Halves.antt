-- The servers' halves of spans that client and server share.
use Rattle.std.specs.Prelude.{ℕ, ◌&&◌, List, [], ◌∷◌, ◌++◌, Bool, false, if◌then◌else◌, Option, Some, None, Result, Ok}
use Rattle.std.specs.List.{list_any}
use Rattle.std.specs.Str.{bytes_eq}
use Rattle.serde_json.specs.Data.{Data, Items, no_items, item}
use Rattle.serde_json.specs.Find.{as_bool}
use Rattle.trace_spans.specs.declared.fault.Fault.{Fault}
use Rattle.trace_spans.specs.declared.member.Member.TheVariants as member
use Rattle.trace_spans.specs.Clocks.{service_of}
use Rattle.trace_spans.specs.Endpoints.{clock_in}
use Rattle.trace_spans.specs.Identifiers.{compared_in}
use Rattle.trace_spans.specs.Members.{then_on, member_of}

-- a span's trace and id, and the server of the half
pub record ToldHalf : Type 0 where
  pub trace : List ℕ
  pub id : List ℕ
  pub service : List ℕ

abbrev pub is_truth : Option Bool → Bool
is_truth None = false
is_truth (Some b) = b

abbrev pub is_shared_by : Option Data → Bool
is_shared_by None = false
is_shared_by (Some d) = is_truth (as_bool d)

-- the span is the server's half
unfoldable pub is_shared : Data → Bool
is_shared span = is_shared_by (member_of member.Shared span)

unfoldable pub half_of : Data → Result (List ToldHalf) Fault
half_of span =
    if is_shared span then
    (then_on (compared_in member.OtlpTrace span) (λ trace.
    then_on (compared_in member.ZipkinSpan span) (λ id.
    then_on (clock_in span) (λ clock.
    Ok (record { trace = trace; id = id; service = service_of clock } ∷ [])))))
    else Ok []

-- the servers' halves in a list of spans
abbrev pub halves_of : Items → Result (List ToldHalf) Fault
halves_of no_items = Ok []
halves_of (item span spans) =
    then_on (half_of span) (λ first.
    then_on (halves_of spans) (λ others.
    Ok (first ++ others)))

abbrev pub is_half : List ℕ → List ℕ → List ℕ → ToldHalf → Bool
is_half trace id service half = bytes_eq trace half.trace && (bytes_eq id half.id && bytes_eq service half.service)

-- the span of that id in the trace has a half in which that service is the server
abbrev pub has_half : List ToldHalf → List ℕ → List ℕ → List ℕ → Bool
has_half halves trace id service = list_any (is_half trace id service) halves
