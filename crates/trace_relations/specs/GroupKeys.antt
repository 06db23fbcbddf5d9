-- What tells groups of calls apart: their callers, and what tells calls from each other.
use Rattle.std.specs.Prelude.{◌≡◌, ℕ, ◌<◌, ◌^◌, List, ◌∷◌, Bool, true, if◌then◌else◌, Option, Some, None, option_and_then, slice_get, unwrap_or}
use Rattle.std.specs.Fmt.{decimal}
use Rattle.trace_spans.specs.declared.span.Span.{Span}
use Rattle.trace_relations.specs.Attempts.{CallsOf, has_failed}
use Rattle.trace_relations.specs.Calls.{call_texts}
use Rattle.trace_relations.specs.Keys.{AreShort, key_of}

-- what tells the group of a call of a caller
abbrev pub group_texts : ℕ → Span → List (List ℕ)
group_texts caller span = decimal caller ∷ call_texts span

abbrev pub call_key : ℕ → Span → List ℕ
call_key caller span = key_of (group_texts caller span)

-- what is told of callers is whether a call failed; of one that is no span it is taken to be so
abbrev pub is_failing : List Bool → ℕ → Bool
is_failing failing caller = unwrap_or (slice_get failing caller) true

-- each caller of which a call failed is among them
abbrev pub AreFailing : CallsOf → List Bool → Type 0
AreFailing calls failing = (place caller : ℕ) → has_failed (slice_get calls.spans place) ≡ true → calls.callers place ≡ Some caller → is_failing failing caller ≡ true

abbrev pub key_with : Option Span → ℕ → Option (List ℕ)
key_with None caller = None
key_with (Some span) caller = Some (call_key caller span)

abbrev pub key_if_failing : CallsOf → List Bool → ℕ → ℕ → Option (List ℕ)
key_if_failing calls failing place caller = if is_failing failing caller then key_with (slice_get calls.spans place) caller else None

-- the key of the group of a call, if a call of its caller failed
abbrev pub group_key : CallsOf → List Bool → ℕ → Option (List ℕ)
group_key calls failing place = option_and_then (key_if_failing calls failing place) (calls.callers place)

-- its texts and its caller fit memory
pub record IsShortCall (caller : ℕ) (span : Span) : Type 0 where
  pub number : caller < 2 ^ 64
  pub texts : AreShort (group_texts caller span)

-- so do those of each call that has a key
abbrev pub IsShort : CallsOf → List Bool → ℕ → Type 0
IsShort calls failing place = (caller : ℕ) (span : Span) → calls.callers place ≡ Some caller → is_failing failing caller ≡ true → slice_get calls.spans place ≡ Some span → IsShortCall caller span
