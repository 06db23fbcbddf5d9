-- How spans went, and with which exceptions they failed.
use Rattle.std.specs.Prelude.{◌≡◌, ℕ, List, Bool, false, codes, if◌then◌else◌, Option, Some, None, unwrap_or, bytes_eq, slice_get, String}
use Rattle.std.specs.HashMap.{HashMap, get_by_text}
use Rattle.std.specs.List.{position_from}
use Rattle.std.specs.declared.alloc.Global.{Global}
use Rattle.trace_spans.specs.declared.span.Span.{Span}
use Rattle.trace_stages.specs.declared.fates.Fate.{Fate}
use Rattle.trace_stages.specs.declared.fates.Fate.TheVariants.{Succeeded, Failed, Threw}
use Rattle.trace_stages.specs.declared.stage.Exception.{Exception}
use Rattle.trace_stages.specs.declared.stage.Exception.TheVariants.{SpanFailed, Of}

abbrev pub is_name : List ℕ → Option (List ℕ) → Bool
is_name name None = false
is_name name (Some told) = bytes_eq told name

-- the first span that tells the name of an exception
abbrev pub first_place : List Span → List ℕ → Option ℕ
first_place spans name = position_from (λ span. is_name name span.exception) 0 spans

-- an exception is known by the first span that tells its name
abbrev pub exception_told : List Span → ℕ → List ℕ → Exception
exception_told spans place name = if bytes_eq name (codes "SpanFailed") then SpanFailed else Of (unwrap_or (first_place spans name) place)

-- how a failed span went
abbrev pub fate_told : List Span → ℕ → Option (List ℕ) → Fate
fate_told spans place None = Failed
fate_told spans place (Some name) = Threw (exception_told spans place name)

abbrev pub fate_of : List Span → ℕ → Option Span → Fate
fate_of spans place None = Succeeded
fate_of spans place (Some span) = if span.failed then fate_told spans place span.exception else Succeeded

-- how the span at a place went
abbrev pub fate : List Span → ℕ → Fate
fate spans place = fate_of spans place (slice_get spans place)

abbrev pub fate_at : List Fate → ℕ → Fate
fate_at fates place = unwrap_or (slice_get fates place) Succeeded

-- the map has the first place of each name
abbrev pub AreFirst : {S : Type 0} → HashMap (String Global) ℕ S → List Span → Type 0
AreFirst firsts spans = (name : List ℕ) → get_by_text firsts name ≡ first_place spans name
