-- The set of servers' halves.
use Rattle.std.specs.Prelude.{◌≡◌, ℕ, ◌&&◌, List, [], ◌∷◌, Bool, Option, Some, None, Result, Ok, Err, string_bytes}
use Rattle.std.specs.List.{list_any}
use Rattle.std.specs.Str.{bytes_eq}
use Rattle.std.specs.HashSet.{HashSet, contains_by}
use Rattle.serde_json.specs.Data.{Items}
use Rattle.trace_spans.specs.declared.fault.Fault.{Fault}
use Rattle.trace_spans.specs.declared.zipkin.halves.Half.{Half}
use Rattle.trace_spans.specs.declared.zipkin.halves.Halves.{Halves}
use Rattle.trace_spans.specs.Halves.{ToldHalf, halves_of, is_half}
use Rattle.trace_spans.specs.Reads.{IsFault}

abbrev pub is_held : List ℕ → List ℕ → List ℕ → Half → Bool
is_held trace id service half =
    bytes_eq trace (string_bytes half.trace) && (bytes_eq id (string_bytes half.id) && bytes_eq service (string_bytes half.service))

abbrev pub told_of : Option Half → List ToldHalf
told_of None = []
told_of (Some half) = record { trace = string_bytes half.trace; id = string_bytes half.id; service = string_bytes half.service } ∷ []

-- the set has these halves, and no other
abbrev pub AreHalves : {S : Type 0} → HashSet Half S → List ToldHalf → Type 0
AreHalves halves known =
    (trace id service : List ℕ) → contains_by (is_held trace id service) halves ≡ list_any (is_half trace id service) known

-- they are those of a list of spans, or what is wrong with one of them is told
abbrev pub HasHalves : Items → Result Halves Fault → Type 0
HasHalves spans (Ok halves) = (known : List ToldHalf) × (halves_of spans ≡ Ok known) × AreHalves halves.all known
HasHalves spans (Err fault) = IsFault fault (halves_of spans)
