-- Times in microseconds, as Jaeger and Zipkin tell them; those of spans are nanoseconds, which have 64 bits.
use Rattle.std.specs.Prelude.{ℕ, ◌+◌, ◌*◌, ◌^◌, ◌==◌, List, [], ◌∷◌, nat_lt, if◌then◌else◌, is_some, Option, Some, None, option_map, option_and_then, Result}
use Rattle.serde_json.specs.Data.{Data, Num}
use Rattle.serde_json.specs.Find.{as_i64, as_number, as_str, as_u64}
use Rattle.trace_spans.specs.declared.fault.Fault.{Fault}
use Rattle.trace_spans.specs.declared.member.Member.{Member}
use Rattle.trace_spans.specs.declared.member.Member.TheVariants as member
use Rattle.trace_spans.specs.Members.{below_64_bits, optional, spelled, whole_number}

-- 0 is no time
abbrev pub known : ℕ → Option ℕ
known time = if time == 0 then None else Some time

-- when a span starts
unfoldable pub start_in : Member → Data → Result (Option ℕ) Fault
start_in m span = optional m None (λ v. option_map known (option_and_then (λ time. below_64_bits (time * 1000)) (whole_number v))) span

-- a negative duration, also one without its sign, is none
abbrev pub lasting : ℕ → ℕ
lasting n = if nat_lt n (2 ^ 63) then n else 0

-- digits, or a sign and digits
unfoldable pub spelled_duration : List ℕ → Option ℕ
spelled_duration [] = None
spelled_duration (x ∷ xs) =
    if x == 45 then option_map (λ n. 0) (spelled xs) else option_map lasting (spelled (x ∷ xs))

abbrev pub negative_is_none : Option Num → Option ℕ
negative_is_none n = if is_some (option_and_then as_i64 n) then Some 0 else None

abbrev pub numbered_duration : Option Num → Option ℕ → Option ℕ
numbered_duration n (Some whole) = Some (lasting whole)
numbered_duration n None = negative_is_none n

abbrev pub duration_of : Option (List ℕ) → Option Num → Option ℕ
duration_of (Some text) n = spelled_duration text
duration_of None n = numbered_duration n (option_and_then as_u64 n)

-- how long a span lasts
unfoldable pub microseconds : Data → Option ℕ
microseconds d = duration_of (as_str d) (as_number d)

unfoldable pub time_after : ℕ → ℕ → Option ℕ
time_after start n = option_and_then (λ way. below_64_bits (start + way)) (below_64_bits (n * 1000))

abbrev pub end_after : Option ℕ → ℕ → Option (Option ℕ)
end_after None n = Some None
end_after (Some start) n = option_map Some (time_after start n)

-- when a span ends: its duration after its start
unfoldable pub end_in : Option ℕ → Data → Result (Option ℕ) Fault
end_in start span = optional member.Duration None (λ v. option_and_then (end_after start) (microseconds v)) span
