-- Attempts, as they are kept.
use Rattle.std.specs.Prelude.{◌≡◌, ℕ, ◌<◌, List, All, None, length, slice_get, unwrap_or}
use Rattle.trace_relations.specs.declared.attempts.Attempts.{Attempts as Kept}
use Rattle.trace_relations.specs.declared.attempts.Calls.{Calls}
use Rattle.trace_relations.specs.Attempts.{Attempts, CallsOf, caller_of}

-- the value at a place, or what stands for none
abbrev pub value_at : {A : Type 0} → List A → (ℕ → A) → ℕ → A
value_at values absent place = unwrap_or (slice_get values place) (absent place)

abbrev pub plain_attempts : Kept → Attempts
plain_attempts attempts = record {
  next = value_at attempts.next.items (λ place. None);
  previous = value_at attempts.previous.items (λ place. None);
  first = value_at attempts.first.items (λ place. place);
  last = value_at attempts.last.items (λ place. place);
}

abbrev pub calls_with : Calls → CallsOf
calls_with calls = record { spans = calls.spans.now; intervals = calls.intervals.now; callers = caller_of calls.hosts.now calls.waiting.now }

-- of so many spans it is kept, each first attempt is one of these
pub record AreKept (count : ℕ) (attempts : Kept) : Type 0 where
  pub next : length attempts.next.items ≡ count
  pub previous : length attempts.previous.items ≡ count
  pub first : length attempts.first.items ≡ count
  pub last : length attempts.last.items ≡ count
  pub firsts : All (λ place. place < count) attempts.first.items
