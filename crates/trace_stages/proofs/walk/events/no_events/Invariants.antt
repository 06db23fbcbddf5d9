use Rattle.std.proofs.Common.{◌≡◌, ℕ, [], vec_len}
use Rattle.trace_stages.specs.Events.{events_at}
use Rattle.trace_stages.proofs.walk.events.no_events.Given as goal

-- nothing happens in so many spans
abbrev pub invariant-loop-span : goal.invariant-loop-span
invariant-loop-span l = (vec_len l.all ≡ l._span) × ((span : ℕ) → events_at l.all.items span ≡ [])
