use Rattle.std.proofs.Common.{◌≡◌, ℕ, [], vec_len}
use Rattle.trace_stages.specs.Called.{called_at}
use Rattle.trace_stages.proofs.walk.called.none_called.Given as goal

-- none are called by so many spans
abbrev pub invariant-loop-span : goal.invariant-loop-span
invariant-loop-span l = (vec_len l.all ≡ l._span) × ((span : ℕ) → called_at l.all.items span ≡ [])
