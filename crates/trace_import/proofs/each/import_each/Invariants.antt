use Rattle.std.proofs.Common.{◌≡◌, ◌++◌, ℕ, List}
use Rattle.std.specs.Io.KnownBytes.{Appends}
use Rattle.trace_import.specs.Each.{AreOutcomesOf}
use Rattle.trace_import.proofs.each.import_each.Given as goal

-- what the traces so far came to, and what was written of them; no write failed
abbrev pub invariant-loop-trace : goal.invariant-loop-trace
invariant-loop-trace g l =
    (l.initial.trace-iterator.rest.items ≡ l.yielded ++ l.trace-iterator.rest.items)
    × (written : List ℕ) × AreOutcomesOf l.mapping l.yielded l.outcomes.items written × Appends (g.S.Sink.held l.fn.sink) (g.S.Sink.held l.sink) written
    × (g.S.Sink.failures l.sink ≡ g.S.Sink.failures l.fn.sink)
