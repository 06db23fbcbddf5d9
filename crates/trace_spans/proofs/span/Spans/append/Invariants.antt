use Rattle.std.proofs.Common.{◌≡◌, ◌++◌}
use Rattle.trace_spans.proofs.span.Spans.append.Given as goal

-- the spans so far at the end of those that were there, and those that are left
abbrev pub invariant-loop-span : goal.invariant-loop-span
invariant-loop-span l =
    (l.initial.span-iterator.rest.items ≡ l.yielded ++ l.span-iterator.rest.items) × (l.self ≡ l.fn.self ++ l.yielded)
