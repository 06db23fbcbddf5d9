use Rattle.std.proofs.Common.{◌≡◌, ◌++◌}
use Rattle.trace_spans.specs.Groups.{AreGroups}
use Rattle.trace_spans.specs.Traces.{ids_of}
use Rattle.trace_spans.proofs.traces.grouped.Given as goal

-- the spans so far by their traces, and those that are left
abbrev pub invariant-loop-span : goal.invariant-loop-span
invariant-loop-span l =
    (l.initial.span-iterator.rest.items ≡ l.yielded ++ l.span-iterator.rest.items) × AreGroups l.groups (ids_of l.yielded) l.yielded
