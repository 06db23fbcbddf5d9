use Rattle.std.proofs.Common.{◌≡◌, map}
use Rattle.trace_spans.specs.Groups.{trace_of}
use Rattle.trace_spans.proofs.traces.counted.Given as goal

-- the traces of the groups so far
abbrev pub invariant-loop-group : goal.invariant-loop-group
invariant-loop-group l = l.traces.items ≡ map (trace_of l.is_cut) l.yielded
