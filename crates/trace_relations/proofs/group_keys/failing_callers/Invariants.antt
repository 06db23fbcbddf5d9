use Rattle.trace_relations.specs.Attempts.{caller_of}
use Rattle.trace_relations.proofs.Grouped.{AreFailingBefore}
use Rattle.trace_relations.proofs.group_keys.failing_callers.Given as goal

-- those of the calls so far
abbrev pub invariant-loop-place : goal.invariant-loop-place
invariant-loop-place l = AreFailingBefore l.calls.spans.now (caller_of l.calls.hosts.now l.calls.waiting.now) l.place l.failing.items
