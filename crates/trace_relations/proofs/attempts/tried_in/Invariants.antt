use Rattle.std.proofs.Common.{◌≡◌, length}
use Rattle.trace_relations.specs.Groups.{AreGroups}
use Rattle.trace_relations.specs.KeptAttempts.{AreKept, calls_with, plain_attempts}
use Rattle.trace_relations.proofs.Trying.{tried_so_far}
use Rattle.trace_relations.proofs.attempts.tried_in.Given as goal

-- the calls so far are tried again
abbrev pub invariant-loop-call : goal.invariant-loop-call
invariant-loop-call l = record {
  tried : plain_attempts l.attempts ≡ tried_so_far (calls_with l.calls) l.order (plain_attempts l.fn.attempts) l.call-index;
  kept : AreKept (length l.calls.spans.now) l.attempts;
  groups : AreGroups (calls_with l.calls) l.order (plain_attempts l.attempts) l.groups;
}
