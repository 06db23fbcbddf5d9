use Rattle.std.proofs.Common.{length, Some}
use Rattle.trace_relations.proofs.Hosting.{IsHostFrom}
use Rattle.trace_relations.proofs.hosts.host_above.Given as goal

-- the host is in the line that begins here
abbrev pub invariant-loop-passed : goal.invariant-loop-passed
invariant-loop-passed l = IsHostFrom l.intervals l.parents l.place (length l.levels) l.passed (Some l.at)
