use Rattle.std.proofs.Common.{◌≡◌, ℕ, take}
use Rattle.trace_stages.specs.Failures.{failures_by}
use Rattle.trace_stages.specs.Known.{plain_known}
use Rattle.trace_stages.specs.Outcomes.{failing}
use Rattle.trace_stages.proofs.failures.failures_of.Given as goal

-- the failures of those that were left so far
abbrev pub invariant-loop-visit : goal.invariant-loop-visit
invariant-loop-visit l = (place : ℕ) → failing l.failures place ≡ failures_by (plain_known l.known) (take l.visit-index l.visits) place
