use Rattle.std.proofs.Common.{◌≡◌, take}
use Rattle.trace_stages.specs.Outcomes.{join_outcomes, plain_sight}
use Rattle.trace_stages.specs.PlainJoins.{plain_joins}
use Rattle.trace_stages.proofs.outcomes.join_outcomes.Given as goal

-- those so far
abbrev pub invariant-loop-sources : goal.invariant-loop-sources
invariant-loop-sources l = l.outcomes.items ≡ join_outcomes (plain_sight l.sight) (plain_joins (take l.sources-index l.joins))
