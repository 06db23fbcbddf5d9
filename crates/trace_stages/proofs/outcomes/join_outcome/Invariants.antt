use Rattle.std.proofs.Common.{◌≡◌, drop, map}
use Rattle.trace_stages.specs.Outcomes.{join_outcome, outcome_of, plain_sight}
use Rattle.trace_stages.proofs.Joining.{joined_from}
use Rattle.trace_stages.proofs.outcomes.join_outcome.Given as goal

-- the sources so far, and those that are left
abbrev pub invariant-loop-source : goal.invariant-loop-source
invariant-loop-source l = joined_from l.tick l.failed (map (outcome_of (plain_sight l.sight) l.own) (drop l.source-index l.sources)) ≡ join_outcome (map (outcome_of (plain_sight l.sight) l.own) l.sources)
