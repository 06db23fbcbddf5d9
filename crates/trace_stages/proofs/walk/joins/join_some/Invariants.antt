use Rattle.std.proofs.Common.{◌≡◌, [], take}
use Rattle.std.specs.Prelude.{fold}
use Rattle.trace_stages.specs.Joins.{gathered, plain_gathering, plain_joins}
use Rattle.trace_stages.proofs.walk.joins.join_some.Given as goal

-- what was gathered so far
abbrev pub invariant-loop-source : goal.invariant-loop-source
invariant-loop-source l = plain_gathering l.gathering ≡ fold (gathered l.of) (record { joins = plain_joins l.fn.joins; together = [] }) (take l.source-index l.sources)
