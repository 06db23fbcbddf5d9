use Rattle.std.proofs.Common.{◌≡◌, take}
use Rattle.std.specs.Prelude.{filter}
use Rattle.trace_stages.specs.HandedOn.{is_handed, last_to_end}
use Rattle.trace_stages.specs.Known.{plain_known}
use Rattle.trace_stages.specs.Outcomes.{failing}
use Rattle.trace_stages.proofs.handed_on.thrower.Given as goal

-- the last of the children so far
abbrev pub invariant-loop-child : goal.invariant-loop-child
invariant-loop-child l = l.last ≡ last_to_end (plain_known l.known).relations.intervals (filter (is_handed (plain_known l.known) (failing l.failures) l.place) (take l.child-index l.child-items))
