use Rattle.std.proofs.Common.{◌≡◌, map}
use Rattle.std.specs.List.{range_with_len}
use Rattle.trace_stages.specs.HandedOn.{handed_sources}
use Rattle.trace_stages.specs.Known.{plain_known}
use Rattle.trace_stages.specs.Outcomes.{failing}
use Rattle.trace_stages.specs.PlainJoins.{plain_joins}
use Rattle.trace_stages.proofs.handed_on.all_handed.Given as goal

-- those so far
abbrev pub invariant-loop-place : goal.invariant-loop-place
invariant-loop-place l = plain_joins l.all.items ≡ map (handed_sources (plain_known l.known) (failing l.failures)) (range_with_len 0 l.place)
