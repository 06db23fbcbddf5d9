use Rattle.std.proofs.Common.{◌≡◌, map}
use Rattle.std.specs.List.{range_with_len}
use Rattle.trace_stages.specs.Known.{plain_known}
use Rattle.trace_stages.specs.Outcomes.{failing, plain_outcomes}
use Rattle.trace_stages.specs.PlainJoins.{plain_joins}
use Rattle.trace_stages.specs.Scene.{span_outcomes}
use Rattle.trace_stages.proofs.scene.all_outcomes.Given as goal

-- those so far
abbrev pub invariant-loop-place : goal.invariant-loop-place
invariant-loop-place l = plain_outcomes l.all.items ≡ map (span_outcomes (plain_known l.known) (failing l.failures) (plain_joins l.handed)) (range_with_len 0 l.place)
