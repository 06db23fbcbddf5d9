use Rattle.std.proofs.Common.{◌≡◌, take}
use Rattle.trace_groups.specs.Stages.{stages_of}
use Rattle.trace_groups.proofs.grouping.stages_of.Given as goal

abbrev pub invariant-loop-stage : goal.invariant-loop-stage
invariant-loop-stage l = l.of_spans.items ≡ stages_of (take l.stage-index l.stages)
