use Rattle.std.proofs.Common.{take}
use Rattle.trace_import.specs.Gains.{GainStages}
use Rattle.trace_import.specs.Specs.{labelled_stages}
use Rattle.trace_stages.specs.Naming.{plain_stages}
use Rattle.trace_import.proofs.text.push_stages.Given as goal

-- the stages so far
abbrev pub invariant-loop-stage : goal.invariant-loop-stage
invariant-loop-stage l = GainStages l.fn.text l.text (labelled_stages l.making.spans.now l.making.names.now (plain_stages (take l.stage-index l.stages)))
