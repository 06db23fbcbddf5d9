use Rattle.std.proofs.Common.{◌≡◌, map, take}
use Rattle.trace_import.specs.StageNames.{stage_name}
use Rattle.trace_import.proofs.imported_stage.names_of.Given as goal

-- the names of the stages so far
abbrev pub invariant-loop-stage : goal.invariant-loop-stage
invariant-loop-stage l = l.names ≡ map (stage_name l.making.names.now) (take l.stage-index l.stages)
