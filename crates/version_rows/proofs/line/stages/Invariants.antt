use Rattle.std.proofs.Common.{◌≡◌, map, take}
use Rattle.version_rows.specs.declared.line.Line.TheVariants.{Stage}
use Rattle.version_rows.proofs.line.stages.Given as goal

-- the rows so far
abbrev pub invariant-loop-candidate : goal.invariant-loop-candidate
invariant-loop-candidate l = l.lines.items ≡ map Stage (take l.candidate-index l.chosen)
