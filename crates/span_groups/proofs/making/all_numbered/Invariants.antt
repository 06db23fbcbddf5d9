use Rattle.std.proofs.Common.{◌≡◌, take}
use Rattle.std.specs.Prelude.{map}
use Rattle.span_groups.specs.Numbered.{numbered}
use Rattle.span_groups.proofs.making.all_numbered.Given as goal

-- of the stages so far
abbrev pub invariant-loop-stage : goal.invariant-loop-stage
invariant-loop-stage l = l.counted.items ≡ map (numbered l.numbers) (take l.stage-index l.stages)
