use Rattle.std.proofs.Common.{◌≡◌, ◌-◌, ◌*◌, map}
use Rattle.std.specs.Int.{div_ceil}
use Rattle.std.specs.List.{range_with_len}
use Rattle.timeline.proofs.axis.multiples.Given as goal

-- the multiples so far
abbrev pub invariant-loop-multiple : goal.invariant-loop-multiple
invariant-loop-multiple l =
    l.ticks.items ≡ map (λ multiple. multiple * l.step) (range_with_len (div_ceil l.first l.step) (l.multiple - div_ceil l.first l.step))
