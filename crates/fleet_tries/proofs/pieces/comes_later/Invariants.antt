use Rattle.std.proofs.Common.{◌≡◌}
use Rattle.std.specs.List.{list_any, range_with_len}
use Rattle.fleet_tries.specs.Pieces.{takes_behind}
use Rattle.fleet_tries.proofs.pieces.comes_later.Given as goal

-- whether one stands behind it so far
abbrev pub invariant-loop-other : goal.invariant-loop-other
invariant-loop-other g l = l.found ≡ list_any (takes_behind l.version.graph l.work.stages.now l.work.span l.place) (range_with_len 0 l.other)
