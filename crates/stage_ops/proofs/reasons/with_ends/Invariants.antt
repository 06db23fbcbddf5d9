use Rattle.std.proofs.Common.{◌≡◌, take}
use Rattle.stage_ops.specs.Earliest.{earliest}
use Rattle.stage_ops.specs.Reasons.{candidates, explained_moment}
use Rattle.stage_ops.proofs.reasons.with_ends.Given as goal

abbrev pub invariant-loop-end : goal.invariant-loop-end
invariant-loop-end l = record {
  first : l.first ≡ earliest explained_moment (candidates l.fn.completion l.reason (take l.end-index l.end-items));
  index : l.index ≡ l.end-index;
}
