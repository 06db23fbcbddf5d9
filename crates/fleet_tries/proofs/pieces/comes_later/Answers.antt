use Rattle.std.proofs.Common.{◌∙◌, sym}
use Rattle.fleet_tries.specs.Pieces.{takes_behind}
use Rattle.fleet_tries.proofs.Places.{any_here, any_not}
use Rattle.fleet_tries.proofs.pieces.comes_later.Goals as goal
use Rattle.fleet_tries.proofs.pieces.comes_later.Goals.{then-takes_behind, else-takes_behind}

pub loop-other-preserved : goal.loop-other-preserved
loop-other-preserved g c =
    elim c.if-takes_behind.branch [
      | then-takes_behind w ↦ rw w.found-is (any_here (takes_behind c.args.version.now.graph c.args.work.stages.now c.args.work.span c.args.place) c.loop-other.other (sym c.takes_behind.ensures ∙ w.if-takes_behind.true))
      | else-takes_behind w ↦ rw w.found-is (any_not (takes_behind c.args.version.now.graph c.args.work.stages.now c.args.work.span c.args.place) c.loop-other.other c.loop-other.found c.loop-other.invariant (sym c.takes_behind.ensures ∙ w.if-takes_behind.false))
    ]
