use Rattle.std.proofs.Common.{◌∙◌, ◌∷◌}
use Rattle.tried_changes.specs.InTurn.{made_in_turn}
use Rattle.tried_changes.proofs.Turns.{first_refused, first_turn, turn_on, turn_refused, turns_done}
use Rattle.tried_changes.proofs.in_turn.tried_first.Goals as goal

pub loop-change-init : goal.loop-change-init
loop-change-init g c = first_turn c.args.first.now c.args.others.now c.args.version.now.graph c.in-Ok.made.graph c.in-Ok.ensures

pub loop-change-preserved : goal.loop-change-preserved
loop-change-preserved g c =
    c.loop-change.invariant
    ∙ turn_on c.args.others.now c.loop-change.change-index c.change-item.result c.loop-change.made.graph c.in-Ok-tried_alone.next.graph c.loop-change-test.true c.change-item.is c.in-Ok-tried_alone.ensures

pub returns-in-Err : goal.returns-in-Err
returns-in-Err g c = first_refused c.args.first.now c.args.others.now c.args.version.now.graph c.in-Err.fault c.in-Err.ensures

pub returns-in-Err-tried_alone : goal.returns-in-Err-tried_alone
returns-in-Err-tried_alone g c =
    turn_refused (made_in_turn (c.args.first.now ∷ c.args.others.now) c.args.version.now.graph) c.args.others.now c.loop-change.change-index c.change-item.result c.loop-change.made.graph c.in-Err-tried_alone.fault
    c.loop-change.invariant c.loop-change-test.true c.change-item.is c.in-Err-tried_alone.ensures

pub returns : goal.returns
returns g c = c.loop-change.invariant ∙ turns_done c.args.others.now c.loop-change.change-index c.loop-change.made.graph c.loop-change-test.false
