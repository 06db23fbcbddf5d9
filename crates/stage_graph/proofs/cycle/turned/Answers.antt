use Rattle.std.proofs.Common.{◌≡◌, ◌-◌, length, drop, arith, subst}
use Rattle.std.proofs.lemmas.List.{take_all, length-drop}
use Rattle.stage_graph.proofs.Turning.{Turning, turning_begins, turning_more, turning_ends}
use Rattle.stage_graph.proofs.cycle.turned.Goals as goal

pub loop-at-init : goal.loop-at-init
loop-at-init g c =
    let path = c.args.path.now in
    rw c.in_ok-walk.ensures.items (rw (take_all (length path - c.args.begin) (drop c.args.begin path) (omega (arith, length-drop c.args.begin path)))
    (turning_begins c.args.graph.now.places path c.requires.closed c.args.begin c.requires.within))

pub loop-at-preserved : goal.loop-at-preserved
loop-at-preserved g c =
    rw c.in_ok-push.ensures.items (turning_more c.args.graph.now.places c.args.path.now c.requires.closed c.args.begin c.requires.within c.loop-at.walk.items c.loop-at.at c.loop-at.invariant c.loop-at-test.true)

pub returns-clause-closed : goal.returns-clause-closed
returns-clause-closed g c =
    let round : c.loop-at.at ≡ c.args.begin = omega (arith, c.loop-at-test.false, c.loop-at.auto.at-end) in
    rw c.from_vec.ensures (turning_ends c.args.graph.now.places c.args.path.now c.requires.closed c.args.begin c.requires.within c.loop-at.walk.items
    (subst (Turning c.args.graph.now.places c.args.path.now c.loop-at.walk.items c.args.begin) round c.loop-at.invariant))
