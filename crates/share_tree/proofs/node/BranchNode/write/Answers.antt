use Rattle.share_tree.proofs.Levels.{place_below, put_below, filled_below, child_place_below}
use Rattle.share_tree.proofs.Puts.{length-put_below}
use Rattle.share_tree.proofs.node.BranchNode.write.Goals as goal

pub write_child-requires-clause-place : goal.write_child-requires-clause-place
write_child-requires-clause-place g c =
    let node = g.N.Node in
    rw (c.ROOM.ensures, c.ROOM-2.ensures) (place_below node.items node.ROOM g.met.N.Node.room_for_one _ c.self.invariant.1 c.args.place (rw c.self.view_is c.requires.place))

pub invariant_of-self-2 : goal.invariant_of-self-2
invariant_of-self-2 g c =
    let node = g.N.Node in
    let put = rw (c.ROOM.ensures, c.ROOM-2.ensures) at c.in_ok-write_child.ensures.ok in
    rw (put.changed) (
      length-put_below _ _ _ _ c.self.invariant.0 (child_place_below node.ROOM g.met.N.Node.room_for_one c.args.place c.requires.room),
      filled_below node.items node.ROOM g.met.N.Node.room_for_one _ c.self.invariant.1 c.args.place (rw c.self.view_is c.requires.place) c.args.item _ put.made,
    )

pub returns-clause-ok : goal.returns-clause-ok
returns-clause-ok g c =
    let node = g.N.Node in
    let put = rw (c.ROOM.ensures, c.ROOM-2.ensures) at c.in_ok-write_child.ensures.ok in
    rw (put.changed, ← c.self.view_is)
    (put_below node.items node.ROOM g.met.N.Node.room_for_one _ c.self.invariant.1 c.args.place (rw c.self.view_is c.requires.place) c.args.item _ put.made)
