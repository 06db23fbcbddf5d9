use Rattle.share_tree.proofs.Puts.{length-put_below}
use Rattle.share_tree.proofs.node.LeafNode.write.Goals as goal

pub invariant_of-self-2 : goal.invariant_of-self-2
invariant_of-self-2 g c = rw c.in_ok-write_in.ensures.ok (length-put_below _ _ _ _ c.self.invariant c.requires.room)
