use Rattle.std.proofs.Common.{arith, ◌≡◌, ◌≤◌, ◌<◌, length, slice_get, Some}
use Rattle.std.proofs.lemmas.Grind.{common_steps}
use Rattle.std.proofs.lemmas.Option.{gets}
use Rattle.share_tree.proofs.Levels.{PutsInChild-within, PutsInChild-past}
use Rattle.share_tree.proofs.node.write_child.Goals as goal

pub returns-in_ok-write_held-clause-ok : goal.returns-in_ok-write_held-clause-ok
returns-in_ok-write_held-clause-ok g c =
    let within : c.args.at < length c.args.children.now.items = grind (arith, common_steps, c.len.ensures, c.if-at-len.true) in
    let read : slice_get c.args.children.now.items c.args.at ≡ Some c.index_mut.result.now = grind (arith, common_steps, gets, c.index_mut.ensures.value, within) in
    PutsInChild-within g.N.Node.items g.N.Node.ROOM c.args.children.now.items c.args.at c.args.below c.args.item c.index_mut.result.now c.write_held.new.held within read c.in_ok-write_held.ensures.ok

pub returns-in_ok-push-clause-ok : goal.returns-in_ok-push-clause-ok
returns-in_ok-push-clause-ok g c =
    let past : length c.args.children.now.items ≤ c.args.at = grind (arith, common_steps, c.len.ensures, c.if-at-len.false) in
    rw c.in_ok-push.ensures.items (PutsInChild-past g.N.Node.items g.N.Node.ROOM c.args.children.now.items c.args.at c.args.below c.args.item c.empty-child.result c.write.new.self c.in_ok-new.field-0 past c.empty-child.ensures c.in_ok-write.ensures.ok c.in_ok-new.ensures)
