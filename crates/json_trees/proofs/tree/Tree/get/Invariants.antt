use Rattle.std.proofs.Common.{◌≡◌, length}
use Rattle.serde_json.specs.Find.{get}
use Rattle.json_trees.specs.Named.{last_named}
use Rattle.json_trees.proofs.tree.Tree.get.Given as goal

abbrev pub invariant-members : goal.invariant-members
invariant-members l = last_named l.fn.name l.found l.members ≡ get l.fn.name l.fn.self

abbrev pub decreases-members : goal.decreases-members
decreases-members l = length l.members
