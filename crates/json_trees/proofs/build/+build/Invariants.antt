use Rattle.std.proofs.Common.{◌≡◌, ◌+◌, ◌*◌, ◌∷◌, List, length}
use Rattle.json.specs.Json.{value}
use Rattle.json_trees.specs.Added.{Added}
use Rattle.json_trees.specs.Cells.{Cell, array_cell, object_cell}
use Rattle.json_trees.proofs.Building.{ItemsSoFar, MembersSoFar}
use Rattle.json_trees.proofs.build.+build.Given as goal

abbrev pub decreases-add_array : goal.decreases-add_array
decreases-add_array l = 2 * l.depth + 1

abbrev pub decreases-add_object : goal.decreases-add_object
decreases-add_object l = 2 * l.depth + 1

abbrev pub decreases-add_value : goal.decreases-add_value
decreases-add_value l = 2 * l.depth

abbrev pub invariant-add_array-items : goal.invariant-add_array-items
invariant-add_array-items l =
    (inner : List Cell) × ItemsSoFar (value l.depth) l.fn.reader l.reader inner
    × Added l.fn.nodes l.nodes (array_cell 0 ∷ inner) × (l.at ≡ length l.fn.nodes.list.items)

abbrev pub decreases-add_array-items : goal.decreases-add_array-items
decreases-add_array-items l = length l.reader

abbrev pub invariant-add_object-members : goal.invariant-add_object-members
invariant-add_object-members l =
    (inner : List Cell) × MembersSoFar (value l.depth) l.fn.reader l.reader inner
    × Added l.fn.nodes l.nodes (object_cell 0 ∷ inner) × (l.at ≡ length l.fn.nodes.list.items)

abbrev pub decreases-add_object-members : goal.decreases-add_object-members
decreases-add_object-members l = length l.reader
