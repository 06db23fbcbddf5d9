use Rattle.std.proofs.Common.{◌≡◌, ◌++◌}
use Rattle.rank_order.specs.DependentLists.{listed}
use Rattle.rank_order.proofs.dependent_lists.dependents_of.Given as goal

-- what was taken and what is left are the lists, and those that are kept so far are those that were taken
abbrev pub invariant-loop-its_dependents : goal.invariant-loop-its_dependents
invariant-loop-its_dependents g l =
    (l.initial.its_dependents-iterator.rest.items ≡ l.yielded ++ l.its_dependents-iterator.rest.items)
    × (g.R.Dependents.Keeps.items l.kept ≡ listed l.yielded)
