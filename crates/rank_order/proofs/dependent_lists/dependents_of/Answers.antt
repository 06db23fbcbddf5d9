use Rattle.std.proofs.Common.{◌++◌, sym, ap, ◌∙◌, arith}
use Rattle.rank_order.proofs.DependentSteps.{listed_short, listed_all}
use Rattle.rank_order.proofs.dependent_lists.dependents_of.Goals as goal

pub add-requires : goal.add-requires
add-requires g c =
    let so_far = c.loop-its_dependents.invariant in
    let left = so_far.0 ∙ ap (λ rest. c.loop-its_dependents.yielded ++ rest) c.in-Some.ensures.steps.0 in
    listed_short c.args.graph.now.places c.in_ok-lists.lists.items c.loop-its_dependents.yielded c.in-Some.its_dependents c.next.new.self.rest.items
    (sym c.into_iter-its_dependents-iterator.ensures.into_iter_gives.0 ∙ left) c.in_ok-lists.ensures c.len.ensures.sound.few (g.R.Dependents.Keeps.items c.loop-its_dependents.kept) so_far.1

pub returns : goal.returns
returns g c =
    listed_all c.args.graph.now.places c.in_ok-lists.lists.items c.loop-its_dependents.yielded c.loop-its_dependents.its_dependents-iterator.rest.items
    (sym c.into_iter-its_dependents-iterator.ensures.into_iter_gives.0 ∙ c.loop-its_dependents.invariant.0)
    (let empty = c.in-None.ensures.steps.0 in let fits = c.loop-its_dependents.its_dependents-iterator.rest.ok.0 in omega (arith, empty, fits))
    c.in_ok-lists.ensures (g.R.Dependents.Keeps.items c.loop-its_dependents.kept) c.loop-its_dependents.invariant.1
