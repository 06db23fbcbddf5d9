use Rattle.std.proofs.Common.{List, subst}
use Rattle.time_sweep.specs.declared.trial.Trial.{Trial}
use Rattle.time_sweep.specs.Sweep.{IsRanked}
use Rattle.time_sweep.proofs.Soonest.{ranked_is_sweep}
use Rattle.time_sweep.proofs.sweep.sweep_of.Goals as goal

pub returns-clause-swept : goal.returns-clause-swept
returns-clause-swept g c =
    let ordered = c.in_ok-ordered.ordered.items in
    ranked_is_sweep c.args.version.now.graph c.args.haste c.args.target ordered (subst (λ (trials : List Trial). IsRanked trials ordered) c.in_ok-found.ensures c.in_ok-ordered.ensures)

pub returns-clause-sorted : goal.returns-clause-sorted
returns-clause-sorted g c = subst (λ (trials : List Trial). IsRanked trials c.in_ok-ordered.ordered.items) c.in_ok-found.ensures c.in_ok-ordered.ensures
