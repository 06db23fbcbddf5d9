use Rattle.std.proofs.Common.{◌∙◌, ℕ, ap, refl, subst, sym}
use Rattle.scratch_eval.specs.Path.{path}
use Rattle.fleet_facts.specs.GroupFacts.{AreFactsOfGroups}
use Rattle.fleet_facts.proofs.facts.facts_at.Goals as goal

pub all_group_facts-requires-clause-path : goal.all_group_facts-requires-clause-path
all_group_facts-requires-clause-path g c κs inside =
    c.in_ok-path.ensures.path ∙ ap (path c.args.view.now.version.now.graph) (sym c.in_ok-start_of.ensures.target)

pub returns : goal.returns
returns g c = record {
  time_is = refl;
  failure_is = c.in_ok-failure.ensures;
  groups_are = subst (λ (reply : ℕ). AreFactsOfGroups c.args.view.now.version.now.graph c.args.grouping.now reply c.args.time c.in_ok-groups.groups.items) c.in_ok-start_of.ensures.target c.in_ok-groups.ensures;
}
