-- What the reply of a trace came to.
use Rattle.std.specs.Prelude.{ℕ, ◌≡◌}
use Rattle.stage_graph.specs.Plain.{PlainGraph}
use Rattle.fleet_summary.specs.declared.facts.TraceFacts.{TraceFacts}
use Rattle.span_groups.specs.declared.grouping.Grouping.{Grouping}
use Rattle.fleet_facts.specs.Failing.{failure_at}
use Rattle.fleet_facts.specs.GroupFacts.{AreFactsOfGroups}

-- The reply came at a tick, maybe with a failure; and each group had this to do with it.
pub record AreFactsOf (graph : PlainGraph) (grouping : Grouping) (reply time : ℕ) (facts : TraceFacts) : Type 0 where
  pub time_is : facts.time ≡ time
  pub failure_is : facts.failure ≡ failure_at graph grouping reply
  pub groups_are : AreFactsOfGroups graph grouping reply time facts.groups.items
