-- What the reply of a trace comes to after a change of a group.
use Rattle.std.specs.Prelude.{ℕ, ◌≡◌, [], Option, Some, None, Result, Ok, Err}
use Rattle.stage_graph.specs.Plain.{PlainGraph}
use Rattle.stage_ops.specs.declared.state.Done.{Done}
use Rattle.change_words.specs.declared.change.Change.{Change}
use Rattle.change_words.specs.declared.fault.MakingFault.{MakingFault}
use Rattle.change_words.specs.declared.fault.MakingFault.TheVariants.{Memory}
use Rattle.fleet_summary.specs.declared.facts.TraceFacts.{TraceFacts}
use Rattle.time_sweep.specs.Sweep.{completion_of}
use Rattle.span_groups.specs.declared.grouping.Grouping.{Grouping}
use Rattle.fleet_facts.specs.Failing.{failure_at}
use Rattle.tried_changes.specs.InTurn.{made_in_turn}
use Rattle.fleet_tries.specs.Changes.{changes_of}

-- as it came, with no group
pub record IsAsBefore (facts after : TraceFacts) : Type 0 where
  pub time : after.time ≡ facts.time
  pub failure : after.failure ≡ facts.failure
  pub groups : after.groups.items ≡ []

-- a reply that came at a tick, with what it failed by, and no group
pub record Came (graph : PlainGraph) (grouping : Grouping) (reply time : ℕ) (after : TraceFacts) : Type 0 where
  pub time_is : after.time ≡ time
  pub failure : after.failure ≡ failure_at graph grouping reply
  pub groups : after.groups.items ≡ []

abbrev pub IsBy : PlainGraph → Grouping → ℕ → TraceFacts → Option Done → TraceFacts → Type 0
IsBy graph grouping reply facts None after = IsAsBefore facts after
IsBy graph grouping reply facts (Some done) after = Came graph grouping reply done.moment after

-- what it comes to in a graph; as it was where it never comes there
abbrev pub AreFactsAfter : PlainGraph → Grouping → ℕ → TraceFacts → TraceFacts → Type 0
AreFactsAfter graph grouping reply facts after = IsBy graph grouping reply facts (completion_of graph reply) after

-- the graph that a change of a group makes of a trace's: each of its changes of stages made of it as the former ones leave it
abbrev pub made_of : PlainGraph → Grouping → Change → Result PlainGraph MakingFault
made_of graph grouping change = made_in_turn (changes_of graph grouping change) graph

-- what it comes to in that graph; or why that isn't made, or memory is out
abbrev pub AreTriedFacts : PlainGraph → Grouping → ℕ → TraceFacts → Change → Result TraceFacts MakingFault → Type 0
AreTriedFacts graph grouping reply facts change (Ok after) = (made : PlainGraph) × (made_of graph grouping change ≡ Ok made) × AreFactsAfter made grouping reply facts after
AreTriedFacts graph grouping reply facts change (Err Memory) = Unit {0}
AreTriedFacts graph grouping reply facts change (Err fault) = made_of graph grouping change ≡ Err fault
