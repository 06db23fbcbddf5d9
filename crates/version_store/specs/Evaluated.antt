-- What is kept beside a graph: its order and its states.
use Rattle.std.specs.Prelude.{◌≡◌, List}
use Rattle.stage_graph.specs.Plain.{PlainGraph}
use Rattle.stage_graph.specs.Walk.{IsRanked}
use Rattle.stage_ops.specs.declared.state.State.{State}
use Rattle.stage_ops.specs.Java.{java_step}
use Rattle.rank_order.specs.Orders.{PlainOrder}
use Rattle.propagate.specs.Reach.{AreStates}

-- the graph has no cycle, the order is its own, and the states are those of its evaluation from scratch
pub record IsEvaluated (graph : PlainGraph) (order : PlainOrder) (states : List State) : Type 0 where
  pub ranked : IsRanked graph.places
  pub ordered : order.graph ≡ graph
  pub evaluated : AreStates (java_step graph.mode) graph.places states
