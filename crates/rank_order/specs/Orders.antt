-- The ranks of a graph's places, and the dependents of each.
use Rattle.std.specs.Prelude.{ℕ, ◌≡◌, List, map, Option, Some, None, Result, Ok, Err}
use Rattle.stage_graph.specs.declared.stage.Stage.{Stage}
use Rattle.stage_graph.specs.Plain.{PlainGraph, all_places, dependents}
use Rattle.stage_graph.specs.Walk.{rank, IsRanked}
use Rattle.stage_graph.specs.declared.fault.NoStage.{NoStage}

-- a graph, a rank for each of its places, and the places that depend on each
pub record PlainOrder : Type 0 where
  pub graph : PlainGraph
  pub ranks : List ℕ
  pub dependents : List (List ℕ)

abbrev pub order_of : PlainGraph → PlainOrder
order_of graph = record {
  graph = graph;
  ranks = map (rank graph.places) (all_places graph.places);
  dependents = map (dependents graph.places) (all_places graph.places);
}

-- the order of a ranked graph
pub record IsOrder (order : PlainOrder) : Type 0 where
  pub ranked : IsRanked order.graph.places
  pub whole : order ≡ order_of order.graph

-- the answer for a place with a stage
abbrev pub at_live : {A : Type 0} → Option Stage → A → Result A NoStage
at_live None answer = Err (record {})
at_live (Some stage) answer = Ok answer
