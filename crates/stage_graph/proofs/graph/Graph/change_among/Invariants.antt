use Rattle.std.proofs.Common.{◌≡◌, drop, take}
use Rattle.stage_graph.specs.Changes.{changed_from}
use Rattle.stage_graph.specs.Kept.{IsChangeBy}
use Rattle.stage_graph.proofs.graph.Graph.change_among.Given as goal

-- what the list makes is what the edits that are left make, and the edits so far have kept what they should
abbrev pub invariant-loop-at : goal.invariant-loop-at
invariant-loop-at g l = record {
  left : changed_from 0 l.edits l.fn.self ≡ changed_from l.at (drop l.at l.edits) l.graph;
  kept : IsChangeBy (take l.at l.edits) l.fn.self l.graph;
}
