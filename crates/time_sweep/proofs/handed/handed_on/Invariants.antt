use Rattle.std.proofs.Common.{◌≡◌, length}
use Rattle.stage_graph.specs.Walk.{rank}
use Rattle.stage_ops.specs.Java.{java_step}
use Rattle.time_sweep.specs.HandedOn.{AreHandedOn, IsReached}
use Rattle.time_sweep.specs.Known.{IsKnown}
use Rattle.time_sweep.proofs.handed.handed_on.Given as goal

abbrev pub invariant-loop-last : goal.invariant-loop-last
invariant-loop-last g l =
    let graph = l.version.graph in
    record {
      known : IsKnown l.ranks l.place;
      count : length l.handed.items ≡ length graph.places;
      reached : IsReached (java_step graph.mode) graph.places l.ranks l.target l.place l.later;
      handed : AreHandedOn (java_step graph.mode) graph.places l.ranks l.target l.handed.items;
    }

-- each turn goes to a stage of a lower rank
abbrev pub decreases-loop-last : goal.decreases-loop-last
decreases-loop-last g l = rank l.version.graph.places l.place
