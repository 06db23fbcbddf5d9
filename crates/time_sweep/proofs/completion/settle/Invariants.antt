use Rattle.std.proofs.Common.{◌≡◌, ◌+◌, ◌-◌, length}
use Rattle.std.specs.Prelude.{is_some}
use Rattle.stage_graph.specs.Walk.{rank}
use Rattle.stage_ops.specs.Java.{java_step}
use Rattle.rank_order.specs.Marks.{AreMarks, is_marked}
use Rattle.time_sweep.specs.Changed.{changed_places, state_in}
use Rattle.time_sweep.specs.Known.{rank_in}
use Rattle.time_sweep.specs.WithStage.{is_changed, with_stages}
use Rattle.time_sweep.proofs.Settling.{IsCalm, IsSettling}
use Rattle.time_sweep.proofs.completion.settle.Given as goal

abbrev pub invariant-loop-place : goal.invariant-loop-place
invariant-loop-place g l =
    let graph = l.version.graph in
    record {
      settling : IsSettling (java_step graph.mode) graph.places (with_stages graph l.changed).places (λ s. is_some (rank_in l.ranks s)) (changed_places l.changes.list.items)
          (is_marked (rank graph.places) l.marks) (state_in l.before l.changes.at.items l.changes.list.items);
      calm : IsCalm (java_step graph.mode) graph.places (is_changed l.changed) (λ s. is_some (rank_in l.ranks s)) (changed_places l.changes.list.items)
          (is_marked (rank graph.places) l.marks) (state_in l.before l.changes.at.items l.changes.list.items);
      marks : AreMarks (rank graph.places) l.marks;
      each : length l.changes.at.items ≡ length graph.places;
      counted : l.meter ≡ l.fn.meter + length l.changes.list.items;
    }

-- each turn computes one more place
abbrev pub decreases-loop-place : goal.decreases-loop-place
decreases-loop-place g l = length l.version.graph.places - length l.changes.list.items
