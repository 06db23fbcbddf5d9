use Rattle.std.proofs.Common.{◌≡◌, ◌+◌, ◌-◌, length, vec_len}
use Rattle.stage_graph.specs.Walk.{rank}
use Rattle.stage_ops.specs.States.{state_at}
use Rattle.rank_order.specs.Lists.{is_among}
use Rattle.rank_order.specs.Marks.{AreMarks, is_marked}
use Rattle.propagate.proofs.Steps.{IsProgress}
use Rattle.propagate.proofs.spread.propagate_change.Given as goal

abbrev pub invariant-loop-alloc : goal.invariant-loop-alloc
invariant-loop-alloc g l =
    let stages = l.graph.places in
    record {
      progress : IsProgress (g.O.StageOps.step l.ops l.graph.mode) l.old.places stages (λ place. is_among place l.edited) l.touched.items (is_marked (rank stages) l.marks) (state_at l.states);
      marks : AreMarks (rank stages) l.marks;
      count : length l.states ≡ length stages;
      counted : l.meter ≡ l.fn.meter + vec_len l.touched;
    }

-- each turn computes some more places
abbrev pub decreases-loop-alloc : goal.decreases-loop-alloc
decreases-loop-alloc g l = length l.graph.places - vec_len l.touched
