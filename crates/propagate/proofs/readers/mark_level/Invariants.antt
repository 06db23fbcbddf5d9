use Rattle.std.proofs.Common.{◌≡◌, ℕ, ◌||◌, take}
use Rattle.std.specs.Prelude.{Some, map}
use Rattle.std.specs.List.{list_any}
use Rattle.stage_graph.specs.Walk.{rank}
use Rattle.stage_ops.specs.declared.state.State.{State}
use Rattle.stage_ops.specs.States.{state_at}
use Rattle.rank_order.specs.Marks.{AreMarks, is_marked}
use Rattle.propagate.specs.Reach.{is_told}
use Rattle.propagate.proofs.readers.mark_level.Given as goal

-- the marks from before, and the readers of the places so far that changed
abbrev pub invariant-loop-at : goal.invariant-loop-at
invariant-loop-at g l =
    let stages = l.graph.places in
    record {
      marked : (state : ℕ → State) → l.results ≡ map (λ place. Some (state place)) l.level → (place : ℕ)
          → is_marked (rank stages) l.marks place ≡ (is_marked (rank stages) l.fn.marks place || list_any (is_told stages (state_at l.states) state place) (take l.at l.level));
      marks : AreMarks (rank stages) l.marks;
    }
