use Rattle.std.proofs.Common.{◌≡◌, ℕ, ◌||◌, take}
use Rattle.stage_graph.specs.Walk.{rank}
use Rattle.stage_ops.specs.States.{state_at}
use Rattle.rank_order.specs.Marks.{AreMarks, is_marked}
use Rattle.propagate.specs.Reach.{has_read}
use Rattle.propagate.proofs.Reading.{among_readers}
use Rattle.propagate.proofs.readers.mark_readers.Given as goal

-- the marks from before, and the readers among the dependents so far
abbrev pub invariant-loop-dependent : goal.invariant-loop-dependent
invariant-loop-dependent g l =
    let stages = l.graph.places in
    record {
      marked : (place : ℕ) → is_marked (rank stages) l.marks place ≡ (is_marked (rank stages) l.fn.marks place || among_readers (has_read stages (state_at l.states) l.feed) (take l.dependent-index l.listed) place);
      marks : AreMarks (rank stages) l.marks;
    }
