use Rattle.std.proofs.Common.{◌≡◌, ℕ, ◌||◌, ◌&&◌, take}
use Rattle.std.specs.Prelude.{is_some}
use Rattle.stage_graph.specs.Walk.{rank}
use Rattle.stage_ops.specs.States.{state_at}
use Rattle.rank_order.specs.Marks.{AreMarks, is_marked}
use Rattle.propagate.specs.Reach.{has_read}
use Rattle.propagate.proofs.Reading.{among_readers}
use Rattle.time_sweep.specs.Known.{rank_in}
use Rattle.time_sweep.proofs.completion.tell.Given as goal

-- the marks from before, and of the dependents so far those that have read the place, as far as the target can wait for them
abbrev pub invariant-loop-dependent : goal.invariant-loop-dependent
invariant-loop-dependent g l =
    let stages = l.version.graph.places in
    let order = rank stages in
    record {
      marked : (other : ℕ) → is_marked order l.marks other
          ≡ (is_marked order l.fn.marks other || among_readers (λ s. is_some (rank_in l.ranks s) && has_read stages (state_at l.before) l.place s) (take l.dependent-index l.dependents) other);
      marks : AreMarks order l.marks;
    }
