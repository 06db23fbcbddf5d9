use Rattle.std.proofs.Common.{◌≡◌, ℕ, take}
use Rattle.std.specs.Prelude.{◌&&◌, is_some}
use Rattle.stage_graph.specs.Plain.{stage_at}
use Rattle.stage_graph.specs.Walk.{rank}
use Rattle.rank_order.specs.Lists.{is_among}
use Rattle.rank_order.specs.Marks.{AreMarks, is_marked}
use Rattle.propagate.proofs.readers.first_marks.Given as goal

-- the stages among the places so far
abbrev pub invariant-loop-place : goal.invariant-loop-place
invariant-loop-place g l =
    let stages = l.order.graph.places in
    record {
      marked : (place : ℕ) → is_marked (rank stages) l.marks place ≡ (is_some (stage_at stages place) && is_among place (take l.place-index l.edited));
      marks : AreMarks (rank stages) l.marks;
    }
