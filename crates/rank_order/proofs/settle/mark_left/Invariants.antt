use Rattle.std.proofs.Common.{◌≡◌, ℕ, ◌&&◌, ◌||◌, not, take, slice_index}
use Rattle.rank_order.specs.Lists.{is_among}
use Rattle.rank_order.specs.Marks.{is_marked, AreMarks}
use Rattle.rank_order.proofs.settle.mark_left.Given as goal

abbrev pub invariant-loop-place : goal.invariant-loop-place
invariant-loop-place g l =
    let before = slice_index (g.K.Keeps.items l.before) in
    record {
      marked : (place : ℕ) → is_marked before l.marks place ≡ (is_marked before l.fn.marks place || (is_among place (take l.place-index l.places) && not (is_among place l.out)));
      marks : AreMarks before l.marks;
    }
