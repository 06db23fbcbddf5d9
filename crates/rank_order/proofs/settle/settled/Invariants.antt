use Rattle.std.proofs.Common.{◌≡◌, length, slice_index}
use Rattle.rank_order.specs.Marks.{is_marked, AreMarks}
use Rattle.rank_order.specs.Ranking.{feeds_left}
use Rattle.rank_order.proofs.Settling.{IsSettlingAfter}
use Rattle.rank_order.proofs.settle.settled.Given as goal

abbrev pub invariant-loop-turn : goal.invariant-loop-turn
invariant-loop-turn g l =
    let before = slice_index (g.K.Keeps.items l.before) in
    let count = length l.graph.places in
    record {
      after : IsSettlingAfter (feeds_left l.graph.places l.out) count l.moved before l._turn (is_marked before l.marks) (slice_index (g.K.Keeps.items l.ranks));
      marks : AreMarks before l.marks;
      long : length (g.K.Keeps.items l.ranks) ≡ count;
    }
