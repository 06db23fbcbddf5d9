use Rattle.std.proofs.Common.{◌+◌, length, drop, subst, slice_index}
use Rattle.std.proofs.lemmas.List.{take_rest}
use Rattle.rank_order.specs.Ranking.{feeds_left, AreRanks}
use Rattle.rank_order.proofs.Listed.{ranks_listed}
use Rattle.rank_order.proofs.Falling.{ranked_from_ranks, ranks_are, ranks_small}
use Rattle.rank_order.proofs.PutBack.{put_next, all_back, left_dependent}
use Rattle.rank_order.proofs.settle.patched_ranks.Goals as goal

pub loop-turn-preserved : goal.loop-turn-preserved
loop-turn-preserved g c =
    let places = c.args.graph.now.places in
    let moved = c.args.moved.now in
    let turn = c.loop-turn.turn in
    let ranks = slice_index (g.K.Keeps.items c.in-Ok-settled.ranks) in
    let right : AreRanks (feeds_left c.args.graph.now.places (drop (c.loop-turn.turn + 1) c.args.moved.now)) (slice_index (g.K.Keeps.items c.in-Ok-settled.ranks)) =
    subst (λ xs. AreRanks (feeds_left places xs) ranks) (take_rest moved (turn + 1)) c.in-Ok-settled.ensures.right in
    record {
      right = put_next places moved (turn + 1) ranks right;
      long = c.in-Ok-settled.ensures.long;
      small = ranks_small (feeds_left places (drop (turn + 1) moved)) (length places) (left_dependent places (drop (turn + 1) moved)) ranks right;
    }

pub returns-clause-ranked : goal.returns-clause-ranked
returns-clause-ranked g c =
    let places = c.args.graph.now.places in
    let ranks = slice_index (g.K.Keeps.items c.loop-turn.ranks) in
    ranked_from_ranks places ranks (all_back places c.args.moved.now c.loop-turn.turn ranks c.loop-turn-test.false c.loop-turn.invariant.right)

pub returns-clause-ranks : goal.returns-clause-ranks
returns-clause-ranks g c =
    let places = c.args.graph.now.places in
    let ranks = slice_index (g.K.Keeps.items c.loop-turn.ranks) in
    ranks_listed places (g.K.Keeps.items c.loop-turn.ranks) c.loop-turn.invariant.long
    (ranks_are places ranks (all_back places c.args.moved.now c.loop-turn.turn ranks c.loop-turn-test.false c.loop-turn.invariant.right))
