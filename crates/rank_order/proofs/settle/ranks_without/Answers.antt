use Rattle.std.proofs.Common.{length, slice_index}
use Rattle.rank_order.proofs.PutBack.{taken_out, left_dependent}
use Rattle.rank_order.proofs.Falling.{ranks_small}
use Rattle.rank_order.specs.Ranking.{feeds_left}
use Rattle.rank_order.proofs.settle.ranks_without.Goals as goal

pub settled-requires-clause-right : goal.settled-requires-clause-right
settled-requires-clause-right g c κs inside = taken_out c.args.graph.now.places c.args.moved.now (slice_index (g.K.Keeps.items c.args.before.now)) c.requires.right

pub returns-in-Ok-clause-small : goal.returns-in-Ok-clause-small
returns-in-Ok-clause-small g c =
    ranks_small (feeds_left c.args.graph.now.places c.args.moved.now) (length c.args.graph.now.places) (left_dependent c.args.graph.now.places c.args.moved.now) (slice_index (g.K.Keeps.items c.in-Ok.ranks)) c.in-Ok.ensures.right
