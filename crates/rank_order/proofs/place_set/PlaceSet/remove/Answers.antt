use Rattle.std.proofs.Common.{rules}
use Rattle.rank_order.proofs.PlaceSets.{removed_at}
use Rattle.rank_order.proofs.place_set.PlaceSet.remove.Goals as goal

pub returns-then-at-len : goal.returns-then-at-len
returns-then-at-len c = λ other.
    removed_at c.self.inside.words.items c.args.self.now c.word_of-at.result c.index_mut.result.now c.args.place other c.word_of-at.ensures c.self.view_is c.index_mut.ensures.value (search rules)
