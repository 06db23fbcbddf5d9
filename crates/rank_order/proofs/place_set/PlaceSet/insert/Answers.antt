use Rattle.std.proofs.Common.{rules}
use Rattle.rank_order.proofs.PlaceSets.{inserted_at}
use Rattle.rank_order.proofs.place_set.PlaceSet.insert.Goals as goal

pub returns : goal.returns
returns c = λ other.
    inserted_at c.self.inside.words.items c.args.self.now c.word_of.result c.index_mut.result.now c.args.place other c.word_of.ensures c.self.view_is c.index_mut.ensures.value (search rules)
