use Rattle.std.proofs.Common.{ap, length, arith}
use Rattle.rank_order.proofs.PlaceSets.{grown_any}
use Rattle.rank_order.proofs.place_set.PlaceSet.grow.Goals as goal

pub returns-clause-same : goal.returns-clause-same
returns-clause-same c = λ other.
    grown_any c.self.inside.words.items c.args.self.now c.resize.new.self.items _ _ _ other c.self.view_is
    (omega (arith, c.requires, ap length c.self.view_is, c.word_of.ensures, c.next_power_of_two-words.ensures.lower_bound)) c.resize.ensures.items
