use Rattle.std.proofs.Common.{length, arith, rules}
use Rattle.std.specs.Option.{option_to_list}
use Rattle.trace_relations.proofs.Pairing.{all_said, among_more, no_pairs, pairs_more}
use Rattle.trace_relations.proofs.clocks.pairs_of.Goals as goal

pub loop-place-init : goal.loop-place-init
loop-place-init c = record { said = no_pairs c.args.spans.now c.new-pairs.result.items c.new-pairs.ensures.items; among = search rules }

pub loop-place-preserved : goal.loop-place-preserved
loop-place-preserved c = record {
  said = pairs_more c.args.spans.now c.loop-place.place c.loop-place.pairs.items c.push_pair.new.pairs.items (option_to_list c.pair_of-pair.result) (omega arith) c.pair_of-pair.ensures.said c.in_ok-push_pair.ensures c.loop-place.invariant.said;
  among = among_more (length c.args.spans.now) c.loop-place.pairs.items c.push_pair.new.pairs.items c.pair_of-pair.result c.in_ok-push_pair.ensures c.loop-place.invariant.among c.pair_of-pair.ensures.among;
}

pub returns-clause-said : goal.returns-clause-said
returns-clause-said c = all_said c.args.spans.now c.loop-place.pairs.items c.loop-place.place (omega arith) c.loop-place.invariant.said
