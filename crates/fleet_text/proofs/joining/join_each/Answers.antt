use Rattle.fleet_text.proofs.Joins.{AreJoined-all, AreJoined-more, AreJoined-none}
use Rattle.fleet_text.proofs.joining.join_each.Goals as goal

pub loop-part-init : goal.loop-part-init
loop-part-init c = record {
  sound = c.in_ok-absorb.ensures.sound;
  joined = AreJoined-none c.new-joined.result c.args.first.now c.absorb.new.self c.args.parts.now c.new-joined.ensures.none c.in_ok-absorb.ensures.joined;
}

pub loop-part-preserved : goal.loop-part-preserved
loop-part-preserved c = record {
  sound = c.in_ok-absorb-2.ensures.sound;
  joined = AreJoined-more c.args.first.now c.loop-part.joined c.absorb-in-loop-part.new.self c.args.parts.now c.loop-part.part-index c.part-item.result c.loop-part-test.true c.part-item.is c.loop-part.invariant.joined c.in_ok-absorb-2.ensures.joined;
}

pub returns-clause-joined : goal.returns-clause-joined
returns-clause-joined c = AreJoined-all c.args.first.now c.loop-part.joined c.args.parts.now c.loop-part.part-index c.loop-part-test.false c.loop-part.invariant.joined
