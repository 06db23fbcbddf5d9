use Rattle.fleet_summary.specs.Counters.{IsSound}
use Rattle.fleet_text.proofs.Joins.{AreJoined}
use Rattle.fleet_text.proofs.joining.join_each.Given as goal

abbrev pub invariant-loop-part : goal.invariant-loop-part
invariant-loop-part l = record {
  sound : IsSound l.joined;
  joined : AreJoined l.first l.parts l.joined l.part-index;
}
