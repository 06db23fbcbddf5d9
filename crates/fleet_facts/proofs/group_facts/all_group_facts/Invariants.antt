use Rattle.std.proofs.Common.{◌≡◌, length}
use Rattle.fleet_facts.proofs.Gathering.{AreFirstFacts}
use Rattle.fleet_facts.proofs.group_facts.all_group_facts.Given as goal

abbrev pub invariant-loop-number : goal.invariant-loop-number
invariant-loop-number g l = record {
  facts : AreFirstFacts l.version.graph l.grouping l.reply.start.target l.reply.time l.number l.facts.items;
  room : length l.room.at.items ≡ length l.reply.start.before.items;
}
