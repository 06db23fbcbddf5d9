use Rattle.std.proofs.Common.{◌≡◌, ◌+◌}
use Rattle.desk.specs.Clients.{AreNew}
use Rattle.desk.proofs.starting.make_clients.Given as goal

abbrev pub invariant-loop-index : goal.invariant-loop-index
invariant-loop-index g l = (l.rest.parts + l.index ≡ l.count) × (l.rest.amount ≡ 0) × AreNew l.front l.index l.clients.items
