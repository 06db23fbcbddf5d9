use Rattle.std.proofs.Common.{◌≡◌, length}
use Rattle.time_sweep.proofs.Stands.{AreFirst}
use Rattle.time_sweep.proofs.standing.standing_of.Given as goal

abbrev pub invariant-loop-place : goal.invariant-loop-place
invariant-loop-place g l = record {
  count : length l.standing.items ≡ l.place;
  first : AreFirst l.version.graph.places l.ranks l.place l.standing.items;
}
