use Rattle.std.proofs.Common.{◌+◌, length}
use Rattle.std.specs.List.{sum_by}
use Rattle.time_sweep.specs.Known.{IsFinding, IsKnown, unknown}
use Rattle.time_sweep.specs.Waits.{AreWaitedFor}
use Rattle.time_sweep.proofs.Finding.{IsLooked}
use Rattle.time_sweep.proofs.ancestors.exact_ranks.Given as goal

abbrev pub invariant-loop-place : goal.invariant-loop-place
invariant-loop-place g l = record {
  finding : IsFinding l.version.graph.places l.found.ranks.items;
  own : IsKnown l.found.ranks.items l.target;
  looked : IsLooked l.version.graph.places l.found.ranks.items l.found.waiting.items;
  waited : AreWaitedFor l.version.graph.places l.target l.found.ranks.items l.found.waiting.items;
}

-- the places that are not found yet, or wait
abbrev pub decreases-loop-place : goal.decreases-loop-place
decreases-loop-place g l = sum_by unknown l.found.ranks.items + length l.found.waiting.items
