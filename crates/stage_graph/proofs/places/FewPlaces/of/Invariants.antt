use Rattle.std.proofs.Common.{◌≡◌, take}
use Rattle.stage_graph.proofs.places.FewPlaces.of.Given as goal

abbrev pub invariant-loop-place : goal.invariant-loop-place
invariant-loop-place l = l.few ≡ take l.place-index l.places
