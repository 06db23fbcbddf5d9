use Rattle.std.proofs.Common.{◌≡◌, take}
use Rattle.stage_graph.proofs.graph.Graph.same_places.Given as goal

-- the places so far are the same
abbrev pub invariant-loop-place : goal.invariant-loop-place
invariant-loop-place g l = take l.place l.self.places ≡ take l.place l.other.places
