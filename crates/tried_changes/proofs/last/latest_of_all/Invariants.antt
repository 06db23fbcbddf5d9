use Rattle.std.proofs.Common.{◌≡◌}
use Rattle.tried_changes.specs.Last.{final_moment, latest_below}
use Rattle.tried_changes.proofs.last.latest_of_all.Given as goal

-- the latest of the places so far
abbrev pub invariant-loop-place : goal.invariant-loop-place
invariant-loop-place g l = l.latest ≡ latest_below (final_moment l.version.graph) l.place
