use Rattle.std.proofs.Common.{length}
use Rattle.failure_origins.specs.Lists.{is_reached_by, AreLists}
use Rattle.failure_origins.proofs.lists.reached_lists.Given as goal

abbrev pub invariant-loop-place : goal.invariant-loop-place
invariant-loop-place l = AreLists (is_reached_by l.origins) l.place (length l.origins) l.reached.items
