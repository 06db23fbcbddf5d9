use Rattle.std.proofs.Common.{length}
use Rattle.failure_origins.specs.Lists.{handles_by, AreLists}
use Rattle.failure_origins.specs.Origins.{AreWithin}
use Rattle.failure_origins.proofs.lists.handled_lists.Given as goal

abbrev pub invariant-loop-place : goal.invariant-loop-place
invariant-loop-place g l = record {
  lists : AreLists (handles_by l.version.graph l.origins) l.place (length l.origins) l.handled.items;
  within : AreWithin l.origins (length l.handled.items);
}
