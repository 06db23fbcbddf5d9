use Rattle.std.proofs.Common.{◌≡◌, map}
use Rattle.std.specs.Prelude.{filter}
use Rattle.std.specs.List.{range_with_len}
use Rattle.failure_origins.specs.Lists.{failure_by}
use Rattle.failure_origins.specs.Origins.{comes_from}
use Rattle.failure_origins.proofs.Telling.{AreLeft}
use Rattle.failure_origins.proofs.gathering.with_lists.Given as goal

abbrev pub invariant-loop-origin : goal.invariant-loop-origin
invariant-loop-origin l = record {
  found : l.found.items ≡ map (failure_by l.fn.reached.items l.fn.handled.items) (filter (λ place. comes_from l.origins place place) (range_with_len 0 l.origin));
  reached : AreLeft l.origin l.fn.reached.items l.reached.items;
  handled : AreLeft l.origin l.fn.handled.items l.handled.items;
}
