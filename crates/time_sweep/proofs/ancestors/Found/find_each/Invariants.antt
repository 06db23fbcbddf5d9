use Rattle.std.proofs.Common.{take}
use Rattle.std.specs.Prelude.{All}
use Rattle.time_sweep.specs.Known.{IsFinding, IsFurther, IsKnown}
use Rattle.time_sweep.specs.Waits.{IsOnly}
use Rattle.time_sweep.proofs.ancestors.Found.find_each.Given as goal

abbrev pub invariant-loop-place : goal.invariant-loop-place
invariant-loop-place g l = record {
  finding : IsFinding l.version.graph.places l.self.ranks.items;
  further : IsFurther l.fn.self.ranks.items l.fn.self.waiting.items l.self.ranks.items l.self.waiting.items;
  only : IsOnly l.fn.self.ranks.items l.fn.self.waiting.items l.self.ranks.items l.self.waiting.items l.places;
  known : All (IsKnown l.self.ranks.items) (take l.place-index l.places);
}
