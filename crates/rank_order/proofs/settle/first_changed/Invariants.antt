use Rattle.std.proofs.Common.{◌≡◌, take, slice_index}
use Rattle.std.specs.Prelude.{All}
use Rattle.rank_order.proofs.settle.first_changed.Given as goal

abbrev pub invariant-loop-place : goal.invariant-loop-place
invariant-loop-place g l = All (λ place. slice_index (g.K.Keeps.items l.ranks) place ≡ slice_index (g.K.Keeps.items l.before) place) (take l.place-index l.places)
