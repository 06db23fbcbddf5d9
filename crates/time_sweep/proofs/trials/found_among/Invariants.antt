use Rattle.std.proofs.Common.{◌≡◌, take}
use Rattle.std.specs.Prelude.{All, IsOk}
use Rattle.std.specs.List.{flat_map}
use Rattle.time_sweep.specs.Tried.{trials_in}
use Rattle.time_sweep.proofs.trials.found_among.Given as goal

abbrev pub invariant-loop-one : goal.invariant-loop-one
invariant-loop-one l = record {
  found : l.found.items ≡ flat_map trials_in (take l.one-index l.tried);
  all : All (λ one. IsOk one) (take l.one-index l.tried);
}
