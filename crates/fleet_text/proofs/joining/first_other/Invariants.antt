use Rattle.std.proofs.Common.{◌≡◌}
use Rattle.std.specs.List.{AllWithin}
use Rattle.fleet_text.specs.Parts.{basis_of}
use Rattle.fleet_text.proofs.joining.first_other.Given as goal

abbrev pub invariant-loop-index : goal.invariant-loop-index
invariant-loop-index l = AllWithin (λ part. basis_of part ≡ l.basis) l.parts 0 l.index
