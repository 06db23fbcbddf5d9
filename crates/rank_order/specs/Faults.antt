-- The numbers of faults.
use Rattle.std.specs.Prelude.{ℕ}
use Rattle.rank_order.specs.declared.fault.PatchFault.{PatchFault}
use Rattle.rank_order.specs.declared.fault.PatchFault.TheVariants.{Cycle, Memory}

abbrev pub patch_number : PatchFault → ℕ
patch_number (Cycle path) = 19
patch_number Memory = 90
