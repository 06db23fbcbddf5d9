-- The numbers of a run's refusals.
use Rattle.std.specs.Prelude.{ℕ}
use Rattle.level_pool.specs.declared.fault.PoolFault.{PoolFault}
use Rattle.level_pool.specs.declared.fault.PoolFault.TheVariants.{NoThread, Memory}

abbrev pub fault_number : PoolFault → ℕ
fault_number NoThread = 35
fault_number Memory = 90
