-- The numbers by which faults are printed.
use Rattle.std.specs.Prelude.{ℕ}
use Rattle.trace_relations.specs.declared.fault.RelationsFault.{RelationsFault}
use Rattle.trace_relations.specs.declared.fault.RelationsFault.TheVariants.{NoTime, TooLate, TooManyStages, Memory}

abbrev pub fault_number : RelationsFault → ℕ
fault_number (NoTime span) = 83
fault_number (TooLate span) = 84
fault_number TooManyStages = 85
fault_number Memory = 90
