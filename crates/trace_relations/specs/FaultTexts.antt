-- The texts by which faults are printed.
use Rattle.std.specs.Prelude.{ℕ, List, ◌++◌, codes}
use Rattle.trace_relations.specs.declared.fault.RelationsFault.{RelationsFault}
use Rattle.trace_relations.specs.declared.fault.RelationsFault.TheVariants.{NoTime, TooLate, TooManyStages, Memory}

-- the span is named, where there is one
abbrev pub fault_text : RelationsFault → List ℕ
fault_text (NoTime span) = codes "refused 83 NoTime " ++ span.id
fault_text (TooLate late) = codes "refused 84 TooLate " ++ late.span.id
fault_text TooManyStages = codes "refused 85 TooManyStages"
fault_text Memory = codes "refused 90 Memory"
