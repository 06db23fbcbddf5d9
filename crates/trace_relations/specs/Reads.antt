-- What it means to tell what a definition says. Out of memory may stand in place of any answer.
use Rattle.std.specs.Prelude.{◌≡◌, Result, Ok, Err}
use Rattle.trace_relations.specs.declared.fault.RelationsFault.{RelationsFault}
use Rattle.trace_relations.specs.declared.fault.RelationsFault.TheVariants.{Memory}

-- the fault is the one that the definition says
abbrev pub IsFault : {S : Type 0} → RelationsFault → Result S RelationsFault → Type 0
IsFault Memory meant = Unit {0}
IsFault fault meant = meant ≡ Err fault

-- the result is what the definition says, seen by f: the value or the fault
abbrev pub IsToldAs : {T S : Type 0} → (T → S) → Result T RelationsFault → Result S RelationsFault → Type 0
IsToldAs f (Ok x) meant = meant ≡ Ok (f x)
IsToldAs f (Err fault) meant = IsFault fault meant
