-- What it means to read a trace or a part of one. Out of memory may stand in place of any answer.
use Rattle.std.specs.Prelude.{◌≡◌, Result, Ok, Err}
use Rattle.trace_spans.specs.declared.fault.Fault.{Fault}
use Rattle.trace_spans.specs.declared.fault.Fault.TheVariants.{Memory}

-- the fault is the one that the definition says
abbrev pub IsFault : {S : Type 0} → Fault → Result S Fault → Type 0
IsFault Memory meant = Unit {0}
IsFault fault meant = meant ≡ Err fault

-- the result is what the definition says, seen by f: the value or the fault
abbrev pub IsReadAs : {T S : Type 0} → (T → S) → Result T Fault → Result S Fault → Type 0
IsReadAs f (Ok x) meant = meant ≡ Ok (f x)
IsReadAs f (Err fault) meant = IsFault fault meant

-- the same, of the value itself
abbrev pub IsRead : {T : Type 0} → Result T Fault → Result T Fault → Type 0
IsRead r meant = IsReadAs (λ x. x) r meant
