-- What it means to read a recording, a step or a part of them. Out of memory may take the place of any answer.
use Rattle.std.specs.Prelude.{◌≡◌, Option, Some, None, Result, Ok, Err}
use Rattle.stage_graph.specs.Plain.{PlainGraph}
use Rattle.stage_graph.specs.Order.{IsClosedWalk}
use Rattle.stage_graph.specs.Walk.{IsRanked}
use Rattle.recording.specs.declared.unread.Unread.{Unread}
use Rattle.recording.specs.declared.unread.Unread.TheVariants as unread
use Rattle.recording.specs.declared.fault.Fault.{Fault}
use Rattle.recording.specs.declared.fault.Fault.TheVariants.{Refused, Cycle, Memory}

-- the result is what the definition finds: a value, or a fault of shape exactly where it finds none
abbrev pub Reads : {T : Type 0} → Result T Unread → Option T → Type 0
Reads (Ok x) found = found ≡ Some x
Reads (Err unread.Shape) found = found ≡ None
Reads (Err unread.Memory) found = Unit {0}

-- the result is what the definition says, seen by f: the value, or a fault that is not one of the graph
abbrev pub IsReadAs : {T S : Type 0} → (T → S) → Result T Fault → Result S Fault → Type 0
IsReadAs f (Ok x) meant = meant ≡ Ok (f x)
IsReadAs f (Err (Refused refused)) meant = ⊥
IsReadAs f (Err (Cycle path)) meant = ⊥
IsReadAs f (Err Memory) meant = Unit {0}
IsReadAs f (Err fault) meant = meant ≡ Err fault

-- the same, for the value itself
abbrev pub IsRead : {T : Type 0} → Result T Fault → Result T Fault → Type 0
IsRead r meant = IsReadAs (λ x. x) r meant

-- the result is the expected graph if it has no cycle, and else a closed walk of it; or the expected fault
abbrev pub IsNamed : Result PlainGraph Fault → Result PlainGraph Fault → Type 0
IsNamed (Ok graph) meant = (meant ≡ Ok graph) × IsRanked graph.places
IsNamed (Err (Cycle path)) meant = (graph : PlainGraph) × (meant ≡ Ok graph) × IsClosedWalk graph.places path
IsNamed (Err Memory) meant = Unit {0}
IsNamed (Err fault) meant = meant ≡ Err fault
