-- Steps that may fail, one after the other.
use Rattle.std.specs.Prelude.{Result, Ok, Err}

-- the next step with the value, or the fault
abbrev pub then_on : {A B E : Type 0} → Result A E → (A → Result B E) → Result B E
then_on (Ok value) next = next value
then_on (Err fault) next = Err fault
