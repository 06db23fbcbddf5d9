-- Whether a refused step ends a script.
use Rattle.std.specs.Prelude.{ℕ, Bool, ◌&&◌, ◌||◌, ◌==◌, List, [], None, Some, Option, if◌then◌else◌}
use Rattle.console.specs.declared.step_telling.StepTeller.{StepTeller}

-- whether a refused step is to end it
abbrev pub may_stop : StepTeller → Bool
may_stop teller = teller.is_strict

-- whether one has ended it
abbrev pub has_stopped : StepTeller → Bool
has_stopped teller = teller.is_strict && teller.is_refused

-- what is left of a script of which these bytes are to come, by chunks of this length: nothing once a step has ended it;
-- unknown where a step may end it, or where a chunk has no room
abbrev pub unless_stopped : StepTeller → ℕ → Option (List ℕ) → Option (List ℕ)
unless_stopped teller room coming =
    if has_stopped teller then Some [] else (if may_stop teller || (room == 0) then None else coming)
