-- What is kept for places.
use Rattle.std.specs.Prelude.{ℕ, List, Option, Some, None, slice_set}

-- with a value at a place, if one is told
abbrev pub set_for : {A : Type 0} → List A → Option ℕ → A → List A
set_for values None value = values
set_for values (Some place) value = slice_set values place value
