-- How many of a list are told.
use Rattle.std.specs.Prelude.{ℕ, List, Option, None, Some, take}

-- the first ones, up to this many, or all
abbrev pub first_of : {A : Type 0} → Option ℕ → List A → List A
first_of None all = all
first_of (Some most) all = take most all
