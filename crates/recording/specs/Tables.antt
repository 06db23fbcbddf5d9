-- Look-up in tables of texts.
use Rattle.std.specs.Prelude.{ℕ, List, [], ◌∷◌, if◌then◌else◌, Option, Some, None}
use Rattle.std.specs.Str.{bytes_eq}

-- the entry of a text in a table
abbrev pub beside : {A : Type 0} → List (List ℕ × A) → List ℕ → Option A
beside [] text = None
beside (row ∷ rows) text = if bytes_eq text row.0 then Some row.1 else beside rows text
