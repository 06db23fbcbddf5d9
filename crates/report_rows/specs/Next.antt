-- The next of the rows that are left after so many of what they are made of.
use Rattle.std.specs.Prelude.{◌≡◌, ℕ, List, [], ◌∷◌, Option, MatchOption}
use Rattle.report_rows.specs.declared.row.Row.{Row}

-- it is the first one, if there is one; the numbers are how many of what they are made of were done with before, and are after it
abbrev pub IsNext : (ℕ → List Row) → ℕ → ℕ → Option Row → Type 0
IsNext rows before after next = MatchOption next ((rows before ≡ []) × (rows after ≡ [])) (λ row. rows before ≡ row ∷ rows after)
