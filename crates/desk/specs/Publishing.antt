-- The number that the next publication shows.
use Rattle.std.specs.Prelude.{◌≡◌, ℕ, List, fold}

-- whatever is shown now, once what is pending is applied this number is shown: the last one that was appended
abbrev pub WillShow : List ℕ → ℕ → Type 0
WillShow pending count = (now : ℕ) → fold (λ old new. new) now pending ≡ count
