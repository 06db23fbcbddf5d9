-- The rule of the archive, and the result of a step on it.
use Rattle.std.specs.Prelude.{ℕ, ◌≡◌, ◌==◌, true, List, [], ◌∷◌, ◌++◌, length, MatchBool}
use Rattle.logbook.specs.Pages.{Cell, Step, View, Book, Named}
use Rattle.version_store.specs.Plain.{PlainVersion}

-- the first word is the length of the list. A book has two words, of which this one leaves the second at 0
pub record IsCounted (cells : List Cell) (log : List PlainVersion) : Type 0 where
  pub words : cells ≡ (length log, true) ∷ (0, true) ∷ []

abbrev pub head_of : Book → Named
head_of b = record { tracked = true; key = 0; book = b }

-- the version was added to all that had been seen; or the list was of another length, and was seen
abbrev pub Adds : Step PlainVersion → View PlainVersion ℕ → ℕ → View PlainVersion ℕ → Type 0
Adds s v found w = MatchBool (found == s.old) (w.0 ≡ v.0 ++ s.ask ∷ []) (length w.0 ≡ found)
