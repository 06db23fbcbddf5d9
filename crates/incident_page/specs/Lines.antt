-- Lines as the members of an array.
use Rattle.std.specs.Prelude.{ℕ, Bool, true, false, not, ◌&&◌, List, [], ◌∷◌, ◌++◌, codes, nat_eq, if◌then◌else◌}

abbrev pub is_end : List ℕ → Bool
is_end [] = true
is_end (byte ∷ rest) = false

-- a byte, with a comma behind the end of a line that is not the last one
abbrev pub separated_byte : ℕ → Bool → List ℕ
separated_byte byte is_last = if nat_eq byte 10 && not is_last then codes "\n," else byte ∷ []

-- the lines, with a comma before each but the first
abbrev pub separated : List ℕ → List ℕ
separated [] = []
separated (byte ∷ rest) = separated_byte byte (is_end rest) ++ separated rest
