-- How a name stands in a line: as it is, or as a JSON string where it has to be told where it ends.
use Rattle.std.specs.Prelude.{ℕ, Bool, false, ◌&&◌, not, nat_lt, ◌==◌, if◌then◌else◌, List, [], ◌∷◌}
use Rattle.std.specs.List.{list_all}
use Rattle.serde_json.specs.Data.{string}
use Rattle.serde_json.specs.Written.{compact_text}

-- neither a blank nor a sign that no one sees, and no quote
abbrev pub is_plain_byte : ℕ → Bool
is_plain_byte byte = nat_lt 32 byte && not (byte == 34) && not (byte == 127)

-- there is a byte, and each is such a one
abbrev pub is_plain : List ℕ → Bool
is_plain [] = false
is_plain (byte ∷ bytes) = list_all is_plain_byte (byte ∷ bytes)

abbrev pub name_text : List ℕ → List ℕ
name_text name = if is_plain name then name else compact_text (string name)
