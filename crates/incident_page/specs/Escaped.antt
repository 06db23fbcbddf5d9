-- Text as it stands in the page, where it can't end the element that it stands in.
use Rattle.std.specs.Prelude.{◌≡◌, ℕ, Bool, false, ◌==◌, List, [], ◌∷◌, codes, if◌then◌else◌}
use Rattle.std.specs.List.{All, flat_map}

-- `<`
abbrev pub is_less : ℕ → Bool
is_less byte = byte == 60

-- no byte is one
abbrev pub HasNoLess : List ℕ → Type 0
HasNoLess text = All (λ byte. is_less byte ≡ false) text

-- how a text of JSON may have it
abbrev pub less_escape : List ℕ
less_escape = codes "\\u003c"

abbrev pub escaped_byte : ℕ → List ℕ
escaped_byte byte = if is_less byte then less_escape else byte ∷ []

-- each `<` by its escape, and each other byte as it is
unfoldable pub escaped : List ℕ → List ℕ
escaped text = flat_map escaped_byte text
