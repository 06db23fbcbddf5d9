-- Keys: one text for several, which tells them apart from all others.
use Rattle.std.specs.Prelude.{ℕ, List, ◌++◌, ◌<◌, ◌^◌, All, codes, length}
use Rattle.std.specs.Fmt.{decimal}
use Rattle.std.specs.List.{flat_map}

-- a text behind its length
abbrev pub measured : List ℕ → List ℕ
measured text = decimal (length text) ++ codes ":" ++ text

abbrev pub key_of : List (List ℕ) → List ℕ
key_of texts = flat_map measured texts

-- texts fit memory
abbrev pub AreShort : List (List ℕ) → Type 0
AreShort texts = All (λ text. length text < 2 ^ 64) texts
