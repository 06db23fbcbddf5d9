-- Where the first word of a text ends.
use Rattle.std.specs.Prelude.{ℕ, ◌==◌, Bool, List}
use Rattle.std.specs.List.{before_first, after_first}
use Rattle.std.specs.Str.{trim}

abbrev pub is_space : ℕ → Bool
is_space b = b == 32

-- the whole text, where it has no space
abbrev pub first_word : List ℕ → List ℕ
first_word text = before_first is_space text

-- what stands behind the first space, without white space at its ends
abbrev pub other_words : List ℕ → List ℕ
other_words text = trim (after_first is_space text)
