-- Text as it stands in XML: what has a meaning there is written by a reference, and what XML has no character for as U+FFFD.
use Rattle.std.specs.Prelude.{ℕ, Bool, true, false, List, [], ◌∷◌, ◌++◌, ◌-◌, ◌==◌, ◌&&◌, ◌||◌, nat_le, if◌then◌else◌, codes, encode_utf8, length, take}
use Rattle.std.specs.List.{flat_map}
use Rattle.std.specs.Str.{chars}

-- a control character that is no line end, or one that is no character
abbrev pub has_no_place : ℕ → Bool
has_no_place character =
    (nat_le character 31 && (if character == 10 then false else true)) || ((nat_le 127 character && nat_le character 159) || (character == 65534 || character == 65535))

-- U+FFFD
abbrev pub replacement : List ℕ
replacement = 239 ∷ 191 ∷ 189 ∷ []

-- U+2026
abbrev pub ellipsis : List ℕ
ellipsis = 226 ∷ 128 ∷ 166 ∷ []

abbrev pub escaped_character : ℕ → List ℕ
escaped_character character =
    if character == 38 then codes "&amp;"
    else if character == 60 then codes "&lt;"
    else if character == 62 then codes "&gt;"
    else if character == 34 then codes "&quot;"
    else if character == 39 then codes "&#39;"
    else if has_no_place character then replacement
    else encode_utf8 character

abbrev pub escaped : List ℕ → List ℕ
escaped text = flat_map escaped_character (chars text)

-- an escaped text between two others that stand as they are
abbrev pub element_text : List ℕ → List ℕ → List ℕ → List ℕ
element_text before text behind = before ++ escaped text ++ behind

-- the characters, or all but the last of so many and an ellipsis where there are more
abbrev pub cut_characters : ℕ → List ℕ → List ℕ
cut_characters most characters =
    if nat_le (length characters) most then flat_map escaped_character characters
    else flat_map escaped_character (take (most - 1) characters) ++ ellipsis

abbrev pub cut : ℕ → List ℕ → List ℕ
cut most text = cut_characters most (chars text)
