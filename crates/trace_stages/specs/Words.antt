-- The words of a text.
use Rattle.std.specs.Prelude.{ℕ, ◌==◌, ◌||◌, List, [], ◌∷◌, ◌++◌, Bool, true, false, codes, not, length, take, filter, if◌then◌else◌}
use Rattle.std.specs.Io.BufRead.{strip_last}
use Rattle.std.specs.List.{join_by, slice_split}
use Rattle.trace_spans.specs.Identifiers.{is_between}

-- `A` to `Z`, `a` to `z`, `0` to `9` and `_`
abbrev pub is_word_character : ℕ → Bool
is_word_character c = is_between 65 90 c || is_between 97 122 c || is_between 48 57 c || c == 95

abbrev pub has_some : List ℕ → Bool
has_some [] = false
has_some (c ∷ cs) = true

abbrev pub words_of : List ℕ → List (List ℕ)
words_of text = filter has_some (slice_split (λ c. not (is_word_character c)) text)

-- the words of a text, joined by dashes
unfoldable pub joined : List ℕ → List ℕ
joined text = join_by (λ word. word) (codes "-") (words_of text)

-- words with one more letter, which may stand apart from them
abbrev pub with_letter : List ℕ → Bool → ℕ → List ℕ
with_letter words is_apart letter = (if is_apart then words ++ 45 ∷ [] else words) ++ letter ∷ []

-- no more characters than these, of which the last is no dash
unfoldable pub cut : ℕ → List ℕ → List ℕ
cut most words = strip_last 45 (take most words)

-- so many characters of the words of a text, or what stands for none
unfoldable pub words_or : List ℕ → ℕ → List ℕ → List ℕ
words_or none most text = if length (cut most (joined text)) == 0 then none else cut most (joined text)
