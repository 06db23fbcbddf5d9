-- Words, joined letter by letter.
use Rattle.std.proofs.Common.{◌≡◌, ℕ, ◌<◌, List, [], ◌∷◌, ◌++◌, Bool, true, false, not, cond, length, refl, sym, ap, ◌∙◌, subst, suc, zero, append_assoc, append-nil, arith}
use Rattle.std.specs.Prelude.{◌==◌, filter}
use Rattle.std.specs.Str.{IsAscii}
use Rattle.std.proofs.lemmas.Bool.Decides.{nat_tests}
use Rattle.std.proofs.lemmas.Str.{IsAscii-append}
use Rattle.std.specs.List.{flat_map, join_by, onto_first, slice_split}
use Rattle.trace_stages.specs.Words.{has_some, is_word_character, joined, with_letter}

-- each further word after a dash
abbrev more : List (List ℕ) → List ℕ
more parts = flat_map (λ word. (45 ∷ []) ++ word) (filter has_some parts)

abbrev on_first : List ℕ → List (List ℕ) → List ℕ
on_first words [] = words
on_first words (part ∷ parts) = words ++ (part ++ more parts)

first_on : (words : List ℕ) (c : ℕ) (parts : List (List ℕ)) → on_first (words ++ c ∷ []) parts ≡ on_first words (onto_first c parts)
first_on words c [] = refl
first_on words c (part ∷ parts) = append_assoc words (c ∷ []) (part ++ more parts)

after_dash : (words : List ℕ) (c : ℕ) (parts : List (List ℕ)) → on_first ((words ++ 45 ∷ []) ++ c ∷ []) parts ≡ words ++ more (onto_first c parts)
after_dash words c [] = append_assoc words (45 ∷ []) (c ∷ [])
after_dash words c (part ∷ parts) = append_assoc (words ++ 45 ∷ []) (c ∷ []) (part ++ more parts) ∙ append_assoc words (45 ∷ []) (c ∷ (part ++ more parts))

-- the words so far, with whether a further one stands apart, and the text that is left
abbrev pub joined_by : (ℕ → Bool) → List ℕ → Bool → List ℕ → List ℕ
joined_by is_letter words is_apart [] = words
joined_by is_letter words is_apart (c ∷ cs) =
    cond (is_letter c) (joined_by is_letter (cond is_apart (words ++ 45 ∷ []) words ++ c ∷ []) false cs) (joined_by is_letter words (has_some words) cs)

abbrev parts_of : (ℕ → Bool) → List ℕ → List (List ℕ)
parts_of is_letter text = slice_split (λ c. not (is_letter c)) text

in_word : (b : Bool) (words : List ℕ) (c : ℕ) (parts : List (List ℕ)) (word gap : List ℕ) → word ≡ on_first (words ++ c ∷ []) parts → gap ≡ words ++ more parts
    → cond b word gap ≡ on_first words (cond (not b) ([] ∷ parts) (onto_first c parts))
in_word true words c parts word gap is_word is_gap = is_word ∙ first_on words c parts
in_word false words c parts word gap is_word is_gap = is_gap

in_gap : (b : Bool) (words : List ℕ) (c : ℕ) (parts : List (List ℕ)) (word gap : List ℕ) → word ≡ on_first ((words ++ 45 ∷ []) ++ c ∷ []) parts → gap ≡ words ++ more parts
    → cond b word gap ≡ words ++ more (cond (not b) ([] ∷ parts) (onto_first c parts))
in_gap true words c parts word gap is_word is_gap = is_word ∙ after_dash words c parts
in_gap false words c parts word gap is_word is_gap = is_gap

-- after a word, and after what parts it from the next
goes_on : (is_letter : ℕ → Bool) (first : ℕ) (others rest : List ℕ) → (joined_by is_letter (first ∷ others) false rest ≡ on_first (first ∷ others) (parts_of is_letter rest)) × (joined_by is_letter (first ∷ others) true rest ≡ (first ∷ others) ++ more (parts_of is_letter rest))
goes_on is_letter first others [] = (sym (append-nil (first ∷ others)), sym (append-nil (first ∷ others)))
goes_on is_letter first others (c ∷ cs) = (
  in_word (is_letter c) (first ∷ others) c (parts_of is_letter cs) _ _ (goes_on is_letter first (others ++ c ∷ []) cs).0 (goes_on is_letter first others cs).1,
  in_gap (is_letter c) (first ∷ others) c (parts_of is_letter cs) _ _ (goes_on is_letter first ((others ++ 45 ∷ []) ++ c ∷ []) cs).0 (goes_on is_letter first others cs).1,
)

abbrev together : List (List ℕ) → List ℕ
together parts = join_by (λ word. word) (45 ∷ []) (filter has_some parts)

first_word : (c : ℕ) (parts : List (List ℕ)) → on_first (c ∷ []) parts ≡ together (onto_first c parts)
first_word c [] = refl
first_word c (part ∷ parts) = refl

at_start : (b : Bool) (c : ℕ) (parts : List (List ℕ)) (word gap : List ℕ) → word ≡ on_first (c ∷ []) parts → gap ≡ together parts → cond b word gap ≡ together (cond (not b) ([] ∷ parts) (onto_first c parts))
at_start true c parts word gap is_word is_gap = is_word ∙ first_word c parts
at_start false c parts word gap is_word is_gap = is_gap

pub joins_all : (is_letter : ℕ → Bool) (rest : List ℕ) → joined_by is_letter [] false rest ≡ together (parts_of is_letter rest)
joins_all is_letter [] = refl
joins_all is_letter (c ∷ cs) = at_start (is_letter c) c (parts_of is_letter cs) _ _ (goes_on is_letter c [] cs).0 (joins_all is_letter cs)

abbrev pub joined_from : List ℕ → Bool → List ℕ → List ℕ
joined_from words is_apart rest = joined_by is_word_character words is_apart rest

pub joined_none : (text : List ℕ) → joined text ≡ joined_from [] false text
unfolding joined
joined_none text = sym (joins_all is_word_character text)

of_letter : (b : Bool) (x y : List ℕ) → b ≡ true → cond b x y ≡ x
of_letter b x y is = rw is refl

of_other : (b : Bool) (x y : List ℕ) → b ≡ false → cond b x y ≡ y
of_other b x y is = rw is refl

-- one more letter of a word
pub joined_letter : (text words new : List ℕ) (is_apart : Bool) (c : ℕ) (cs : List ℕ) → joined text ≡ joined_from words is_apart (c ∷ cs) → is_word_character c ≡ true → new ≡ with_letter words is_apart c → joined text ≡ joined_from new false cs
joined_letter text words new is_apart c cs so_far is_word is_new =
    so_far ∙ of_letter (is_word_character c) _ _ is_word ∙ ap (λ those. joined_from those false cs) (sym is_new)

-- another character
pub joined_other : (text words : List ℕ) (is_apart now : Bool) (c : ℕ) (cs : List ℕ) → joined text ≡ joined_from words is_apart (c ∷ cs) → is_word_character c ≡ false → now ≡ has_some words → joined text ≡ joined_from words now cs
joined_other text words is_apart now c cs so_far is_other is_now =
    so_far ∙ of_other (is_word_character c) _ _ is_other ∙ ap (λ b. joined_from words b cs) (sym is_now)

pub some_in : (words : List ℕ) → not (length words == 0) ≡ has_some words
some_in [] = refl
some_in (c ∷ cs) = grind (arith, nat_tests)

pub below_128 : (c : ℕ) → is_word_character c ≡ true → c < 128
below_128 c is = grind (arith, nat_tests)

one_ascii : (c : ℕ) → c < 128 → IsAscii (c ∷ [])
one_ascii c low zero = low
one_ascii c low (suc i) = omega arith

pub no_ascii : (words : List ℕ) → words ≡ [] → IsAscii words
no_ascii words is = subst IsAscii (sym is) (λ i. omega arith)

pub ascii_letter : (words new : List ℕ) (is_apart : Bool) (c : ℕ) → IsAscii words → c < 128 → new ≡ with_letter words is_apart c → IsAscii new
ascii_letter words new true c ascii low is = subst IsAscii (sym is) (IsAscii-append _ _ (IsAscii-append words (45 ∷ []) ascii (one_ascii 45 (omega arith))) (one_ascii c low))
ascii_letter words new false c ascii low is = subst IsAscii (sym is) (IsAscii-append words _ ascii (one_ascii c low))
