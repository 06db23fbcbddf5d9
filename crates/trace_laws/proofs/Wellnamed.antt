-- The names of stages are well formed: of letters, digits, `_`, `-` and dots, and of 64 characters at most.
use Rattle.std.proofs.Common.{◌≡◌, ℕ, zero, suc, ◌+◌, ◌-◌, ◌/◌, ◌%◌, ◌<◌, ◌≤◌, List, [], ◌∷◌, ◌++◌, Bool, true, false, cond, codes, decimal, length, map, take, Option, Some, refl, sym, subst, arith, append-nil}
use Rattle.std.specs.Prelude.{◌&&◌, ◌||◌, ◌==◌, nat_le, nat_lt, slice_get}
use Rattle.std.specs.Fmt.{digit_glyph, digits, digits_onto}
use Rattle.std.specs.Io.BufRead.{ends_with_byte}
use Rattle.std.specs.List.{list_all}
use Rattle.std.proofs.lemmas.Bool.{true≢false}
use Rattle.std.proofs.lemmas.Bool.Decides.{nat_tests}
use Rattle.std.proofs.lemmas.Fmt.{length-decimal-le}
use Rattle.std.proofs.lemmas.List.{length-append, length-take}
use Rattle.std.proofs.lemmas.Option.{none-some, same_Some}
use Rattle.stage_graph.specs.Checks.{is_first_byte, is_name, is_name_byte}
use Rattle.trace_stages.specs.Names.{base_name, count_before, names, names_from, own_name, service_name, with_number}
use Rattle.trace_stages.specs.Words.{cut, has_some, is_word_character, joined, words_or}
use Rattle.trace_stages.proofs.WordJoining.{joined_by, joined_none}
use Rattle.trace_spans.specs.declared.span.Span.{Span}
use Rattle.trace_stages.specs.declared.stage.StageName.{StageName}
use Rattle.trace_stages.specs.declared.stage.StageName.TheVariants.{Start, Whole, Join, Work, Tried, Limit, Answer}
use Rattle.trace_import.specs.StageNames.{name_at, numbered as with_count, stage_name, text_or_none}

-- ---- texts that begin well

abbrev pub IsNamed : List ℕ → Type 0
IsNamed text = list_all is_name_byte text ≡ true

-- nothing, or a text that begins well
abbrev pub IsWords : List ℕ → Type 0
IsWords [] = Unit {0}
IsWords (c ∷ cs) = (is_first_byte c ≡ true) × IsNamed cs

both : (a b : Bool) → (a && b) ≡ true → (a ≡ true) × (b ≡ true)
both true b h = (refl, h)
both false b h = absurd (true≢false (sym h))

each : (a b : Bool) → a ≡ true → b ≡ true → (a && b) ≡ true
each true b h k = k
each false b h k = absurd (true≢false (sym h))

named_append : (xs ys : List ℕ) → IsNamed xs → IsNamed ys → IsNamed (xs ++ ys)
named_append [] ys h k = k
named_append (x ∷ xs) ys h k = let parts = both (is_name_byte x) (list_all is_name_byte xs) h in each (is_name_byte x) (list_all is_name_byte (xs ++ ys)) parts.0 (named_append xs ys parts.1 k)

or_first : (a b : Bool) → a ≡ true → (a || b) ≡ true
or_first true b h = refl
or_first false b h = absurd (true≢false (sym h))

first_named : (c : ℕ) → is_first_byte c ≡ true → is_name_byte c ≡ true
first_named c h = or_first (is_first_byte c) (c == 45 || c == 46) h

pub words_named : (xs : List ℕ) → IsWords xs → IsNamed xs
words_named [] h = refl
words_named (x ∷ xs) h = each (is_name_byte x) (list_all is_name_byte xs) (first_named x h.0) h.1

words_end : (xs : List ℕ) (y : ℕ) → IsWords xs → (xs ≡ [] → is_first_byte y ≡ true) → is_name_byte y ≡ true → IsWords (xs ++ y ∷ [])
words_end [] y h first is = (first refl, refl)
words_end (x ∷ xs) y h first is = (h.0, named_append xs (y ∷ []) h.1 (each (is_name_byte y) true is refl))

words_append : (xs ys : List ℕ) → 0 < length xs → IsWords xs → IsNamed ys → IsWords (xs ++ ys)
words_append [] ys some h k = absurd (omega arith)
words_append (x ∷ xs) ys some h k = (h.0, named_append xs ys h.1 k)

named_take : (n : ℕ) (xs : List ℕ) → IsNamed xs → IsNamed (take n xs)
named_take zero xs h = refl
named_take (suc n) [] h = refl
named_take (suc n) (x ∷ xs) h = let parts = both (is_name_byte x) (list_all is_name_byte xs) h in each (is_name_byte x) (list_all is_name_byte (take n xs)) parts.0 (named_take n xs parts.1)

words_take : (n : ℕ) (xs : List ℕ) → IsWords xs → IsWords (take n xs)
words_take zero xs h = tt
words_take (suc n) [] h = tt
words_take (suc n) (x ∷ xs) h = (h.0, named_take n xs h.1)

words_cond : (b : Bool) (xs ys : List ℕ) → IsWords xs → IsWords ys → IsWords (cond b xs ys)
words_cond true xs ys first second = first
words_cond false xs ys first second = second

words_cut : (most : ℕ) (words : List ℕ) → IsWords words → IsWords (cut most words)
unfolding cut
words_cut most words h = words_cond (ends_with_byte 45 (take most words)) _ _ (words_take _ (take most words) (words_take most words h)) (words_take most words h)

length_cond : (b : Bool) (xs ys : List ℕ) (most : ℕ) → length xs ≤ most → length ys ≤ most → length (cond b xs ys) ≤ most
length_cond true xs ys most first second = first
length_cond false xs ys most first second = second

length_cut : (most : ℕ) (words : List ℕ) → length (cut most words) ≤ most
unfolding cut
length_cut most words =
    length_cond (ends_with_byte 45 (take most words)) _ _ most (omega (arith, length-take most words, length-take (length (take most words) - 1) (take most words))) (omega (arith, length-take most words))

-- ---- words

letter_first : (c : ℕ) → is_word_character c ≡ true → is_first_byte c ≡ true
letter_first c h = grind (arith, nat_tests)

one_of : (b : Bool) (xs ys : List ℕ) → (b ≡ true → IsWords xs) → IsWords ys → IsWords (cond b xs ys)
one_of true xs ys first second = first refl
one_of false xs ys first second = second

dashed : (is_apart : Bool) (words : List ℕ) → (is_apart ≡ true → has_some words ≡ true) → IsWords words → IsWords (cond is_apart (words ++ 45 ∷ []) words)
dashed true [] some h = absurd (true≢false (sym (some refl)))
dashed true (w ∷ ws) some h = words_end (w ∷ ws) 45 h (λ e. absurd (cc)) refl
dashed false words some h = h

words_joined_by : (words : List ℕ) (is_apart : Bool) (rest : List ℕ) → (is_apart ≡ true → has_some words ≡ true) → IsWords words → IsWords (joined_by is_word_character words is_apart rest)
words_joined_by words is_apart [] some h = h
words_joined_by words is_apart (c ∷ cs) some h =
    one_of (is_word_character c) _ _
    (λ is. words_joined_by _ false cs (λ e. absurd (true≢false (sym e))) (words_end _ c (dashed is_apart words some h) (λ e. letter_first c is) (first_named c (letter_first c is))))
    (words_joined_by words (has_some words) cs (λ e. e) h)

words_joined : (text : List ℕ) → IsWords (joined text)
words_joined text = subst IsWords (sym (joined_none text)) (words_joined_by [] false text (λ e. absurd (true≢false (sym e))) tt)

-- a text of words is some, and of so many characters at most
pub record AreWords (most : ℕ) (text : List ℕ) : Type 0 where
  pub words : IsWords text
  pub some : 0 < length text
  pub few : length text ≤ most

some_words : (none : List ℕ) (most : ℕ) (text : List ℕ) → AreWords most none → AreWords most (words_or none most text)
unfolding words_or
some_words none most text is = by (length (cut most (joined text)) == 0) refl
  where
    by : (b : Bool) → (length (cut most (joined text)) == 0) ≡ b → AreWords most (cond b none (cut most (joined text)))
    by true e = is
    by false e = record { words = words_cut most (joined text) (words_joined text); some = grind (arith, nat_tests); few = length_cut most (joined text) }

service_words : (span : Span) → AreWords 20 (service_name span)
service_words span = some_words (codes "service") 20 span.service (record { words = (refl, refl); some = omega arith; few = omega arith })

own_words : (span : Span) → AreWords (46 - length (service_name span)) (own_name span)
own_words span =
    let service = service_words span in
    some_words (codes "span") (46 - length (service_name span)) span.name (record { words = (refl, refl); some = omega arith; few = omega (arith, service.few) })

base_words : (span : Span) → AreWords 47 (base_name span)
unfolding base_name
base_words span =
    let service = service_words span in
    let own = own_words span in
    record {
      words = words_append (service_name span ++ codes ".") (own_name span) (omega (arith, length-append (service_name span) (codes "."))) (words_append (service_name span) (codes ".") service.some service.words refl) (words_named (own_name span) own.words);
      some = omega (arith, length-append (service_name span ++ codes ".") (own_name span), length-append (service_name span) (codes "."));
      few = omega (arith, length-append (service_name span ++ codes ".") (own_name span), length-append (service_name span) (codes "."), own.few, service.few);
    }

-- ---- numbers

digit_named : (d : ℕ) → d < 10 → is_name_byte (digit_glyph false d) ≡ true
digit_named d low = grind (arith, nat_tests)

low_digit : (n : ℕ) → n % 10 < 10
low_digit n = omega arith

digits_named : (k n : ℕ) (acc : List ℕ) → IsNamed acc → IsNamed (digits_onto k 10 false n acc)
digits_named zero n acc h = h
digits_named (suc k) n acc h = by (n / 10 == 0) (digits_named k (n / 10) (digit_glyph false (n % 10) ∷ acc) more)
  where
    more : IsNamed (digit_glyph false (n % 10) ∷ acc)
    more = each (is_name_byte (digit_glyph false (n % 10))) (list_all is_name_byte acc) (digit_named (n % 10) (low_digit n)) h

    by : (b : Bool) → IsNamed (digits_onto k 10 false (n / 10) (digit_glyph false (n % 10) ∷ acc)) → IsNamed (cond b (digit_glyph false (n % 10) ∷ acc) (digits_onto k 10 false (n / 10) (digit_glyph false (n % 10) ∷ acc)))
    by true rest = more
    by false rest = rest

pub decimal_named : (n : ℕ) → IsNamed (decimal n)
unfolding digits
decimal_named n = digits_named 64 n [] refl

decimal_few : (n : ℕ) → n < 100000 → length (decimal n) ≤ 5
decimal_few n low = length-decimal-le 5 n (omega arith) (omega arith) (omega arith)

numbered : (base : List ℕ) (number : ℕ) → AreWords 47 base → number < 100000 → AreWords 53 (with_number base number)
numbered base number is low = by (nat_lt 1 number)
  where
    by : (b : Bool) → AreWords 53 (cond b (base ++ codes "." ++ decimal number) base)
    by true = record {
      words = words_append (base ++ codes ".") (decimal number) (omega (arith, length-append base (codes "."), is.some)) (words_append base (codes ".") is.some is.words refl) (decimal_named number);
      some = omega (arith, length-append (base ++ codes ".") (decimal number), length-append base (codes "."));
      few = omega (arith, length-append (base ++ codes ".") (decimal number), length-append base (codes "."), is.few, decimal_few number low);
    }
    by false = record { words = is.words; some = is.some; few = omega (arith, is.few) }

count_low : (bases : List (List ℕ)) (base : List ℕ) (place : ℕ) (order : List ℕ) → count_before bases base place order ≤ length order
count_low bases base place [] = omega arith
count_low bases base place (first ∷ others) = by _ _ (count_low bases base place others)
  where
    by : (b has : Bool) → count_before bases base place others ≤ length others → cond b 0 (cond has 1 0 + count_before bases base place others) ≤ suc (length others)
    by true has low = omega arith
    by false true low = omega arith
    by false false low = omega arith

names_words : (bases : List (List ℕ)) (order : List ℕ) (k : ℕ) (spans : List Span) (place : ℕ) (name : List ℕ) → length order ≤ 65536 → slice_get (names_from bases order k (map base_name spans)) place ≡ Some name → AreWords 53 name
names_words bases order k [] place name few at = absurd (none-some name at)
names_words bases order k (span ∷ spans) zero name few at =
    subst (AreWords 53) (same_Some _ name at) (numbered (base_name span) _ (base_words span) (omega (arith, count_low bases (base_name span) k order)))
names_words bases order k (span ∷ spans) (suc place) name few at = names_words bases order (k + 1) spans place name few at

pub name_words : (spans : List Span) (order : List ℕ) (place : ℕ) (name : List ℕ) → length order ≤ 65536 → slice_get (names spans order) place ≡ Some name → AreWords 53 name
unfolding names
name_words spans order place name few at = names_words (map base_name spans) order 0 spans place name few at

-- ---- names of stages

with_ending : (name ending : List ℕ) → AreWords 53 name → IsNamed ending → length ending ≤ 11 → is_name (name ++ ending) ≡ true
with_ending [] ending is named few = absurd (let some = is.some in omega arith)
with_ending (c ∷ cs) ending is named few =
    let words = is.words in
    each (is_first_byte c) _ words.0
    (each (nat_le (length ((c ∷ cs) ++ ending)) 64) (list_all is_name_byte ((c ∷ cs) ++ ending)) (le_test (length ((c ∷ cs) ++ ending)) (omega (arith, length-append (c ∷ cs) ending, is.few)))
    (named_append (c ∷ cs) ending (words_named (c ∷ cs) words) named))
  where
    le_test : (k : ℕ) → k ≤ 64 → nat_le k 64 ≡ true
    le_test k low = grind (arith, nat_tests)

-- the number in a name, or 1
abbrev pub number_in : StageName → ℕ
number_in (Join place number) = number
number_in (Work place number) = number
number_in other = 1

-- the span whose stage it is
abbrev pub place_named : StageName → ℕ
place_named (Start place) = place
place_named (Whole place) = place
place_named (Join place number) = place
place_named (Work place number) = place
place_named (Tried place) = place
place_named (Limit place) = place
place_named (Answer place) = place

-- what is put after the name of the span
abbrev pub ending_of : StageName → List ℕ
ending_of (Start place) = codes ".start"
ending_of (Whole place) = []
ending_of (Join place number) = with_count (codes ".join") number
ending_of (Work place number) = with_count (codes ".work") number
ending_of (Tried place) = codes ".tried"
ending_of (Limit place) = codes ".limit"
ending_of (Answer place) = codes ".answer"

pub spelled : (names : List (List ℕ)) (name : StageName) → stage_name names name ≡ name_at names (place_named name) ++ ending_of name
spelled names (Whole place) = sym (append-nil (name_at names place))
spelled names (Start place) = refl
spelled names (Join place number) = refl
spelled names (Work place number) = refl
spelled names (Tried place) = refl
spelled names (Limit place) = refl
spelled names (Answer place) = refl

-- a name of a stage, which has such a number
abbrev pub IsNumbered : StageName → Type 0
IsNumbered name = number_in name < 100000

count_named : (ending : List ℕ) (number : ℕ) → IsNamed ending → length ending ≤ 5 → number < 100000 → IsNamed (with_count ending number) × (length (with_count ending number) ≤ 11)
count_named ending number is short low = by (nat_lt 1 number)
  where
    by : (b : Bool) → IsNamed (cond b (ending ++ codes "-" ++ decimal number) ending) × (length (cond b (ending ++ codes "-" ++ decimal number) ending) ≤ 11)
    by true = (
      named_append (ending ++ codes "-") (decimal number) (named_append ending (codes "-") is refl) (decimal_named number),
      omega (arith, length-append (ending ++ codes "-") (decimal number), length-append ending (codes "-"), decimal_few number low, short),
    )
    by false = (is, omega (arith, short))

ending_named : (name : StageName) → IsNumbered name → IsNamed (ending_of name) × (length (ending_of name) ≤ 11)
ending_named (Join place number) low = count_named (codes ".join") number refl (omega arith) low
ending_named (Work place number) low = count_named (codes ".work") number refl (omega arith) low
ending_named (Start place) low = (refl, omega arith)
ending_named (Whole place) low = (refl, omega arith)
ending_named (Tried place) low = (refl, omega arith)
ending_named (Limit place) low = (refl, omega arith)
ending_named (Answer place) low = (refl, omega arith)

stage_named : (spans : List Span) (order : List ℕ) (place : ℕ) (name : List ℕ) → length order ≤ 65536 → slice_get (names spans order) place ≡ Some name → (ending : List ℕ) → IsNamed ending → length ending ≤ 11 → is_name (text_or_none (slice_get (names spans order) place) ++ ending) ≡ true
stage_named spans order place name few at ending named low =
    subst (λ (o : Option (List ℕ)). is_name (text_or_none o ++ ending) ≡ true) (sym at) (with_ending name ending (name_words spans order place name few at) named low)

-- the name of a stage of one of the spans
pub well_named : (spans : List Span) (order : List ℕ) (name : StageName) (own : List ℕ) → length order ≤ 65536 → slice_get (names spans order) (place_named name) ≡ Some own → IsNumbered name → is_name (stage_name (names spans order) name) ≡ true
well_named spans order name own few at fits =
    let ending = ending_named name fits in
    subst (λ (text : List ℕ). is_name text ≡ true) (sym (spelled (names spans order) name)) (stage_named spans order (place_named name) own few at (ending_of name) ending.0 ending.1)
