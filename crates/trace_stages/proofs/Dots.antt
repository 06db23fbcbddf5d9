-- Texts without dots.
use Rattle.std.proofs.Common.{◌≡◌, ℕ, ◌+◌, ◌<◌, ◌≤◌, ◌^◌, ◌/◌, ◌%◌, suc, zero, List, [], ◌∷◌, ◌++◌, Bool, true, false, cond, length, take, refl, sym, ap, ◌∙◌, subst, arith}
use Rattle.std.specs.Prelude.{◌==◌}
use Rattle.std.specs.Fmt.{decimal}
use Rattle.std.specs.Io.BufRead.{ends_with_byte}
use Rattle.std.proofs.lemmas.Bool.{true≢false}
use Rattle.std.proofs.lemmas.Bool.Decides.{nat_tests}
use Rattle.std.proofs.lemmas.Fmt.{decimal_by_steps}
use Rattle.trace_stages.specs.Apart.{begins_with_digit}
use Rattle.trace_stages.specs.Words.{cut, has_some, is_word_character, joined, words_or}
use Rattle.trace_stages.proofs.WordJoining.{joined_by, joined_none}

abbrev pub HasNoDot : List ℕ → Type 0
HasNoDot [] = Unit {0}
HasNoDot (c ∷ cs) = (c ≡ 46 → ⊥) × HasNoDot cs

-- nothing, or what begins with a dot
abbrev pub IsTail : List ℕ → Type 0
IsTail [] = Unit {0}
IsTail (c ∷ cs) = c ≡ 46

pub no_dot-append : (xs ys : List ℕ) → HasNoDot xs → HasNoDot ys → HasNoDot (xs ++ ys)
no_dot-append [] ys first second = second
no_dot-append (x ∷ xs) ys first second = (first.0, no_dot-append xs ys first.1 second)

no_dot-take : (n : ℕ) (xs : List ℕ) → HasNoDot xs → HasNoDot (take n xs)
no_dot-take zero xs none = tt
no_dot-take (suc n) [] none = tt
no_dot-take (suc n) (x ∷ xs) none = (none.0, no_dot-take n xs none.1)

no_dot-cond : (b : Bool) (xs ys : List ℕ) → HasNoDot xs → HasNoDot ys → HasNoDot (cond b xs ys)
no_dot-cond true xs ys first second = first
no_dot-cond false xs ys first second = second

no_dot-cut : (most : ℕ) (words : List ℕ) → HasNoDot words → HasNoDot (cut most words)
unfolding cut
no_dot-cut most words none =
    no_dot-cond (ends_with_byte 45 (take most words)) _ _ (no_dot-take _ (take most words) (no_dot-take most words none)) (no_dot-take most words none)

is_no_dot : (c : ℕ) → is_word_character c ≡ true → c ≡ 46 → ⊥
is_no_dot c is dot = true≢false (sym is ∙ ap is_word_character dot)

dash_is_no_dot : ◌≡◌ {A = ℕ} 45 46 → ⊥
dash_is_no_dot is = omega arith

with_dash : (is_apart : Bool) (words : List ℕ) → HasNoDot words → HasNoDot (cond is_apart (words ++ 45 ∷ []) words)
with_dash is_apart words none = no_dot-cond is_apart _ _ (no_dot-append words (45 ∷ []) none (dash_is_no_dot, tt)) none

one_of : (b : Bool) (xs ys : List ℕ) → (b ≡ true → HasNoDot xs) → HasNoDot ys → HasNoDot (cond b xs ys)
one_of true xs ys first second = first refl
one_of false xs ys first second = second

no_dot-joined_by : (words : List ℕ) (is_apart : Bool) (rest : List ℕ) → HasNoDot words → HasNoDot (joined_by is_word_character words is_apart rest)
no_dot-joined_by words is_apart [] none = none
no_dot-joined_by words is_apart (c ∷ cs) none =
    one_of (is_word_character c) _ _
    (λ is. no_dot-joined_by _ false cs (no_dot-append _ (c ∷ []) (with_dash is_apart words none) (is_no_dot c is, tt)))
    (no_dot-joined_by words (has_some words) cs none)

no_dot-joined : (text : List ℕ) → HasNoDot (joined text)
no_dot-joined text = subst HasNoDot (sym (joined_none text)) (no_dot-joined_by [] false text tt)

pub no_dot-words_or : (none : List ℕ) (most : ℕ) (text : List ℕ) → HasNoDot none → HasNoDot (words_or none most text)
unfolding words_or
no_dot-words_or none most text is =
    no_dot-cond (length (cut most (joined text)) == 0) none _ is (no_dot-cut most (joined text) (no_dot-joined text))

-- ---- numbers

abbrev IsNumberText : ℕ → List ℕ → Type 0
IsNumberText n text = HasNoDot text × (begins_with_digit text ≡ true)

one_digit : (n : ℕ) → n < 10 → IsNumberText n ((48 + n) ∷ [])
one_digit n low = ((λ is. omega arith, tt), grind (arith, nat_tests))

still_begins : (ds : List ℕ) (d : ℕ) → begins_with_digit ds ≡ true → begins_with_digit (ds ++ d ∷ []) ≡ true
still_begins [] d is = absurd (true≢false (sym is))
still_begins (x ∷ xs) d is = is

more_digits : (n : ℕ) (ds : List ℕ) → 10 ≤ n → IsNumberText (n / 10) ds → IsNumberText n (ds ++ ((48 + n % 10) ∷ []))
more_digits n ds low is = (no_dot-append ds _ is.0 (λ dot. omega arith, tt), still_begins ds _ is.1)

pub number_text : (n : ℕ) → n < 2 ^ 64 → HasNoDot (decimal n) × (begins_with_digit (decimal n) ≡ true)
number_text n low = decimal_by_steps IsNumberText one_digit more_digits n low

-- ---- where a text has its first dot

dot_comes : (c : ℕ) (cs x y : List ℕ) → HasNoDot (c ∷ cs) → IsTail x → x ≡ c ∷ (cs ++ y) → ⊥
dot_comes c cs [] y none tail is = cc
dot_comes c cs (d ∷ ds) y none tail is = let same : d ≡ c = cc in none.0 (sym same ∙ tail)

-- what has no dot ends where the tail begins
pub split_end : (a b x y : List ℕ) → HasNoDot a → HasNoDot b → IsTail x → IsTail y → a ++ x ≡ b ++ y → (a ≡ b) × (x ≡ y)
split_end [] [] x y no_a no_b tail_x tail_y is = (refl, is)
split_end [] (d ∷ ds) x y no_a no_b tail_x tail_y is = absurd (dot_comes d ds x y no_b tail_x is)
split_end (c ∷ cs) [] x y no_a no_b tail_x tail_y is = absurd (dot_comes c cs y x no_a tail_y (sym is))
split_end (c ∷ cs) (d ∷ ds) x y no_a no_b tail_x tail_y is =
    let heads : c ≡ d = cc in
    let tails : cs ++ x ≡ ds ++ y = cc in
    let rest = split_end cs ds x y no_a.1 no_b.1 tail_x tail_y tails in
    (ap (λ h. h ∷ cs) heads ∙ ap (λ t. d ∷ t) rest.0, rest.1)
