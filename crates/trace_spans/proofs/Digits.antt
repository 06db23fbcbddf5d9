-- A text without its leading zeros, in lower case.
use Rattle.std.proofs.Common.{◌≡◌, ◌≢◌, ℕ, suc, ◌+◌, ◌<◌, ◌≤◌, List, [], ◌∷◌, ◌++◌, length, get_or, drop, map, Bool, true, false, cond, refl, sym, ap, ◌∙◌, arith, lit<, ltb}
use Rattle.std.specs.Prelude.{◌==◌}
use Rattle.std.specs.Char.{to_ascii_lowercase}
use Rattle.std.specs.List.{prefix_len}
use Rattle.std.specs.Str.{IsUtf8, chars, encode_utf8_all}
use Rattle.std.proofs.lemmas.Bool.Decides.{nat_tests}
use Rattle.std.proofs.lemmas.List.{append-nil, map-append}
use Rattle.std.proofs.lemmas.Str.{encode_ascii, encodes-chars, inside_one}
use lib.Utf8.{encode, encodes}
use Rattle.trace_spans.specs.Identifiers.{is_zero, without_zeros}

chars_zero : (bs : List ℕ) → chars (48 ∷ bs) ≡ 48 ∷ chars bs
unfolding chars
chars_zero [] = refl
chars_zero (b ∷ bs) = refl

drop_one_more : (n : ℕ) (ds : List ℕ) → drop (1 + n) (48 ∷ ds) ≡ drop n ds
drop_one_more n ds = let e : 1 + n ≡ suc n = omega arith in ap (λ k. drop k (48 ∷ ds)) e

-- a zero in front is passed
pub after_zero : (bs : List ℕ) → without_zeros (chars (48 ∷ bs)) ≡ without_zeros (chars bs)
after_zero bs = ap without_zeros (chars_zero bs) ∙ drop_one_more (prefix_len is_zero (chars bs)) (chars bs)

kept_unless : (b : Bool) (n : ℕ) (xs : List ℕ) → (b ≡ true → ⊥) → drop (cond b (1 + n) 0) xs ≡ xs
kept_unless true n xs h = absurd (h refl)
kept_unless false n xs h = refl

is_48 : (c : ℕ) → (c == 48) ≡ true → c ≡ 48
is_48 c h = grind (arith, nat_tests)

front_zero : (cs : List ℕ) (c : ℕ) → c ≡ 48 → encodes (c ∷ cs) ≡ 48 ∷ encodes cs
front_zero cs c e = ap (λ d. encodes (d ∷ cs)) e ∙ ap (λ bs. bs ++ encodes cs) (encode_ascii 48 (lit< tt))

pub zero_as_character : (bs rest : List ℕ) → bs ≡ 48 ∷ rest → bs ≡ encode 48 ++ rest
zero_as_character bs rest e = e ∙ ap (λ front. front ++ rest) (sym (encode_ascii 48 (lit< tt)))

none_in_front : (cs bs : List ℕ) → encodes cs ≡ bs → ((rest : List ℕ) → bs ≢ 48 ∷ rest) → without_zeros cs ≡ cs
none_in_front [] bs e h = refl
none_in_front (c ∷ cs) bs e h =
    kept_unless (c == 48) (prefix_len is_zero cs) (c ∷ cs) (λ is. h (encodes cs) (sym e ∙ front_zero cs c (is_48 c is)))

map_same : (f : ℕ → ℕ) (xs : List ℕ) → ((k : ℕ) → k < length xs → f (get_or xs k 0) ≡ get_or xs k 0) → map f xs ≡ xs
map_same f [] h = refl
map_same f (x ∷ xs) h =
    ap (λ y. y ∷ map f xs) (h 0 (omega arith)) ∙ ap (λ ys. x ∷ ys) (map_same f xs (λ k lt. h (suc k) (omega arith)))

lower_past_ascii : (c : ℕ) → 128 ≤ c → to_ascii_lowercase c ≡ c
lower_past_ascii c h = grind (arith, nat_tests)

lower_ascii : (c : ℕ) → c < 128 → to_ascii_lowercase c < 128
lower_ascii c h = grind (arith, nat_tests)

by_size : (b : Bool) (x : ℕ) → b ≡ ltb x 128 → (x < 128 → 128 ≤ x) → 128 ≤ x
by_size true x is h = h (grind (arith, nat_tests))
by_size false x is h = grind (arith, nat_tests)

-- no byte of a character past ASCII is ASCII
past_byte : (c k : ℕ) → 128 ≤ c → k < length (encode c) → 128 ≤ get_or (encode c) k 0
past_byte c k past lt =
    by_size (ltb (get_or (encode c) k 0) 128) (get_or (encode c) k 0) refl
    (λ small. let e = inside_one c [] (encode c) k (sym (append-nil (encode c))) lt small in omega arith)

lower_encode_by : (b : Bool) (c : ℕ) → b ≡ ltb c 128 → map to_ascii_lowercase (encode c) ≡ encode (to_ascii_lowercase c)
lower_encode_by true c is =
    let small : c < 128 = grind (arith, nat_tests) in
    ap (map to_ascii_lowercase) (encode_ascii c small) ∙ sym (encode_ascii (to_ascii_lowercase c) (lower_ascii c small))
lower_encode_by false c is =
    let past : 128 ≤ c = grind (arith, nat_tests) in
    map_same to_ascii_lowercase (encode c) (λ k lt. lower_past_ascii _ (past_byte c k past lt))
    ∙ ap encode (sym (lower_past_ascii c past))

lower_encodes : (cs : List ℕ) → map to_ascii_lowercase (encodes cs) ≡ encodes (map to_ascii_lowercase cs)
lower_encodes [] = refl
lower_encodes (c ∷ cs) =
    map-append to_ascii_lowercase (encode c) (encodes cs)
    ∙ ap (λ bs. bs ++ map to_ascii_lowercase (encodes cs)) (lower_encode_by (ltb c 128) c refl)
    ∙ ap (λ bs. encode (to_ascii_lowercase c) ++ bs) (lower_encodes cs)

-- the digits that are left, of which none in front is a zero
pub lowered : (id digits : List ℕ) → IsUtf8 digits → without_zeros (chars id) ≡ without_zeros (chars digits) → ((rest : List ℕ) → digits ≢ 48 ∷ rest) → map to_ascii_lowercase digits ≡ encode_utf8_all (map to_ascii_lowercase (without_zeros (chars id)))
lowered id digits utf8 same none =
    ap (map to_ascii_lowercase) (sym (encodes-chars digits utf8))
    ∙ lower_encodes (chars digits)
    ∙ ap (λ cs. encodes (map to_ascii_lowercase cs)) (sym (none_in_front (chars digits) digits (encodes-chars digits utf8) none) ∙ sym same)
