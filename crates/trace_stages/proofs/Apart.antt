-- Names are apart.
use Rattle.std.proofs.Common.{◌≡◌, ℕ, ◌+◌, ◌<◌, ◌≤◌, ◌^◌, suc, zero, List, [], ◌∷◌, ◌++◌, Bool, true, false, cond, length, map, Option, Some, None, append_assoc, refl, sym, ap, ◌∙◌, subst, arith}
use Rattle.std.specs.Prelude.{◌||◌, codes, nat_eq, nat_lt, slice_get}
use Rattle.std.specs.Fmt.{decimal}
use Rattle.std.specs.List.{list_any}
use Rattle.std.specs.Option.{option_map}
use Rattle.std.proofs.lemmas.Bool.{true≢false}
use Rattle.std.proofs.lemmas.Bool.Decides.{nat_tests}
use Rattle.std.proofs.lemmas.Fmt.{decimal_injective}
use Rattle.std.proofs.lemmas.List.{length-map}
use Rattle.std.proofs.lemmas.Option.{same_Some, slice_get-map, slice_get_within}
use Rattle.std.proofs.lemmas.Slice.Eq.{bytes_eq-Decides}
use Rattle.trace_spans.specs.declared.span.Span.{Span}
use Rattle.trace_stages.specs.Apart.{HasAll, IsEnding, NamesAreApart, begins_with_digit}
use Rattle.trace_stages.specs.Names.{base_name, count_before, has_base, is_same_name, names, names_from, own_name, service_name, with_number}
use Rattle.trace_stages.proofs.Counting.{no_name, same_place}
use Rattle.trace_stages.proofs.Dots.{HasNoDot, IsTail, no_dot-words_or, number_text, split_end}

-- ---- the number of a span is its own

different : (b : Bool) (n m : ℕ) → b ≡ true → 0 ≡ cond b 1 0 + n → ⊥
different true n m is zero_is = omega arith
different false n m is zero_is = true≢false (sym is)

-- the tests of both places at the first of an order, and what comes after
own_step : (p q y : ℕ) (in_p in_q : Bool) (h : Bool) (after_p after_q : ℕ) (b a : Bool) → nat_eq p y ≡ b → nat_eq q y ≡ a → (nat_eq p y ≡ true → h ≡ true) → (nat_eq q y ≡ true → h ≡ true)
    → (b || in_p) ≡ true → (a || in_q) ≡ true → cond b 0 (cond h 1 0 + after_p) ≡ cond a 0 (cond h 1 0 + after_q)
    → (in_p ≡ true → in_q ≡ true → after_p ≡ after_q → p ≡ q) → p ≡ q
own_step p q y in_p in_q h after_p after_q true true at_p at_q has_p has_q one other same rest = same_place p y at_p ∙ sym (same_place q y at_q)
own_step p q y in_p in_q h after_p after_q true false at_p at_q has_p has_q one other same rest = absurd (different h after_q 0 (has_p at_p) same)
own_step p q y in_p in_q h after_p after_q false true at_p at_q has_p has_q one other same rest = absurd (different h after_p 0 (has_q at_q) (sym same))
own_step p q y in_p in_q h after_p after_q false false at_p at_q has_p has_q one other same rest = rest one other (omega arith)

own_number : (bases : List (List ℕ)) (base : List ℕ) (p q : ℕ) (order : List ℕ) → has_base bases base p ≡ true → has_base bases base q ≡ true → list_any (nat_eq p) order ≡ true → list_any (nat_eq q) order ≡ true
    → count_before bases base p order ≡ count_before bases base q order → p ≡ q
own_number bases base p q [] has_p has_q in_p in_q same = absurd (true≢false (sym in_p))
own_number bases base p q (y ∷ ys) has_p has_q in_p in_q same =
    own_step p q y (list_any (nat_eq p) ys) (list_any (nat_eq q) ys) (has_base bases base y) (count_before bases base p ys) (count_before bases base q ys) (nat_eq p y) (nat_eq q y) refl refl
    (λ at. ap (has_base bases base) (sym (same_place p y at)) ∙ has_p) (λ at. ap (has_base bases base) (sym (same_place q y at)) ∙ has_q) in_p in_q same
    (λ rest_p rest_q rest. own_number bases base p q ys has_p has_q rest_p rest_q rest)

count_step : (b h : Bool) (n len : ℕ) → n ≤ len → cond b 0 (cond h 1 0 + n) ≤ suc len
count_step true h n len low = omega arith
count_step false true n len low = omega arith
count_step false false n len low = omega arith

count_bound : (bases : List (List ℕ)) (base : List ℕ) (p : ℕ) (order : List ℕ) → count_before bases base p order ≤ length order
count_bound bases base p [] = omega arith
count_bound bases base p (y ∷ ys) = count_step (nat_eq p y) (has_base bases base y) _ (length ys) (count_bound bases base p ys)

-- ---- the parts of a name

abbrev number_part : ℕ → List ℕ
number_part n = cond (nat_lt 1 n) (46 ∷ decimal n) []

numbered_with : (b : Bool) (base digits ending : List ℕ) → cond b (base ++ codes "." ++ digits) base ++ ending ≡ base ++ (cond b (46 ∷ digits) [] ++ ending)
numbered_with true base digits ending = simp append_assoc
numbered_with false base digits ending = refl

spelled : (span : Span) (rest : List ℕ) → base_name span ++ rest ≡ service_name span ++ (46 ∷ (own_name span ++ rest))
unfolding base_name
spelled span rest = simp append_assoc

made_of : (span other : Span) → service_name span ≡ service_name other → own_name span ≡ own_name other → base_name span ≡ base_name other
unfolding base_name
made_of span other services owns = ap (λ s. s ++ codes "." ++ own_name span) services ∙ ap (λ n. service_name other ++ codes "." ++ n) owns

word_service : HasNoDot (codes "service")
word_service = (λ is. omega arith, (λ is. omega arith, (λ is. omega arith, (λ is. omega arith, (λ is. omega arith, (λ is. omega arith, (λ is. omega arith, tt)))))))

word_span : HasNoDot (codes "span")
word_span = (λ is. omega arith, (λ is. omega arith, (λ is. omega arith, (λ is. omega arith, tt))))

tail_of_ending : (ending : List ℕ) → IsEnding ending → IsTail ending
tail_of_ending [] is = tt
tail_of_ending (c ∷ cs) is = is.0

tail_with : (b : Bool) (digits ending : List ℕ) → IsEnding ending → IsTail (cond b (46 ∷ digits) [] ++ ending)
tail_with true digits ending is = refl
tail_with false digits ending is = tail_of_ending ending is

still_digit : (xs ys : List ℕ) → begins_with_digit xs ≡ true → begins_with_digit (xs ++ ys) ≡ true
still_digit [] ys is = absurd (true≢false (sym is))
still_digit (x ∷ xs) ys is = is

no_number : (digits ending others : List ℕ) → begins_with_digit digits ≡ true → IsEnding others → 46 ∷ (digits ++ ending) ≡ others → ⊥
no_number digits ending [] begins ends is = cc
no_number digits ending (c ∷ cs) begins ends is =
    let same : digits ++ ending ≡ cs = cc in
    true≢false (sym (still_digit digits ending begins) ∙ ap begins_with_digit same ∙ ends.1)

only_one : (n : ℕ) → 0 < n → nat_lt 1 n ≡ false → n ≡ 1
only_one n some is = grind (arith, nat_tests)

tails_same : (n m : ℕ) (ending others : List ℕ) (b a : Bool) → nat_lt 1 n ≡ b → nat_lt 1 m ≡ a → 0 < n → 0 < m → n < 2 ^ 64 → m < 2 ^ 64 → IsEnding ending → IsEnding others
    → cond b (46 ∷ decimal n) [] ++ ending ≡ cond a (46 ∷ decimal m) [] ++ others → (n ≡ m) × (ending ≡ others)
tails_same n m ending others true true at_n at_m some_n some_m low_n low_m ends_n ends_m is =
    let after : decimal n ++ ending ≡ decimal m ++ others = cc in
    let both = split_end (decimal n) (decimal m) ending others (number_text n low_n).0 (number_text m low_m).0 (tail_of_ending ending ends_n) (tail_of_ending others ends_m) after in
    (decimal_injective n m low_n low_m both.0, both.1)
tails_same n m ending others true false at_n at_m some_n some_m low_n low_m ends_n ends_m is = absurd (no_number (decimal n) ending others (number_text n low_n).1 ends_m is)
tails_same n m ending others false true at_n at_m some_n some_m low_n low_m ends_n ends_m is = absurd (no_number (decimal m) others ending (number_text m low_m).1 ends_n (sym is))
tails_same n m ending others false false at_n at_m some_n some_m low_n low_m ends_n ends_m is = (only_one n some_n at_n ∙ sym (only_one m some_m at_m), is)

-- ---- names at places

names_at : (bases : List (List ℕ)) (order : List ℕ) (xs : List (List ℕ)) (i k : ℕ) (name : List ℕ) → slice_get (names_from bases order i xs) k ≡ Some name
    → (base : List ℕ) × (slice_get xs k ≡ Some base) × (name ≡ with_number base (count_before bases base (i + k) order + 1))
names_at bases order [] i k name at = absurd (no_name name at)
names_at bases order (x ∷ xs) i zero name at =
    let here : i ≡ i + 0 = omega arith in
    (x, refl, sym (same_Some _ _ at) ∙ ap (λ j. with_number x (count_before bases x j order + 1)) here)
names_at bases order (x ∷ xs) i (suc k) name at =
    let rest = names_at bases order xs (i + 1) k name at in
    let here : i + 1 + k ≡ i + suc k = omega arith in
    (rest.0, rest.1, rest.2 ∙ ap (λ j. with_number rest.0 (count_before bases rest.0 j order + 1)) here)

span_of : (o : Option Span) (base : List ℕ) → option_map base_name o ≡ Some base → (span : Span) × (base_name span ≡ base)
span_of None base is = absurd (no_name base is)
span_of (Some span) base is = (span, same_Some _ _ is)

-- what is known of a name
record Known (spans : List Span) (order : List ℕ) (place : ℕ) (name : List ℕ) : Type 0 where
  span : Span
  told : slice_get (map base_name spans) place ≡ Some (base_name span)
  is : name ≡ with_number (base_name span) (count_before (map base_name spans) (base_name span) place order + 1)
  within : place < length spans

known : (spans : List Span) (order : List ℕ) (place : ℕ) (name : List ℕ) → slice_get (names spans order) place ≡ Some name → Known spans order place name
unfolding names
known spans order place name at =
    let bases = map base_name spans in
    let found = names_at bases order bases 0 place name at in
    let spanned = span_of (slice_get spans place) found.0 (sym (slice_get-map base_name spans place) ∙ found.1) in
    let here : 0 + place ≡ place = omega arith in
    record {
      span = spanned.0;
      told = found.1 ∙ ap Some (sym spanned.1);
      is = found.2 ∙ ap (λ j. with_number found.0 (count_before bases found.0 j order + 1)) here ∙ ap (λ base. with_number base (count_before bases base place order + 1)) (sym spanned.1);
      within = subst (λ n. place < n) (length-map spans base_name) (slice_get_within bases place found.0 found.1);
    }

has_own : (bases : List (List ℕ)) (base : List ℕ) (p : ℕ) → slice_get bases p ≡ Some base → has_base bases base p ≡ true
has_own bases base p at = ap (is_same_name base) at ∙ (bytes_eq-Decides base base).1 refl

number_bound : (bases : List (List ℕ)) (base : List ℕ) (p : ℕ) (order : List ℕ) → length order < 2 ^ 63 → count_before bases base p order + 1 < 2 ^ 64
number_bound bases base p order short = omega (arith, count_bound bases base p order)

some_number : (n : ℕ) → 0 < n + 1
some_number n = omega arith

apart : (spans : List Span) (order : List ℕ) → HasAll (length spans) order → length order < 2 ^ 63 → (p q : ℕ) (name same ending others : List ℕ) → Known spans order p name → Known spans order q same → IsEnding ending → IsEnding others
    → name ++ ending ≡ same ++ others → (p ≡ q) × (ending ≡ others)
apart spans order all short p q name same ending others first second ends others_end is =
    let bases = map base_name spans in
    let n = count_before bases (base_name first.span) p order + 1 in
    let m = count_before bases (base_name second.span) q order + 1 in
    let tail_n = number_part n ++ ending in
    let tail_m = number_part m ++ others in
    let whole : service_name first.span ++ (46 ∷ (own_name first.span ++ tail_n)) ≡ service_name second.span ++ (46 ∷ (own_name second.span ++ tail_m)) =
    sym (spelled first.span tail_n)
    ∙ sym (numbered_with (nat_lt 1 n) (base_name first.span) (decimal n) ending)
    ∙ ap (λ text. text ++ ending) (sym first.is)
    ∙ is
    ∙ ap (λ text. text ++ others) second.is
    ∙ numbered_with (nat_lt 1 m) (base_name second.span) (decimal m) others
    ∙ spelled second.span tail_m in
    let services = split_end (service_name first.span) (service_name second.span) (46 ∷ (own_name first.span ++ tail_n)) (46 ∷ (own_name second.span ++ tail_m))
    (no_dot-words_or (codes "service") 20 first.span.service word_service) (no_dot-words_or (codes "service") 20 second.span.service word_service) refl refl whole in
    let after : own_name first.span ++ tail_n ≡ own_name second.span ++ tail_m = let both = services.1 in cc in
    let owns = split_end (own_name first.span) (own_name second.span) tail_n tail_m
    (no_dot-words_or (codes "span") _ first.span.name word_span) (no_dot-words_or (codes "span") _ second.span.name word_span)
    (tail_with (nat_lt 1 n) (decimal n) ending ends) (tail_with (nat_lt 1 m) (decimal m) others others_end) after in
    let one : base_name first.span ≡ base_name second.span = made_of first.span second.span services.0 owns.0 in
    let tails = tails_same n m ending others (nat_lt 1 n) (nat_lt 1 m) refl refl (some_number _) (some_number _)
    (number_bound bases (base_name first.span) p order short) (number_bound bases (base_name second.span) q order short) ends others_end owns.1 in
    let counts : count_before bases (base_name first.span) p order ≡ count_before bases (base_name first.span) q order =
    let same_numbers = tails.0 in
    let other_base : count_before bases (base_name second.span) q order ≡ count_before bases (base_name first.span) q order = ap (λ base. count_before bases base q order) (sym one) in
    omega arith in (
      own_number bases (base_name first.span) p q order (has_own bases _ p first.told) (has_own bases _ q (second.told ∙ ap Some (sym one))) (all p first.within) (all q second.within) counts,
      tails.1,
    )

pub names_apart : NamesAreApart
names_apart spans order all short = λ p q name same ending others at_p at_q ends others_end is.
    apart spans order all short p q name same ending others (known spans order p name at_p) (known spans order q same at_q) ends others_end is
