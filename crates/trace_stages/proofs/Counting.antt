-- How numbers go on with one more span.
use Rattle.std.proofs.Common.{◌≡◌, ℕ, ◌+◌, ◌<◌, List, [], ◌∷◌, ◌++◌, Bool, true, false, cond, Option, Some, None, append_assoc, drop, get_or, length, refl, sym, ap, ◌∙◌, ⊎_elim, arith}
use Rattle.std.specs.Prelude.{◌||◌, String, bytes_eq, nat_eq, slice_get, unwrap_or}
use Rattle.std.specs.HashMap.{HashMap, get_by_text}
use Rattle.std.specs.List.{list_any}
use Rattle.std.specs.Option.{option_or}
use Rattle.std.specs.declared.alloc.Global.{Global}
use Rattle.std.proofs.lemmas.Bool.{cases_Bool, false_from_ne_true, false≢true, true≢false}
use Rattle.std.proofs.lemmas.Bool.Decides.{nat_tests}
use Rattle.std.proofs.lemmas.List.Folds.{list_any-append}
use Rattle.std.proofs.lemmas.List.Sums.{sum_by-append}
use Rattle.std.proofs.lemmas.List.{at_drop_more}
use Rattle.std.proofs.lemmas.Option.{same_Some}
use Rattle.std.proofs.lemmas.Slice.Eq.{bytes_eq-Decides}
use Rattle.trace_stages.specs.Names.{count_before, has_base, is_same_name, names_from, with_number}
use Rattle.trace_stages.specs.Numbers.{AreCounts, AreNumbers, count_of, number_of}

none_yet : (b : Bool) (n : ℕ) → cond b 0 (n + 0) ≡ cond b 0 (0 + n)
none_yet true n = refl
none_yet false n = omega arith

one_more : (b a e : Bool) (first after before count last : ℕ) → after ≡ cond a before (cond e count (count + last))
    → cond b 0 (first + after) ≡ cond (b || a) (cond b 0 (first + before)) (cond e (first + count) ((first + count) + last))
one_more true a e first after before count last is = refl
one_more false true e first after before count last is = ap (λ n. first + n) is
one_more false false true first after before count last is = ap (λ n. first + n) is
one_more false false false first after before count last is = omega arith

count_first : (bases : List (List ℕ)) (base : List ℕ) (y : ℕ) (ys : List ℕ) → cond (has_base bases base y) 1 0 + count_of bases ys base ≡ count_of bases (y ∷ ys) base
count_first bases base y ys = sym (sum_by-append (λ place. cond (has_base bases base place) 1 0) (y ∷ []) ys ∙ omega arith)

-- those before a place, where one more place comes last
count_before_more : (bases : List (List ℕ)) (base : List ℕ) (p x : ℕ) (xs : List ℕ) → count_before bases base p (xs ++ x ∷ []) ≡ cond (list_any (nat_eq p) xs) (count_before bases base p xs) (cond (nat_eq p x) (count_of bases xs base) (count_of bases xs base + cond (has_base bases base x) 1 0))
count_before_more bases base p x [] = none_yet (nat_eq p x) (cond (has_base bases base x) 1 0)
count_before_more bases base p x (y ∷ ys) =
    one_more (nat_eq p y) (list_any (nat_eq p) ys) (nat_eq p x) (cond (has_base bases base y) 1 0) _ (count_before bases base p ys) (count_of bases ys base) (cond (has_base bases base x) 1 0) (count_before_more bases base p x ys)
    ∙ ap (λ n. cond (list_any (nat_eq p) (y ∷ ys)) (count_before bases base p (y ∷ ys)) (cond (nat_eq p x) n (n + cond (has_base bases base x) 1 0))) (count_first bases base y ys)

none_is : (b a : Bool) (first before count : ℕ) → (b || a) ≡ false → (a ≡ false → before ≡ count) → cond b 0 (first + before) ≡ first + count
none_is true a first before count none rest = absurd (true≢false none)
none_is false a first before count none rest = ap (λ n. first + n) (rest none)

-- all come before a place that is not among them
pub count_before_none : (bases : List (List ℕ)) (base : List ℕ) (p : ℕ) (xs : List ℕ) → list_any (nat_eq p) xs ≡ false → count_before bases base p xs ≡ count_of bases xs base
count_before_none bases base p [] none = refl
count_before_none bases base p (y ∷ ys) none = none_is (nat_eq p y) (list_any (nat_eq p) ys) _ _ _ none (count_before_none bases base p ys) ∙ count_first bases base y ys

chosen : (a e : Bool) (before count more : ℕ) → cond (a || (e || false)) (Some (cond a before (cond e count more) + 1)) None ≡ option_or (cond a (Some (before + 1)) None) (cond e (Some (count + 1)) None)
chosen true e before count more = refl
chosen false true before count more = refl
chosen false false before count more = refl

number_more : (bases : List (List ℕ)) (base : List ℕ) (p x : ℕ) (xs : List ℕ) → number_of bases (xs ++ x ∷ []) p (Some base) ≡ option_or (number_of bases xs p (Some base)) (cond (nat_eq p x) (Some (count_of bases xs base + 1)) None)
number_more bases base p x xs =
    ap (λ b. cond b (Some (count_before bases base p (xs ++ x ∷ []) + 1)) None) (list_any-append (nat_eq p) xs (x ∷ []))
    ∙ ap (λ n. cond (list_any (nat_eq p) xs || (nat_eq p x || false)) (Some (n + 1)) None) (count_before_more bases base p x xs)
    ∙ chosen (list_any (nat_eq p) xs) (nat_eq p x) (count_before bases base p xs) (count_of bases xs base) _

count_more : (bases : List (List ℕ)) (base : List ℕ) (x : ℕ) (xs : List ℕ) → count_of bases (xs ++ x ∷ []) base ≡ count_of bases xs base + cond (has_base bases base x) 1 0
count_more bases base x xs = sum_by-append (λ place. cond (has_base bases base place) 1 0) xs (x ∷ []) ∙ omega arith

same_text : (a b : List ℕ) → bytes_eq a b ≡ bytes_eq b a
same_text a b = ⊎_elim (λ is. is ∙ sym ((bytes_eq-Decides b a).1 (sym ((bytes_eq-Decides a b).0 is)))) (λ is. is ∙ sym (false_from_ne_true _ (λ e. false≢true (sym is ∙ (bytes_eq-Decides a b).1 (sym ((bytes_eq-Decides b a).0 e)))))) (cases_Bool (bytes_eq a b))

with_one : (bases : List (List ℕ)) (xs base q : List ℕ) (number before : ℕ) (b : Bool) → bytes_eq base q ≡ b → number ≡ count_of bases xs base + 1 → before ≡ count_of bases xs q → cond b number before ≡ count_of bases xs q + cond b 1 0
with_one bases xs base q number before true same is was = is ∙ ap (λ those. count_of bases xs those + 1) ((bytes_eq-Decides base q).0 same)
with_one bases xs base q number before false same is was = was ∙ omega arith

-- counted once more
pub counted : {S : Type 0} (counts new : HashMap (String Global) ℕ S) (bases : List (List ℕ)) (base : List ℕ) (xs : List ℕ) (x number : ℕ) → slice_get bases x ≡ Some base → AreCounts counts bases xs → number ≡ unwrap_or (get_by_text counts base) 0 + 1
    → ((other : List ℕ) → unwrap_or (get_by_text new other) 0 ≡ cond (bytes_eq base other) number (unwrap_or (get_by_text counts other) 0)) → AreCounts new bases (xs ++ x ∷ [])
counted counts new bases base xs x number at are is updated q =
    updated q
    ∙ with_one bases xs base q number _ (bytes_eq base q) refl (is ∙ ap (λ n. n + 1) (are base)) (are q)
    ∙ sym (count_more bases q x xs ∙ ap (λ o. count_of bases xs q + cond (is_same_name q o) 1 0) at ∙ ap (λ b. count_of bases xs q + cond b 1 0) (same_text q base))

or_none : (o : Option ℕ) → o ≡ option_or o None
or_none None = refl
or_none (Some n) = refl

pub no_name : (base : List ℕ) → None ≡ Some base → ⊥
no_name base is = cc

given : (bases : List (List ℕ)) (xs : List ℕ) (p x number : ℕ) (base : List ℕ) (o : Option (List ℕ)) (e : Bool) → (e ≡ true → o ≡ Some base) → number ≡ count_of bases xs base + 1 → nat_eq p x ≡ e
    → cond e (option_or (number_of bases xs p o) (Some number)) (number_of bases xs p o) ≡ number_of bases (xs ++ x ∷ []) p o
given bases xs p x number base None true here is at = absurd (no_name base (here refl))
given bases xs p x number base None false here is at = refl
given bases xs p x number base (Some other) true here is at =
    let same : other ≡ base = same_Some other base (here refl) in
    ap (λ n. option_or (number_of bases xs p (Some other)) (Some n)) (is ∙ ap (λ those. count_of bases xs those + 1) (sym same))
    ∙ ap (λ b. option_or (number_of bases xs p (Some other)) (cond b (Some (count_of bases xs other + 1)) None)) (sym at)
    ∙ sym (number_more bases other p x xs)
given bases xs p x number base (Some other) false here is at =
    or_none (number_of bases xs p (Some other))
    ∙ ap (λ b. option_or (number_of bases xs p (Some other)) (cond b (Some (count_of bases xs other + 1)) None)) (sym at)
    ∙ sym (number_more bases other p x xs)

pub same_place : (p x : ℕ) → nat_eq p x ≡ true → p ≡ x
same_place p x is = grind (arith, nat_tests)

-- one more span has its number
pub numbered : (numbers new : List (Option ℕ)) (bases : List (List ℕ)) (base : List ℕ) (xs : List ℕ) (x number : ℕ) → slice_get bases x ≡ Some base → AreNumbers numbers bases xs → number ≡ count_of bases xs base + 1 → length new ≡ length numbers
    → ((other : ℕ) → unwrap_or (slice_get new other) None ≡ cond (nat_eq other x) (option_or (unwrap_or (slice_get numbers other) None) (Some number)) (unwrap_or (slice_get numbers other) None)) → AreNumbers new bases (xs ++ x ∷ [])
numbered numbers new bases base xs x number at are is kept updated = (
  kept ∙ are.0,
  λ p.
      updated p
      ∙ ap (λ n. cond (nat_eq p x) (option_or n (Some number)) n) (are.1 p)
      ∙ given bases xs p x number base (slice_get bases p) (nat_eq p x) (λ e. ap (slice_get bases) (same_place p x e) ∙ at) is refl,
)

-- what is no span counts for nothing
pub uncounted : {S : Type 0} (counts : HashMap (String Global) ℕ S) (bases : List (List ℕ)) (xs : List ℕ) (x : ℕ) → slice_get bases x ≡ None → AreCounts counts bases xs → AreCounts counts bases (xs ++ x ∷ [])
uncounted counts bases xs x at are q = are q ∙ sym (count_more bases q x xs ∙ ap (λ o. count_of bases xs q + cond (is_same_name q o) 1 0) at ∙ omega arith)

other_place : (bases : List (List ℕ)) (p x : ℕ) (name : List ℕ) → slice_get bases x ≡ None → slice_get bases p ≡ Some name → nat_eq p x ≡ false
other_place bases p x name none some = false_from_ne_true _ (λ e. no_name name (sym none ∙ ap (slice_get bases) (sym (same_place p x e)) ∙ some))

kept_number : (bases : List (List ℕ)) (xs : List ℕ) (p x : ℕ) (o : Option (List ℕ)) → ((name : List ℕ) → o ≡ Some name → nat_eq p x ≡ false) → number_of bases xs p o ≡ number_of bases (xs ++ x ∷ []) p o
kept_number bases xs p x None other = refl
kept_number bases xs p x (Some name) other =
    or_none (number_of bases xs p (Some name))
    ∙ ap (λ b. option_or (number_of bases xs p (Some name)) (cond b (Some (count_of bases xs name + 1)) None)) (sym (other name refl))
    ∙ sym (number_more bases name p x xs)

pub unnumbered : (numbers : List (Option ℕ)) (bases : List (List ℕ)) (xs : List ℕ) (x : ℕ) → slice_get bases x ≡ None → AreNumbers numbers bases xs → AreNumbers numbers bases (xs ++ x ∷ [])
unnumbered numbers bases xs x at are = (are.0, λ p. are.1 p ∙ kept_number bases xs p x (slice_get bases p) (λ name some. other_place bases p x name at some))

told : (bases : List (List ℕ)) (order : List ℕ) (p : ℕ) (base : List ℕ) (n count : ℕ) (o : Option ℕ) (b : Bool) → list_any (nat_eq p) order ≡ b → o ≡ cond b (Some (count_before bases base p order + 1)) None → count ≡ count_of bases order base → unwrap_or o (count + 1) ≡ count_before bases base p order + 1
told bases order p base n count o true any is of = ap (λ those. unwrap_or those (count + 1)) is
told bases order p base n count o false any is of = ap (λ those. unwrap_or those (count + 1)) is ∙ ap (λ m. m + 1) (of ∙ sym (count_before_none bases base p order any))

-- the number of a span, whether the order has it or not
pub number_told : (bases : List (List ℕ)) (order : List ℕ) (p count : ℕ) (base : List ℕ) (numbers : List (Option ℕ)) → AreNumbers numbers bases order → slice_get bases p ≡ Some base → count ≡ count_of bases order base → unwrap_or (unwrap_or (slice_get numbers p) None) (count + 1) ≡ count_before bases base p order + 1
number_told bases order p count base numbers are at of = told bases order p base count count _ (list_any (nat_eq p) order) refl (are.1 p ∙ ap (number_of bases order p) at) of

-- one more name
pub named : (bases names new : List (List ℕ)) (order : List ℕ) (place number : ℕ) (base name : List ℕ) → place < length bases → base ≡ get_or bases place base → number ≡ count_before bases base place order + 1 → name ≡ with_number base number → new ≡ names ++ name ∷ []
    → names_from bases order 0 bases ≡ names ++ names_from bases order place (drop place bases) → names_from bases order 0 bases ≡ new ++ names_from bases order (place + 1) (drop (place + 1) bases)
named bases names new order place number base name within is counts tells added so_far =
    let rest = names_from bases order (place + 1) (drop (place + 1) bases) in
    so_far
    ∙ ap (λ those. names ++ those) (at_drop_more (names_from bases order place) bases place base within)
    ∙ ap (λ b. names ++ (with_number b (count_before bases b place order + 1) ∷ rest)) (sym is)
    ∙ ap (λ n. names ++ (n ∷ rest)) (sym (tells ∙ ap (with_number base) counts))
    ∙ sym (append_assoc names (name ∷ []) rest)
    ∙ ap (λ those. those ++ rest) (sym added)
