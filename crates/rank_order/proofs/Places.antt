-- Lists of places in which none stands twice.
use Rattle.std.proofs.Common.{◌≡◌, ℕ, true, false, List, [], ◌∷◌, get_or, sym, ◌∙◌, subst}
use Rattle.std.specs.Prelude.{nat_eq, IsPermutation}
use Rattle.std.specs.List.{AllByRecursion, IsDistinct}
use Rattle.std.specs.List.Sorted.{IsNonDecreasing, IsStrictlyIncreasing}
use Rattle.std.proofs.lemmas.Bool.{eqb-true, eq-eqb, false≢true, true≢false}
use Rattle.std.proofs.lemmas.List.Elements.{All-from_recursion, recursion_from_All, Contains-get_or}
use Rattle.std.proofs.lemmas.List.Sorted.{list_any-IsPermutation}
use Rattle.std.proofs.lemmas.Map.Keys.{IsDistinct-cons, IsDistinct-head, IsDistinct-tail, IsDistinct-IsPermutation, IsStrictlyIncreasing-from_distinct}
use Rattle.rank_order.specs.Lists.{is_among}
use Rattle.rank_order.proofs.Members.{same_tests, false_unless, among_contains, contains_among}

flips : (x y : ℕ) → nat_eq x y ≡ nat_eq y x
flips x y = same_tests (nat_eq x y) (nat_eq y x) (λ same. eq-eqb y x (sym (eqb-true x y same))) (λ same. eq-eqb x y (sym (eqb-true y x same)))

apart_from : (place : ℕ) (places : List ℕ) → is_among place places ≡ false → AllByRecursion (λ y. nat_eq place y ≡ false) places
apart_from place places fresh = recursion_from_All (λ y. nat_eq place y ≡ false) places (λ k d l. false_unless (nat_eq place (get_or places k d)) (λ same.
    false≢true (sym fresh ∙ subst (λ x. is_among x places ≡ true) (sym (eqb-true place (get_or places k d) same)) (contains_among (get_or places k d) places (Contains-get_or places k d l)))))

fresh_from : (place : ℕ) (places : List ℕ) → AllByRecursion (λ y. nat_eq place y ≡ false) places → is_among place places ≡ false
fresh_from place places apart = false_unless (is_among place places) (λ among.
    let here = among_contains place places among in
    true≢false (sym (eq-eqb place (get_or places here.0 place) (sym here.2)) ∙ All-from_recursion (λ y. nat_eq place y ≡ false) places apart here.0 place here.1))

pub among_moved : (places moved : List ℕ) → IsPermutation places moved → (place : ℕ) → is_among place moved ≡ is_among place places
among_moved places moved is place = sym (list_any-IsPermutation (nat_eq place) places moved is)

pub distinct_moved : (places moved : List ℕ) → IsPermutation places moved → IsDistinct nat_eq places → IsDistinct nat_eq moved
distinct_moved places moved is once = IsDistinct-IsPermutation nat_eq flips places moved is once

-- one place more, and one less
pub distinct_more : (place : ℕ) (places moved : List ℕ) → IsPermutation (place ∷ places) moved → is_among place places ≡ false → IsDistinct nat_eq places → IsDistinct nat_eq moved
distinct_more place places moved is fresh once = distinct_moved (place ∷ places) moved is (IsDistinct-cons nat_eq place places (apart_from place places fresh) once)

pub distinct_less : (place : ℕ) (places left : List ℕ) → IsPermutation places (place ∷ left) → IsDistinct nat_eq places → IsDistinct nat_eq left
distinct_less place places left is once = IsDistinct-tail nat_eq place left (distinct_moved places (place ∷ left) is once)

pub gone_less : (place : ℕ) (places left : List ℕ) → IsPermutation places (place ∷ left) → IsDistinct nat_eq places → is_among place left ≡ false
gone_less place places left is once = fresh_from place left (IsDistinct-head nat_eq place left (distinct_moved places (place ∷ left) is once))

-- the first of them, and the others
pub distinct_head : (place : ℕ) (places : List ℕ) → IsDistinct nat_eq (place ∷ places) → is_among place places ≡ false
distinct_head place places once = fresh_from place places (IsDistinct-head nat_eq place places once)

pub distinct_tail : (place : ℕ) (places : List ℕ) → IsDistinct nat_eq (place ∷ places) → IsDistinct nat_eq places
distinct_tail place places once = IsDistinct-tail nat_eq place places once

pub distinct_none : IsDistinct nat_eq []
unfolding IsDistinct
distinct_none = tt

-- in order, they ascend
pub ascends : (places sorted : List ℕ) → IsPermutation places sorted → IsNonDecreasing sorted → IsDistinct nat_eq places → IsStrictlyIncreasing sorted
ascends places sorted is order once = IsStrictlyIncreasing-from_distinct sorted order (distinct_moved places sorted is once)
