-- Keys: lists of numbers, compared one by one, as words in a dictionary.
use Rattle.std.proofs.Common.{◌≡◌, ℕ, ◌<◌, ◌≤◌, inl, inr, List, [], ◌∷◌, ◌++◌, Bool, true, false, cond, Option, Some, None, refl, sym, ap, ◌∙◌, subst, arith}
use Rattle.std.specs.Prelude.{◌⊎◌, nat_le}
use Rattle.std.proofs.lemmas.Bool.{leb-false, leb-true, lt-leb}
use Rattle.trace_laws.proofs.Each.{Each}

abbrev pub Key : Type 0
Key = List ℕ

abbrev pub Below : Key → Key → Type 0
Below [] [] = ⊥
Below (x ∷ xs) [] = ⊥
Below [] (y ∷ ys) = Unit {0}
Below (x ∷ xs) (y ∷ ys) = (x < y) ⊎ ((x ≡ y) × Below xs ys)

abbrev pub UpTo : Key → Key → Type 0
UpTo a b = (a ≡ b) ⊎ Below a b

pub below-trans : (a b c : Key) → Below a b → Below b c → Below a c
below-trans [] [] c first second = absurd first
below-trans (x ∷ xs) [] c first second = absurd first
below-trans [] (y ∷ ys) [] first second = absurd second
below-trans (x ∷ xs) (y ∷ ys) [] first second = absurd second
below-trans [] (y ∷ ys) (z ∷ zs) first second = tt
below-trans (x ∷ xs) (y ∷ ys) (z ∷ zs) (inl lt) (inl more) = inl (omega arith)
below-trans (x ∷ xs) (y ∷ ys) (z ∷ zs) (inl lt) (inr (same, rest)) = inl (omega arith)
below-trans (x ∷ xs) (y ∷ ys) (z ∷ zs) (inr (same, rest)) (inl lt) = inl (omega arith)
below-trans (x ∷ xs) (y ∷ ys) (z ∷ zs) (inr (same, rest)) (inr (also, others)) = inr (same ∙ also, below-trans xs ys zs rest others)

pub never-below : (a : Key) → Below a a → ⊥
never-below [] below = below
never-below (x ∷ xs) (inl lt) = omega arith
never-below (x ∷ xs) (inr (same, rest)) = never-below xs rest

pub up_to-below : (a b c : Key) → UpTo a b → Below b c → Below a c
up_to-below a b c (inl same) below = subst (λ k. Below k c) (sym same) below
up_to-below a b c (inr first) below = below-trans a b c first below

-- its first number is above a number
abbrev pub IsAbove : ℕ → Key → Type 0
IsAbove n [] = ⊥
IsAbove n (x ∷ xs) = n < x

pub above-below : (n x : ℕ) (xs : List ℕ) (b : Key) → x ≤ n → IsAbove n b → Below (x ∷ xs) b
above-below n x xs [] le above = absurd above
above-below n x xs (y ∷ ys) le above = inl (omega arith)

-- ---- keys of three numbers

pub by_first : (a b : ℕ) (xs ys : List ℕ) → a < b → Below (a ∷ xs) (b ∷ ys)
by_first a b xs ys lt = inl lt

pub by_rest : (a b : ℕ) (xs ys : List ℕ) → a ≤ b → Below xs ys → Below (a ∷ xs) (b ∷ ys)
by_rest a b xs ys le rest = by_test (nat_le b a) refl
  where
    by_test : (t : Bool) → nat_le b a ≡ t → (a < b) ⊎ ((a ≡ b) × Below xs ys)
    by_test true is = let ge : b ≤ a = leb-true b a is in inr (omega arith, rest)
    by_test false is = inl (leb-false b a is)

-- ---- marks: a key stands behind each mark that is not above what it begins with

abbrev pub marked : ℕ → Key → Key
marked mark [] = []
marked mark (x ∷ xs) = cond (nat_le mark x) (mark ∷ x ∷ xs) (x ∷ xs)

abbrev pub marked_if : Option ℕ → Key → Key
marked_if None key = key
marked_if (Some mark) key = marked mark key

first_up_to : (x y : ℕ) (xs ys : List ℕ) → Below (x ∷ xs) (y ∷ ys) → x ≤ y
first_up_to x y xs ys (inl lt) = omega arith
first_up_to x y xs ys (inr (same, rest)) = omega arith

pub marked-below : (mark : ℕ) (a b : Key) → Below a b → Below (marked mark a) (marked mark b)
marked-below mark [] [] below = absurd below
marked-below mark (x ∷ xs) [] below = absurd below
marked-below mark [] (y ∷ ys) below = by_test (nat_le mark y)
  where
    by_test : (q : Bool) → Below [] (cond q (mark ∷ y ∷ ys) (y ∷ ys))
    by_test true = tt
    by_test false = tt
marked-below mark (x ∷ xs) (y ∷ ys) below = by_tests (nat_le mark x) (nat_le mark y) refl refl
  where
    by_tests : (p q : Bool) → nat_le mark x ≡ p → nat_le mark y ≡ q → Below (cond p (mark ∷ x ∷ xs) (x ∷ xs)) (cond q (mark ∷ y ∷ ys) (y ∷ ys))
    by_tests true true first second = inr (refl, below)
    by_tests true false first second =
        let le : mark ≤ x = leb-true mark x first in
        let lt : y < mark = leb-false mark y second in
        let no : x ≤ y = first_up_to x y xs ys below in absurd (omega arith)
    by_tests false true first second = inl (leb-false mark x first)
    by_tests false false first second = below

pub marked_if-below : (mark : Option ℕ) (a b : Key) → Below a b → Below (marked_if mark a) (marked_if mark b)
marked_if-below None a b below = below
marked_if-below (Some mark) a b below = marked-below mark a b below

marked-above : (n mark : ℕ) (a : Key) → n < mark → IsAbove n a → IsAbove n (marked mark a)
marked-above n mark [] lt above = above
marked-above n mark (x ∷ xs) lt above = by_test (nat_le mark x)
  where
    by_test : (q : Bool) → IsAbove n (cond q (mark ∷ x ∷ xs) (x ∷ xs))
    by_test true = lt
    by_test false = above

marked_if-above : (n : ℕ) (mark : Option ℕ) (a : Key) → ((m : ℕ) → mark ≡ Some m → n < m) → IsAbove n a → IsAbove n (marked_if mark a)
marked_if-above n None a lower above = above
marked_if-above n (Some mark) a lower above = marked-above n mark a (lower mark refl) above

smaller : (a b : ℕ) → a ≤ b → (a ≡ b → ⊥) → a < b
smaller a b le differ = by_test (nat_le b a) refl
  where
    by_test : (t : Bool) → nat_le b a ≡ t → a < b
    by_test true is = let ge : b ≤ a = leb-true b a is in absurd (differ (omega arith))
    by_test false is = leb-false b a is

-- a key that does not begin with the mark is not above itself behind it
pub marked-up_to : (mark x : ℕ) (xs : List ℕ) → (mark ≡ x → ⊥) → UpTo (marked mark (x ∷ xs)) (x ∷ xs)
marked-up_to mark x xs differ = by_test (nat_le mark x) refl
  where
    by_test : (q : Bool) → nat_le mark x ≡ q → UpTo (cond q (mark ∷ x ∷ xs) (x ∷ xs)) (x ∷ xs)
    by_test true is = inr (inl (smaller mark x (leb-true mark x is) differ))
    by_test false is = inl refl

pub marked_if-up_to : (mark : Option ℕ) (x : ℕ) (xs : List ℕ) → ((m : ℕ) → mark ≡ Some m → m ≡ x → ⊥) → UpTo (marked_if mark (x ∷ xs)) (x ∷ xs)
marked_if-up_to None x xs differ = inl refl
marked_if-up_to (Some mark) x xs differ = marked-up_to mark x xs (differ mark refl)

-- behind a mark each key is below one that begins above the mark
pub marked-lower : (mark x : ℕ) (xs : List ℕ) (b : Key) → IsAbove mark b → Below (marked mark (x ∷ xs)) b
marked-lower mark x xs [] above = absurd above
marked-lower mark x xs (y ∷ ys) above = by_test (nat_le mark x) refl
  where
    by_test : (q : Bool) → nat_le mark x ≡ q → Below (cond q (mark ∷ x ∷ xs) (x ∷ xs)) (y ∷ ys)
    by_test true is = inl above
    by_test false is = let lt : x < mark = leb-false mark x is in inl (omega arith)

-- ---- behind the marks of spans, from the innermost to the outermost

module _ (marks : ℕ → Option ℕ) where
  abbrev pub behind : List ℕ → Key → Key
  behind [] key = key
  behind (place ∷ places) key = behind places (marked_if (marks place) key)

  pub behind-below : (places : List ℕ) (a b : Key) → Below a b → Below (behind places a) (behind places b)
  behind-below [] a b below = below
  behind-below (place ∷ places) a b below = behind-below places (marked_if (marks place) a) (marked_if (marks place) b) (marked_if-below (marks place) a b below)

  pub behind-append : (places others : List ℕ) (key : Key) → behind (places ++ others) key ≡ behind others (behind places key)
  behind-append [] others key = refl
  behind-append (place ∷ places) others key = behind-append places others (marked_if (marks place) key)

  -- each mark of a span is above a number
  abbrev pub AreLater : ℕ → List ℕ → Type 0
  AreLater n places = Each (λ place. (m : ℕ) → marks place ≡ Some m → n < m) places

  pub behind-above : (n : ℕ) (places : List ℕ) (a : Key) → AreLater n places → IsAbove n a → IsAbove n (behind places a)
  behind-above n [] a later above = above
  behind-above n (place ∷ places) a later above = behind-above n places (marked_if (marks place) a) later.1 (marked_if-above n (marks place) a later.0 above)

  unmarked : (mark : Option ℕ) (x : ℕ) (xs : List ℕ) → ((m : ℕ) → mark ≡ Some m → x < m) → marked_if mark (x ∷ xs) ≡ x ∷ xs
  unmarked None x xs later = refl
  unmarked (Some mark) x xs later = ap (λ b. cond b (mark ∷ x ∷ xs) (x ∷ xs)) (lt-leb mark x (later mark refl))

  -- behind later marks a key is as it was
  pub behind-same : (x : ℕ) (xs : List ℕ) (places : List ℕ) → AreLater x places → behind places (x ∷ xs) ≡ x ∷ xs
  behind-same x xs [] later = refl
  behind-same x xs (place ∷ places) later = ap (behind places) (unmarked (marks place) x xs later.0) ∙ behind-same x xs places later.1

  first_of : Key → ℕ → Type 0
  first_of [] n = ⊥
  first_of (x ∷ xs) n = x ≤ n

  marked-first : (n : ℕ) (mark : Option ℕ) (a : Key) → first_of a n → first_of (marked_if mark a) n
  unfolding first_of
  marked-first n None a first = first
  marked-first n (Some mark) [] first = first
  marked-first n (Some mark) (x ∷ xs) first = by_test (nat_le mark x) refl
    where
      by_test : (q : Bool) → nat_le mark x ≡ q → first_of (cond q (mark ∷ x ∷ xs) (x ∷ xs)) n
      by_test true is = let le : mark ≤ x = leb-true mark x is in omega arith
      by_test false is = first

  behind-first : (n : ℕ) (places : List ℕ) (a : Key) → first_of a n → first_of (behind places a) n
  behind-first n [] a first = first
  behind-first n (place ∷ places) a first = behind-first n places (marked_if (marks place) a) (marked-first n (marks place) a first)

  first-below : (n : ℕ) (a b : Key) → first_of a n → IsAbove n b → Below a b
  unfolding first_of
  first-below n [] b first above = absurd first
  first-below n (x ∷ xs) b first above = above-below n x xs b first above

  -- so it is behind any marks
  pub anywhere-below : (n x : ℕ) (xs : List ℕ) (others places : List ℕ) (a : Key) → x ≤ n → AreLater n places → IsAbove n a → Below (behind others (x ∷ xs)) (behind places a)
  unfolding first_of
  anywhere-below n x xs others places a le later begins =
      first-below n (behind others (x ∷ xs)) (behind places a) (behind-first n others (x ∷ xs) le) (behind-above n places a later begins)
