-- What holds of each of a list, by recursion.
use Rattle.std.proofs.Common.{◌≡◌, ℕ, suc, zero, ◌<◌, inl, inr, List, [], ◌∷◌, ◌++◌, Bool, true, false, cond, length, map, Some, refl, sym, ap, ◌∙◌, subst, arith}
use Rattle.std.specs.Prelude.{◌⊎◌, Contains, filter, flat_map, slice_get, slice_index_or}
use Rattle.std.proofs.lemmas.Bool.{false≢true}
use Rattle.std.proofs.lemmas.Option.{none-some, same_Some}

abbrev pub Each : {X : Type 0} → (X → Type 0) → List X → Type 0
Each P [] = Unit {0}
Each P (x ∷ xs) = P x × Each P xs

-- one of a list
abbrev pub In : {X : Type 0} → List X → X → Type 0
In [] x = ⊥
In (y ∷ ys) x = (y ≡ x) ⊎ In ys x

pub each-push : {X : Type 0} (P : X → Type 0) (xs : List X) (x : X) → Each P xs → P x → Each P (xs ++ x ∷ [])
each-push P [] x all here = (here, tt)
each-push P (y ∷ ys) x all here = (all.0, each-push P ys x all.1 here)

pub each-append : {X : Type 0} (P : X → Type 0) (xs ys : List X) → Each P xs → Each P ys → Each P (xs ++ ys)
each-append P [] ys all others = others
each-append P (x ∷ xs) ys all others = (all.0, each-append P xs ys all.1 others)

pub each-weaker : {X : Type 0} (P Q : X → Type 0) → ((x : X) → P x → Q x) → (xs : List X) → Each P xs → Each Q xs
each-weaker P Q then [] all = tt
each-weaker P Q then (x ∷ xs) all = (then x all.0, each-weaker P Q then xs all.1)

pub each-in : {X : Type 0} (P : X → Type 0) (xs : List X) → Each P xs → (x : X) → In xs x → P x
each-in P [] all x here = absurd here
each-in P (y ∷ ys) all x (inl same) = subst P same all.0
each-in P (y ∷ ys) all x (inr later) = each-in P ys all.1 x later

pub in-each : {X : Type 0} (P : X → Type 0) (xs : List X) → ((x : X) → In xs x → P x) → Each P xs
in-each P [] each = tt
in-each P (x ∷ xs) each = (each x (inl refl), in-each P xs (λ y here. each y (inr here)))

pub each-map : {X Y : Type 0} (P : Y → Type 0) (f : X → Y) (xs : List X) → Each (λ x. P (f x)) xs → Each P (map f xs)
each-map P f [] all = tt
each-map P f (x ∷ xs) all = (all.0, each-map P f xs all.1)

pub in-append : {X : Type 0} (xs ys : List X) (x : X) → In (xs ++ ys) x → In xs x ⊎ In ys x
in-append [] ys x here = inr here
in-append (z ∷ zs) ys x (inl same) = inl (inl same)
in-append (z ∷ zs) ys x (inr later) = elim (in-append zs ys x later) [ inl front ↦ inl (inr front) | inr back ↦ inr back ]

pub in-at : {X : Type 0} (xs : List X) (k : ℕ) (x : X) → slice_get xs k ≡ Some x → In xs x
in-at [] k x here = absurd (none-some x here)
in-at (y ∷ ys) zero x here = inl (same_Some y x here)
in-at (y ∷ ys) (suc k) x here = inr (in-at ys k x here)

-- what is at a place of a list stays there as the list grows
pub at-append : {X : Type 0} (xs ys : List X) (k : ℕ) (x : X) → slice_get xs k ≡ Some x → slice_get (xs ++ ys) k ≡ Some x
at-append [] ys k x here = absurd (none-some x here)
at-append (z ∷ zs) ys zero x here = here
at-append (z ∷ zs) ys (suc k) x here = at-append zs ys k x here

pub filter_each : {X : Type 0} (test : X → Bool) (xs : List X) → Each (λ x. test x ≡ true) (filter test xs)
filter_each test [] = tt
filter_each test (x ∷ xs) = by_test test x xs (test x) refl (filter_each test xs)
  where
    by_test : {X : Type 0} (test : X → Bool) (x : X) (xs : List X) (b : Bool) → test x ≡ b → Each (λ y. test y ≡ true) (filter test xs) → Each (λ y. test y ≡ true) (cond b (x ∷ filter test xs) (filter test xs))
    by_test test x xs true is rest = (is, rest)
    by_test test x xs false is rest = rest

-- what holds of each holds of each that passes
pub each-filter : {X : Type 0} (P : X → Type 0) (test : X → Bool) (xs : List X) → Each P xs → Each P (filter test xs)
each-filter P test [] all = tt
each-filter P test (x ∷ xs) all = by_test P test x xs (test x) all.0 (each-filter P test xs all.1)
  where
    by_test : {X : Type 0} (P : X → Type 0) (test : X → Bool) (x : X) (xs : List X) (b : Bool) → P x → Each P (filter test xs) → Each P (cond b (x ∷ filter test xs) (filter test xs))
    by_test P test x xs true here rest = (here, rest)
    by_test P test x xs false here rest = rest

pub in_flat_map : {X Y : Type 0} (f : X → List Y) (xs : List X) (y : Y) → In (flat_map f xs) y → (x : X) × In xs x × In (f x) y
in_flat_map f [] y here = absurd here
in_flat_map f (x ∷ xs) y here = elim (in-append (f x) (flat_map f xs) y here) [
  | inl front ↦ (x, inl refl, front)
  | inr back ↦ let rest = in_flat_map f xs y back in (rest.0, inr rest.1, rest.2)
]

pub in-front : {X : Type 0} (xs ys : List X) (x : X) → In xs x → In (xs ++ ys) x
in-front [] ys x here = absurd here
in-front (z ∷ zs) ys x (inl same) = inl same
in-front (z ∷ zs) ys x (inr later) = inr (in-front zs ys x later)

pub in-back : {X : Type 0} (xs ys : List X) (x : X) → In ys x → In (xs ++ ys) x
in-back [] ys x here = here
in-back (z ∷ zs) ys x here = inr (in-back zs ys x here)

pub in_filter : {X : Type 0} (test : X → Bool) (xs : List X) (x : X) → In xs x → test x ≡ true → In (filter test xs) x
in_filter test [] x here passes = absurd here
in_filter test (y ∷ ys) x here passes = by_test test y ys x (test y) refl here (λ later. in_filter test ys x later passes) passes
  where
    by_test : {X : Type 0} (test : X → Bool) (y : X) (ys : List X) (x : X) (b : Bool) → test y ≡ b → (y ≡ x) ⊎ In ys x → (In ys x → In (filter test ys) x) → test x ≡ true → In (cond b (y ∷ filter test ys) (filter test ys)) x
    by_test test y ys x true is (inl same) again passes = inl same
    by_test test y ys x true is (inr later) again passes = inr (again later)
    by_test test y ys x false is (inl same) again passes = absurd (false≢true (sym is ∙ ap test same ∙ passes))
    by_test test y ys x false is (inr later) again passes = again later

in_from_contains : {X : Type 0} (xs : List X) (k : ℕ) (x : X) → k < length xs → slice_index_or xs k x ≡ x → In xs x
in_from_contains [] k x lt is = absurd (omega arith)
in_from_contains (y ∷ ys) zero x lt is = inl is
in_from_contains (y ∷ ys) (suc k) x lt is = inr (in_from_contains ys k x (omega arith) is)

pub contains_in : {X : Type 0} (xs : List X) (x : X) → Contains xs x → In xs x
contains_in xs x (k, lt, is) = in_from_contains xs k x lt is

pub in_contains : {X : Type 0} (xs : List X) (x : X) → In xs x → Contains xs x
in_contains [] x here = absurd here
in_contains (y ∷ ys) x (inl same) = (0, omega arith, same)
in_contains (y ∷ ys) x (inr later) = let rest = in_contains ys x later in (suc rest.0, omega (arith, rest.1), rest.2)

pub in-mapped : {X Y : Type 0} (f : X → Y) (xs : List X) (x : X) → In xs x → In (map f xs) (f x)
in-mapped f [] x here = absurd here
in-mapped f (y ∷ ys) x (inl same) = inl (ap f same)
in-mapped f (y ∷ ys) x (inr later) = inr (in-mapped f ys x later)
