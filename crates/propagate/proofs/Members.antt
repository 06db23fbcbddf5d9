-- Tests on lists of places, and what they imply.
use Rattle.std.proofs.Common.{◌≡◌, ℕ, ◌<◌, ◌≤◌, Bool, true, false, List, [], ◌∷◌, ◌++◌, length, get_or, refl, ap, sym, ◌∙◌, inl, inr, ⊎_elim}
use Rattle.std.specs.Prelude.{Contains, slice_get, nat_eq, ◌==◌, ◌||◌, ◌⊎◌}
use Rattle.std.specs.Option.{option_to_list}
use Rattle.std.proofs.lemmas.Option.{slice_get-get_or, slice_get_past}
use Rattle.std.specs.List.{list_any}
use Rattle.std.specs.Cmp.{nat_eq_equiv}
use Rattle.std.proofs.lemmas.Bool.{eqb-true, eq-eqb, or_cases, or_left, or_right}
use Rattle.std.proofs.lemmas.List.Folds.{Any-from_list_any, list_any-from_Any, list_any-append}
use Rattle.std.proofs.lemmas.Map.Views.{list_any-from_Contains, Contains-from_any}
use Rattle.rank_order.specs.Lists.{is_among}

-- tests that imply each other are the same
pub same_tests : (a b : Bool) → (a ≡ true → b ≡ true) → (b ≡ true → a ≡ true) → a ≡ b
same_tests true b f g = sym (f refl)
same_tests false true f g = g refl
same_tests false false f g = refl

pub false_unless : (b : Bool) → (b ≡ true → ⊥) → b ≡ false
false_unless true h = absurd (h refl)
false_unless false h = refl

pub some_passes : (p : ℕ → Bool) (xs : List ℕ) → list_any p xs ≡ true → (x : ℕ) × Contains xs x × (p x ≡ true)
some_passes p xs h = let (k, x, l, e, t) = Any-from_list_any p xs h in (x, (k, l, e), t)

pub passes : (p : ℕ → Bool) (xs : List ℕ) (x : ℕ) → Contains xs x → p x ≡ true → list_any p xs ≡ true
passes p xs x (k, l, e) t = list_any-from_Any p xs (k, x, l, e, t)

pub among_contains : (s : ℕ) (places : List ℕ) → is_among s places ≡ true → Contains places s
among_contains s places h = Contains-from_any {eq = nat_eq} (λ x y e. eqb-true x y e) s places h

pub contains_among : (s : ℕ) (places : List ℕ) → Contains places s → is_among s places ≡ true
contains_among s places h = list_any-from_Contains {eq = nat_eq} nat_eq_equiv s places h

pub among_append : (s : ℕ) (xs ys : List ℕ) → is_among s (xs ++ ys) ≡ (is_among s xs || is_among s ys)
among_append s xs ys = list_any-append (nat_eq s) xs ys

pub among_append_cases : (s : ℕ) (xs ys : List ℕ) → is_among s (xs ++ ys) ≡ true → (is_among s xs ≡ true) ⊎ (is_among s ys ≡ true)
among_append_cases s xs ys h = or_cases (is_among s xs) (is_among s ys) (sym (among_append s xs ys) ∙ h)

pub among_append_left : (s : ℕ) (xs ys : List ℕ) → is_among s xs ≡ true → is_among s (xs ++ ys) ≡ true
among_append_left s xs ys h = among_append s xs ys ∙ or_left (is_among s xs) (is_among s ys) h

pub among_append_right : (s : ℕ) (xs ys : List ℕ) → is_among s ys ≡ true → is_among s (xs ++ ys) ≡ true
among_append_right s xs ys h = among_append s xs ys ∙ or_right (is_among s xs) (is_among s ys) h

-- all feeds of a stage without inner stages are its sources
pub feed_is_source : (feed : ℕ) (sources inner : List ℕ) → inner ≡ [] → is_among feed (sources ++ inner) ≡ true → is_among feed sources ≡ true
feed_is_source feed sources inner none among =
    ⊎_elim (λ here. here) (λ there. absurd (nowhere (ap (is_among feed) (sym none) ∙ there))) (among_append_cases feed sources inner among) where
      nowhere : false ≡ true → ⊥
      nowhere e = cc

pub among_here : (x : ℕ) (xs : List ℕ) → is_among x (x ∷ xs) ≡ true
among_here x xs = or_left (x == x) (is_among x xs) (eq-eqb x x refl)

pub among_later : (s x : ℕ) (xs : List ℕ) → is_among s xs ≡ true → is_among s (x ∷ xs) ≡ true
among_later s x xs h = or_right (s == x) (is_among s xs) h

pub among_cases : (s x : ℕ) (xs : List ℕ) → is_among s (x ∷ xs) ≡ true → (s ≡ x) ⊎ (is_among s xs ≡ true)
among_cases s x xs h = ⊎_elim (λ l. inl (eqb-true s x l)) (λ r. inr r) (or_cases (s == x) (is_among s xs) h)

pub among_push_left : (s u : ℕ) (places : List ℕ) → is_among s places ≡ true → is_among s (places ++ u ∷ []) ≡ true
among_push_left s u places h = among_append_left s places (u ∷ []) h

pub among_push_self : (u : ℕ) (places : List ℕ) → is_among u (places ++ u ∷ []) ≡ true
among_push_self u places = among_append_right u places (u ∷ []) (among_here u [])

pub among_push_cases : (s u : ℕ) (places : List ℕ) → is_among s (places ++ u ∷ []) ≡ true → (is_among s places ≡ true) ⊎ (u ≡ s)
among_push_cases s u places h =
    ⊎_elim (λ l. inl l) (λ r. ⊎_elim (λ e. inr (sym e)) (λ none. absurd (impossible none)) (among_cases s u [] r))
    (among_append_cases s places (u ∷ []) h) where
      impossible : false ≡ true → ⊥
      impossible e = cc

pub flip_eq : (a b : ℕ) → (a == b) ≡ (b == a)
flip_eq a b = same_tests (a == b) (b == a) (λ e. eq-eqb b a (sym (eqb-true a b e))) (λ e. eq-eqb a b (sym (eqb-true b a e)))

pub or_assoc : (a b c : Bool) → ((a || b) || c) ≡ (a || (b || c))
or_assoc true b c = refl
or_assoc false b c = refl

pub or_nothing : (b : Bool) → (b || false) ≡ b
or_nothing true = refl
or_nothing false = refl

-- the picked element of a list is the element at that index
pub picked_within : (s i : ℕ) (xs : List ℕ) → i < length xs → is_among s (option_to_list (slice_get xs i)) ≡ (s == get_or xs i 0)
picked_within s i xs h = ap (λ o. is_among s (option_to_list o)) (slice_get-get_or xs i 0 h) ∙ or_nothing (s == get_or xs i 0)

-- and nothing past the end
pub picked_past : (s i : ℕ) (xs : List ℕ) → length xs ≤ i → is_among s (option_to_list (slice_get xs i)) ≡ false
picked_past s i xs h = ap (λ o. is_among s (option_to_list o)) (slice_get_past xs i h)
