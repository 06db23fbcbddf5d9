-- Rows taken one after the other.
use Rattle.std.proofs.Common.{◌≡◌, ℕ, ◌+◌, ◌<◌, ◌≤◌, true, false, List, [], ◌∷◌, ◌++◌, length, drop, take, get_or, Option, None, Some, refl, sym, ap, ◌∙◌, drop-cons, add-one}
use Rattle.std.specs.Prelude.{filter_map, is_some}
use Rattle.std.specs.List.{cons_option}
use Rattle.std.proofs.lemmas.List.{at_drop_all, take_more}
use Rattle.std.proofs.lemmas.List.Elements.{filter_map-append}

longer : {Y : Type 0} (found : Option Y) (rest : List Y) → is_some found ≡ true → length (cons_option found rest) ≡ length rest + 1
longer None rest none = cc
longer (Some y) rest some = sym (add-one (length rest))

as_long : {Y : Type 0} (found : Option Y) (rest : List Y) → is_some found ≡ false → length (cons_option found rest) ≡ length rest
as_long None rest none = refl
as_long (Some y) rest some = cc

module _ {X Y : Type 0} (f : X → Option Y) (xs : List X) (i : ℕ) (d : X) (within : i < length xs) where
  one_more : filter_map f (drop i xs) ≡ cons_option (f (get_or xs i d)) (filter_map f (drop (i + 1) xs))
  one_more = ap (filter_map f) (drop-cons xs i d within ∙ ap (λ n. get_or xs i d ∷ drop n xs) (sym (add-one i)))

  -- the next one gives nothing
  pub passes : f (get_or xs i d) ≡ None → filter_map f (drop i xs) ≡ filter_map f (drop (i + 1) xs)
  passes none = one_more ∙ ap (λ y. cons_option y (filter_map f (drop (i + 1) xs))) none

  -- the next one gives this
  pub takes : (y : Y) → f (get_or xs i d) ≡ Some y → filter_map f (drop i xs) ≡ y ∷ filter_map f (drop (i + 1) xs)
  takes y some = one_more ∙ ap (λ y. cons_option y (filter_map f (drop (i + 1) xs))) some

  -- how many are left, where the next one gives something, and where it gives nothing
  pub counts : is_some (f (get_or xs i d)) ≡ true → length (filter_map f (drop i xs)) ≡ length (filter_map f (drop (i + 1) xs)) + 1
  counts some = ap length one_more ∙ longer (f (get_or xs i d)) (filter_map f (drop (i + 1) xs)) some

  pub counts_none : is_some (f (get_or xs i d)) ≡ false → length (filter_map f (drop i xs)) ≡ length (filter_map f (drop (i + 1) xs))
  counts_none none = ap length one_more ∙ as_long (f (get_or xs i d)) (filter_map f (drop (i + 1) xs)) none

-- past the end there is nothing
pub at_the_end : {X Y : Type 0} (f : X → Option Y) (xs : List X) (i : ℕ) → length xs ≤ i → filter_map f (drop i xs) ≡ []
at_the_end f xs i past = at_drop_all (filter_map f) xs i past

-- what one more of a list gives
pub gives_more : {X Y : Type 0} (f : X → Option Y) (xs : List X) (i : ℕ) (d : X) → i < length xs
    → filter_map f (take (i + 1) xs) ≡ filter_map f (take i xs) ++ cons_option (f (get_or xs i d)) []
gives_more f xs i d within = ap (filter_map f) (take_more xs i d within) ∙ filter_map-append f (take i xs) (get_or xs i d ∷ [])
