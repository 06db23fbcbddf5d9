-- What is found of places, one after the other.
use Rattle.std.proofs.Common.{◌≡◌, ℕ, ◌+◌, Bool, true, false, List, [], ◌∷◌, ◌++◌, Option, Some, None, refl, ap, sym, ◌∙◌, arith}
use Rattle.std.specs.Prelude.{◌||◌, filter_map, sum_by}
use Rattle.std.specs.List.{cons_option, list_any, range_with_len}
use Rattle.std.specs.Option.{option_to_list}
use Rattle.std.proofs.Math.Bool.{or-false}
use Rattle.std.proofs.lemmas.List.Elements.{filter_map-append}
use Rattle.std.proofs.lemmas.List.Folds.{list_any-append}
use Rattle.std.proofs.lemmas.List.Sums.{sum_by_push}
use Rattle.time_sweep.proofs.Hurrying.{range_more}
use Rattle.fleet_summary.specs.Histogram.{capped}

capped_more : (sum more : ℕ) → capped (capped sum + more) ≡ capped (sum + more)
capped_more sum more = omega arith

-- a sum that ends at the greatest number, with one place more
pub sum_more : (ticks : ℕ → ℕ) (place : ℕ) → capped (capped (sum_by ticks (range_with_len 0 place)) + ticks place) ≡ capped (sum_by ticks (range_with_len 0 (place + 1)))
sum_more ticks place =
    capped_more (sum_by ticks (range_with_len 0 place)) (ticks place)
    ∙ ap capped (sym (ap (sum_by ticks) (range_more place) ∙ sum_by_push ticks (range_with_len 0 place) place))

-- whether one is there, with one place more
pub any_more : (p : ℕ → Bool) (place : ℕ) → list_any p (range_with_len 0 (place + 1)) ≡ (list_any p (range_with_len 0 place) || p place)
any_more p place =
    ap (list_any p) (range_more place)
    ∙ list_any-append p (range_with_len 0 place) (place ∷ [])
    ∙ ap (λ b. list_any p (range_with_len 0 place) || b) (or-false (p place))

or_true : (b : Bool) → (b || true) ≡ true
or_true true = refl
or_true false = refl

pub any_here : (p : ℕ → Bool) (place : ℕ) → p place ≡ true → true ≡ list_any p (range_with_len 0 (place + 1))
any_here p place here = sym (any_more p place ∙ ap (λ b. list_any p (range_with_len 0 place) || b) here ∙ or_true (list_any p (range_with_len 0 place)))

pub any_not : (p : ℕ → Bool) (place : ℕ) (was : Bool) → was ≡ list_any p (range_with_len 0 place) → p place ≡ false → was ≡ list_any p (range_with_len 0 (place + 1))
any_not p place was so_far other =
    so_far ∙ sym (any_more p place ∙ ap (λ b. list_any p (range_with_len 0 place) || b) other ∙ or-false (list_any p (range_with_len 0 place)))

-- those that are there, with one place more
pub found_more : {X : Type 0} (at : ℕ → Option X) (place : ℕ) (found : List X) (own : Option X) → found ≡ filter_map at (range_with_len 0 place) → own ≡ at place
    → found ++ option_to_list own ≡ filter_map at (range_with_len 0 (place + 1))
found_more {X} at place found own are is =
    ap (λ (before : List X). before ++ option_to_list own) are
    ∙ ap (λ (one : List X). filter_map at (range_with_len 0 place) ++ one) (listed own ∙ ap (λ (one : Option X). cons_option one []) is)
    ∙ sym (filter_map-append at (range_with_len 0 place) (place ∷ []))
    ∙ ap (filter_map at) (sym (range_more place)) where
      listed : (one : Option X) → option_to_list one ≡ cons_option one []
      listed None = refl
      listed (Some x) = refl
