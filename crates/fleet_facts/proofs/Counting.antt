-- The ticks of a group on a path, stage by stage.
use Rattle.std.proofs.Common.{◌≡◌, ℕ, ◌+◌, ◌<◌, Bool, true, false, List, Option, length, get_or, take, cond, refl, ap, sym, ◌∙◌, arith}
use Rattle.std.specs.Prelude.{◌||◌}
use Rattle.std.specs.List.{list_any, sum_by}
use Rattle.std.proofs.lemmas.Bool.{cond-false, cond-true}
use Rattle.std.proofs.lemmas.List.Folds.{list_any_more}
use Rattle.std.proofs.lemmas.List.Sums.{sum_by_more}
use Rattle.std.proofs.Math.Bool.{or-false}
use Rattle.fleet_summary.specs.Histogram.{capped}
use Rattle.span_groups.specs.Grouping.{counts_to}
use Rattle.span_groups.specs.declared.grouping.Counted.{Counted}
use Rattle.fleet_facts.specs.OnPath.{of_group}

capped_more : (sum more : ℕ) → capped (capped sum + more) ≡ capped (sum + more)
capped_more sum more = omega arith

module _ (ticks : ℕ → ℕ) (stages : List (Option Counted)) (group : ℕ) (path : List ℕ) (k : ℕ) (within : k < length path) where
  abbrev own : ℕ → ℕ
  own place = cond (counts_to stages group place) (ticks place) 0

  -- a stage of the group more
  pub ticks_more : counts_to stages group (get_or path k 0) ≡ true
      → capped (of_group ticks stages group (take k path) + ticks (get_or path k 0)) ≡ of_group ticks stages group (take (k + 1) path)
  ticks_more here =
      capped_more (sum_by own (take k path)) (ticks (get_or path k 0))
      ∙ ap (λ more. capped (sum_by own (take k path) + more)) (sym (cond-true (counts_to stages group (get_or path k 0)) (ticks (get_or path k 0)) 0 here))
      ∙ ap capped (sym (sum_by_more own path k 0 within))

  -- one that is not of it
  pub ticks_same : counts_to stages group (get_or path k 0) ≡ false → of_group ticks stages group (take k path) ≡ of_group ticks stages group (take (k + 1) path)
  ticks_same other =
      let none : own (get_or path k 0) ≡ 0 = cond-false (counts_to stages group (get_or path k 0)) (ticks (get_or path k 0)) 0 other in
      let more : sum_by own (take (k + 1) path) ≡ sum_by own (take k path) + own (get_or path k 0) = sum_by_more own path k 0 within in
      let same : sum_by own (take k path) ≡ sum_by own (take (k + 1) path) = omega (arith, none, more) in
      ap capped same

module _ (stages : List (Option Counted)) (group : ℕ) (path : List ℕ) (k : ℕ) (within : k < length path) where
  pub on_more : counts_to stages group (get_or path k 0) ≡ true → true ≡ list_any (counts_to stages group) (take (k + 1) path)
  on_more here =
      sym (list_any_more (counts_to stages group) path k 0 within ∙ ap (λ b. list_any (counts_to stages group) (take k path) || b) here ∙ or_true (list_any (counts_to stages group) (take k path))) where
        or_true : (b : Bool) → (b || true) ≡ true
        or_true true = refl
        or_true false = refl

  pub on_same : (was : Bool) → was ≡ list_any (counts_to stages group) (take k path) → counts_to stages group (get_or path k 0) ≡ false → was ≡ list_any (counts_to stages group) (take (k + 1) path)
  on_same was so_far other =
      so_far
      ∙ sym (list_any_more (counts_to stages group) path k 0 within ∙ ap (λ b. list_any (counts_to stages group) (take k path) || b) other ∙ or-false (list_any (counts_to stages group) (take k path)))
