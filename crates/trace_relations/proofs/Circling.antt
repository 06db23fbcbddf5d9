-- Circles of parents, by lines that have all ancestors.
use Rattle.std.proofs.Common.{◌≡◌, ℕ, suc, zero, inl, inr, ◌++◌, ◌+◌, ◌-◌, ◌≤◌, ◌^◌, List, [], ◌∷◌, map, cond, Bool, true, false, true≢false, Option, Some, None, IsTrue, refl, sym, ap, ◌∙◌, arith, rules}
use Rattle.std.specs.Prelude.{◌⊎◌, Vec, nat_eq, length, slice_get}
use Rattle.std.specs.declared.alloc.Global.{Global}
use Rattle.std.specs.List.{range_with_len}
use Rattle.std.specs.Option.{option_eq}
use Rattle.std.proofs.lemmas.Grind.{common_steps}
use Rattle.std.proofs.lemmas.Option.{none-some, same_Some}
use Rattle.std.proofs.Math.Pow.{pow_mono}
use Rattle.trace_relations.specs.declared.ancestry.Line.{Line}
use Rattle.trace_relations.specs.declared.moment.Interval.{Interval}
use Rattle.trace_relations.specs.Ancestry.{first_among, line, most_spans, parent_at, parent_without_circles, without_circles}
use Rattle.trace_relations.specs.Lines.{AreLevels, AreLines, HaveAll, after_line, is_line_first, line_at, line_of_two, parent_by_lines}
use Rattle.trace_relations.proofs.Lineage.{after-none_after, doubled_lines, line-none_after, no_line, none_after}

pub power_more : (k : ℕ) → 2 ^ k + 2 ^ k ≡ 2 ^ (k + 1)
power_more k = grind (arith, common_steps)

pub next_lines : (intervals : List Interval) (parents : List (Option ℕ)) (k : ℕ) (lines : List Line) → AreLines intervals parents (2 ^ k + 2 ^ k) lines → AreLines intervals parents (2 ^ (k + 1)) lines
next_lines intervals parents k lines are = rw power_more at are

circle_first : (intervals : List Interval) (parents : List (Option ℕ)) (lines : List Line) → AreLines intervals parents most_spans lines → (parent : Option ℕ) (place : ℕ) → is_line_first lines parent place ≡ option_eq nat_eq (first_among intervals (line parents most_spans parent)) (Some place)
circle_first intervals parents lines are None place = ap (λ places. option_eq nat_eq (first_among intervals places) (Some place)) (sym (no_line parents most_spans))
circle_first intervals parents lines are (Some parent) place = ap (λ o. option_eq nat_eq o (Some place)) (are parent).1

same_parent : (intervals : List Interval) (parents : List (Option ℕ)) (lines : List Line) → AreLines intervals parents most_spans lines → (place : ℕ) → parent_by_lines lines parents place ≡ parent_without_circles intervals parents place
same_parent intervals parents lines are place = ap (λ b. cond b None (parent_at parents place)) (circle_first intervals parents lines are (parent_at parents place) place)

map_same : {X Y : Type 0} (f g : X → Y) → ((x : X) → f x ≡ g x) → (xs : List X) → map f xs ≡ map g xs
map_same f g same [] = refl
map_same f g same (x ∷ xs) = ap (λ y. y ∷ map f xs) (same x) ∙ ap (λ ys. g x ∷ ys) (map_same f g same xs)

pub parents_by_lines_are : (intervals : List Interval) (parents : List (Option ℕ)) (lines : List Line) (others : List (Option ℕ)) → AreLines intervals parents most_spans lines → others ≡ map (parent_by_lines lines parents) (range_with_len 0 (length parents)) → others ≡ without_circles intervals parents
parents_by_lines_are intervals parents lines others are is = is ∙ map_same _ _ (same_parent intervals parents lines are) (range_with_len 0 (length parents))

-- after `push`
slice_get_push : {X : Type 0} (xs : List X) (x : X) (k : ℕ) (y : X) → slice_get (xs ++ x ∷ []) k ≡ Some y → (slice_get xs k ≡ Some y) ⊎ ((k ≡ length xs) × (y ≡ x))
slice_get_push [] x zero y h = inr (refl, sym (same_Some x y h))
slice_get_push [] x (suc k) y h = absurd (none-some y h)
slice_get_push (z ∷ zs) x zero y h = inl h
slice_get_push (z ∷ zs) x (suc k) y h = elim (slice_get_push zs x k y h) [ inl p ↦ inl p | inr q ↦ inr (ap suc q.0, q.1) ]

-- no level yet
pub no_levels : (intervals : List Interval) (parents : List (Option ℕ)) (levels : List (Vec Line Global)) → levels ≡ [] → AreLevels intervals parents levels
no_levels intervals parents levels e = λ k lines h. absurd (none-some lines (sym (ap (λ all. slice_get all k) e) ∙ h))

-- one more level
pub more_levels : (intervals : List Interval) (parents : List (Option ℕ)) (levels all : List (Vec Line Global)) (lines : Vec Line Global) (k : ℕ) → length levels ≡ k → AreLevels intervals parents levels → AreLines intervals parents (2 ^ k) lines.items → all ≡ levels ++ lines ∷ [] → AreLevels intervals parents all
more_levels intervals parents levels all lines k count are next is = λ j other h. elim (slice_get_push levels lines j other (sym (ap (λ those. slice_get those j) is) ∙ h)) [
  | inl p ↦ are j other p
  | inr q ↦ rw (q.0 ∙ count, q.1) next
]

-- what `are_whole` tells
pub told_whole : (told : Bool) (shown lines : List Line) → told ≡ true → shown ≡ lines → (IsTrue told → (place : ℕ) → (line_at shown place).after ≡ None) → (place : ℕ) → (line_at lines place).after ≡ None
told_whole false shown lines is same whole place = absurd (true≢false (sym is))
told_whole true shown lines is same whole place = ap (λ those. (line_at those place).after) (sym same) ∙ whole (search rules) place

-- no span comes after lines that are whole
none_after_whole : (intervals : List Interval) (parents : List (Option ℕ)) (n : ℕ) (lines : List Line) → AreLines intervals parents n lines → ((place : ℕ) → (line_at lines place).after ≡ None) → (place : ℕ) → after_line parents n (Some place) ≡ None
none_after_whole intervals parents n lines are whole place = sym (are place).0 ∙ whole place

none_after_all : (intervals : List Interval) (parents : List (Option ℕ)) (n : ℕ) (lines : List Line) → AreLines intervals parents n lines → ((place : ℕ) → (line_at lines place).after ≡ None) → (first : Option ℕ) → after_line parents n first ≡ None
none_after_all intervals parents n lines are whole None = none_after parents n
none_after_all intervals parents n lines are whole (Some place) = none_after_whole intervals parents n lines are whole place

power_within : (k : ℕ) → k ≤ 16 → 2 ^ k + (most_spans - 2 ^ k) ≡ most_spans
power_within k le = let most : 2 ^ k ≤ 2 ^ 16 = pow_mono le in omega arith

-- lines that are whole have all ancestors
pub whole_have_all : (intervals : List Interval) (parents : List (Option ℕ)) (k : ℕ) (lines : List Line) → k ≤ 16 → AreLines intervals parents (2 ^ k) lines → ((place : ℕ) → (line_at lines place).after ≡ None) → HaveAll parents (2 ^ k)
whole_have_all intervals parents k lines le are whole = λ first.
    ap (λ n. line parents n first) (sym (power_within k le))
    ∙ line-none_after parents (2 ^ k) (most_spans - 2 ^ k) first (none_after_all intervals parents (2 ^ k) lines are whole first)

-- and are those of as many spans as a trace may have
pub whole_lines : (intervals : List Interval) (parents : List (Option ℕ)) (k : ℕ) (lines : List Line) → k ≤ 16 → AreLines intervals parents (2 ^ k) lines → ((place : ℕ) → (line_at lines place).after ≡ None) → AreLines intervals parents most_spans lines
whole_lines intervals parents k lines le are whole = λ place. (
  whole place
      ∙ sym (after-none_after parents (2 ^ k) (most_spans - 2 ^ k) (Some place) (none_after_whole intervals parents (2 ^ k) lines are whole place))
      ∙ ap (λ n. after_line parents n (Some place)) (power_within k le),
  (are place).1 ∙ ap (λ places. first_among intervals places) (sym (whole_have_all intervals parents k lines le are whole (Some place))),
)

-- lines of 2^16 spans do
pub power_has_all : (parents : List (Option ℕ)) (k : ℕ) → k ≡ 16 → HaveAll parents (2 ^ k)
power_has_all parents k e = λ first. ap (λ n. line parents (2 ^ n) first) (sym e)

-- lines that were doubled 16 times have all ancestors
pub all_lines : (intervals : List Interval) (parents : List (Option ℕ)) (k : ℕ) (lines : List Line) → k ≡ 16 → AreLines intervals parents (2 ^ k) lines → AreLines intervals parents most_spans lines
all_lines intervals parents k lines e are = rw e at are

-- and twice as many
pub lines_doubled : (intervals : List Interval) (parents : List (Option ℕ)) (k : ℕ) (lines shown more : List Line) → shown ≡ lines → AreLines intervals parents (2 ^ k) lines → ((place : ℕ) → line_at more place ≡ line_of_two intervals shown place) → AreLines intervals parents (2 ^ (k + 1)) more
lines_doubled intervals parents k lines shown more e are is =
    next_lines intervals parents k more (doubled_lines intervals parents (2 ^ k) lines more are (λ place. is place ∙ ap (λ those. line_of_two intervals those place) e))
