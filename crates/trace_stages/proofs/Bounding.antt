-- Lines of ancestors, one after the other, and when the first caller ended that gave one of their spans up.
use Rattle.std.proofs.Common.{◌≡◌, ℕ, suc, zero, ◌+◌, ◌-◌, ◌≤◌, ◌^◌, List, [], ◌∷◌, ◌++◌, Bool, true, false, true≢false, IsTrue, Option, Some, None, refl, sym, ap, ◌∙◌, arith, rules, zero-add}
use Rattle.std.specs.Prelude.{◌&&◌, ◌||◌, ◌==◌, nat_lt, fold}
use Rattle.std.proofs.lemmas.Bool.{false≢true}
use Rattle.std.proofs.lemmas.Bool.Decides.{nat_tests}
use Rattle.std.proofs.lemmas.List.{append-nil}
use Rattle.std.proofs.lemmas.List.Sums.{fold-append}
use Rattle.std.proofs.Math.Pow.{pow_mono}
use Rattle.trace_relations.specs.declared.moment.Moment.{Moment}
use Rattle.trace_relations.specs.Ancestry.{ancestors, line, most_spans, parent_at}
use Rattle.trace_relations.specs.Lines.{after_line}
use Rattle.trace_relations.specs.Moments.{is_before, turn_number}
use Rattle.trace_relations.specs.Relations.{PlainRelations}
use Rattle.trace_relations.proofs.Circling.{power_more}
use Rattle.trace_relations.proofs.Lineage.{line-add, line-none_after, no_line, none_after}
use Rattle.trace_stages.specs.BoundLines.{AreLines, AreWhole, followed_by, line_at, line_of_one, line_of_two}
use Rattle.trace_stages.specs.Bounds.{bound, callers_end, earlier_moment, earliest_end}
use Rattle.trace_stages.specs.declared.bounds.BoundLine.{BoundLine}

-- ---- the earlier of three

abbrev is_first : ℕ → ℕ → ℕ → ℕ → Bool
is_first a b x y = nat_lt a b || (a == b && nat_lt x y)

first_on : (a b c x y z : ℕ) → is_first a b x y ≡ true → is_first b c y z ≡ true → is_first a c x z ≡ true
first_on a b c x y z p q = grind (arith, nat_tests)

first_over : (a b c x y z : ℕ) → is_first c a z x ≡ true → is_first b a y x ≡ false → is_first c b z y ≡ true
first_over a b c x y z p q = grind (arith, nat_tests)

before_on : (x y z : Moment) → is_before z y ≡ true → is_before y x ≡ true → is_before z x ≡ true
before_on x y z = first_on z.tick y.tick x.tick (turn_number z.turn) (turn_number y.turn) (turn_number x.turn)

before_over : (x y z : Moment) → is_before z x ≡ true → is_before y x ≡ false → is_before z y ≡ true
before_over x y z = first_over x.tick y.tick z.tick (turn_number x.turn) (turn_number y.turn) (turn_number z.turn)

earlier_of_three : (x y z : Moment) (zy yx zx : Bool) → is_before z y ≡ zy → is_before y x ≡ yx → is_before z x ≡ zx → earlier_moment (Some x) (earlier_moment (Some y) (Some z)) ≡ earlier_moment (earlier_moment (Some x) (Some y)) (Some z)
earlier_of_three x y z true true true p q r = rw (p, q) (rw (r, p) refl)
earlier_of_three x y z true true false p q r = absurd (false≢true (sym r ∙ before_on x y z p q))
earlier_of_three x y z true false zx p q r = rw (p, q) refl
earlier_of_three x y z false true zx p q r = rw (p, q) (rw p refl)
earlier_of_three x y z false false true p q r = absurd (false≢true (sym p ∙ before_over x y z r q))
earlier_of_three x y z false false false p q r = rw (p, q) (rw r refl)

earlier_none : (moment : Option Moment) → earlier_moment moment None ≡ moment
earlier_none None = refl
earlier_none (Some it) = refl

earlier_three : (first second third : Option Moment) → earlier_moment first (earlier_moment second third) ≡ earlier_moment (earlier_moment first second) third
earlier_three None second third = refl
earlier_three (Some x) None third = refl
earlier_three (Some x) (Some y) None = sym (earlier_none (earlier_moment (Some x) (Some y)))
earlier_three (Some x) (Some y) (Some z) = earlier_of_three x y z _ _ _ refl refl refl

-- ---- the earliest of two lines

abbrev earliest_from : PlainRelations → Option Moment → List ℕ → Option Moment
earliest_from relations first places = fold (λ so_far place. earlier_moment so_far (callers_end relations place)) first places

earliest_after : (relations : PlainRelations) (first : Option Moment) (places : List ℕ) → earliest_from relations first places ≡ earlier_moment first (earliest_end relations places)
earliest_after relations first [] = sym (earlier_none first)
earliest_after relations first (place ∷ places) =
    earliest_after relations (earlier_moment first (callers_end relations place)) places
    ∙ sym (earlier_three first (callers_end relations place) (earliest_end relations places))
    ∙ ap (λ those. earlier_moment first those) (sym (earliest_after relations (callers_end relations place) places))

earliest-append : (relations : PlainRelations) (places others : List ℕ) → earliest_end relations (places ++ others) ≡ earlier_moment (earliest_end relations places) (earliest_end relations others)
earliest-append relations places others =
    fold-append (λ so_far place. earlier_moment so_far (callers_end relations place)) None places others
    ∙ earliest_after relations (earliest_end relations places) others

suc_sum : (m n : ℕ) → suc m + n ≡ suc (m + n)
suc_sum m n = omega arith

after-add : (parents : List (Option ℕ)) (m n : ℕ) (first : Option ℕ) → after_line parents (m + n) first ≡ after_line parents n (after_line parents m first)
unfolding after_line
after-add parents zero n first = ap (λ k. after_line parents k first) (zero-add n)
after-add parents (suc m) n None = none_after parents (suc m + n) ∙ sym (none_after parents n)
after-add parents (suc m) n (Some place) = ap (λ k. after_line parents k (Some place)) (suc_sum m n) ∙ after-add parents m n (parent_at parents place)

-- the line after a line
next_line : (relations : PlainRelations) (n : ℕ) (lines : List BoundLine) → AreLines relations n lines → (here : BoundLine) (places : List ℕ) → here.bound ≡ earliest_end relations places → (next : Option ℕ) → here.after ≡ next → ((followed_by relations lines here next).after ≡ after_line relations.parents n next) × ((followed_by relations lines here next).bound ≡ earliest_end relations (places ++ line relations.parents n next))
next_line relations n lines are here places is None ends = (
  ends ∙ sym (none_after relations.parents n),
  is ∙ ap (λ others. earliest_end relations others) (sym (append-nil places) ∙ ap (λ others. places ++ others) (sym (no_line relations.parents n))),
)
next_line relations n lines are here places is (Some next) goes = (
  (are next).0,
  ap (λ moment. earlier_moment moment (line_at relations lines next).bound) is
      ∙ ap (λ moment. earlier_moment (earliest_end relations places) moment) (are next).1
      ∙ sym (earliest-append relations places (line relations.parents n (Some next))),
)

-- a line and the next make one of twice as many
pub doubled_lines : (relations : PlainRelations) (n : ℕ) (lines more : List BoundLine) → AreLines relations n lines → ((place : ℕ) → line_at relations more place ≡ line_of_two relations lines place) → AreLines relations (n + n) more
doubled_lines relations n lines more are is = λ place.
    let here = line_at relations lines place in
    let next = next_line relations n lines are here (line relations.parents n (Some place)) (are place).1 here.after refl in (
      ap (λ those. those.after) (is place) ∙ next.0 ∙ ap (λ o. after_line relations.parents n o) (are place).0 ∙ sym (after-add relations.parents n n (Some place)),
      ap (λ those. those.bound) (is place)
          ∙ next.1
          ∙ ap (λ o. earliest_end relations (line relations.parents n (Some place) ++ line relations.parents n o)) (are place).0
          ∙ ap (λ places. earliest_end relations places) (sym (line-add relations.parents n n (Some place))),
    )

-- lines of one span
pub first_lines : (relations : PlainRelations) (lines : List BoundLine) → ((place : ℕ) → line_at relations lines place ≡ line_of_one relations place) → AreLines relations 1 lines
unfolding line after_line
first_lines relations lines is = λ place. (ap (λ those. those.after) (is place), ap (λ those. those.bound) (is place))

lines_of_power : (relations : PlainRelations) (k : ℕ) (lines : List BoundLine) → AreLines relations (2 ^ k + 2 ^ k) lines → AreLines relations (2 ^ (k + 1)) lines
lines_of_power relations k lines are = rw power_more at are

-- lines that were doubled once more
pub lines_doubled : (relations : PlainRelations) (k : ℕ) (lines shown more : List BoundLine) → shown ≡ lines → AreLines relations (2 ^ k) lines → ((place : ℕ) → line_at relations more place ≡ line_of_two relations shown place) → AreLines relations (2 ^ (k + 1)) more
lines_doubled relations k lines shown more same are is =
    lines_of_power relations k more (doubled_lines relations (2 ^ k) lines more are (λ place. is place ∙ ap (λ those. line_of_two relations those place) same))

pub told_whole : (relations : PlainRelations) (told : Bool) (shown lines : List BoundLine) → told ≡ true → shown ≡ lines → (IsTrue told → (place : ℕ) → (line_at relations shown place).after ≡ None) → (place : ℕ) → (line_at relations lines place).after ≡ None
told_whole relations false shown lines is same whole place = absurd (true≢false (sym is))
told_whole relations true shown lines is same whole place = ap (λ those. (line_at relations those place).after) (sym same) ∙ whole (search rules) place

power_within : (k : ℕ) → k ≤ 16 → 2 ^ k + (most_spans - 2 ^ k) ≡ most_spans
power_within k le = let most : 2 ^ k ≤ 2 ^ 16 = pow_mono le in omega arith

-- after which no span comes
pub whole_by_ends : (relations : PlainRelations) (k : ℕ) (lines : List BoundLine) → k ≤ 16 → AreLines relations (2 ^ k) lines → ((place : ℕ) → (line_at relations lines place).after ≡ None) → AreWhole relations lines
whole_by_ends relations k lines le are ends = λ place.
    (are place).1
    ∙ ap (λ places. earliest_end relations places) (sym (line-none_after relations.parents (2 ^ k) (most_spans - 2 ^ k) (Some place) (sym (are place).0 ∙ ends place)))
    ∙ ap (λ n. earliest_end relations (line relations.parents n (Some place))) (power_within k le)

-- or that have as many spans as may be
pub whole_by_count : (relations : PlainRelations) (k : ℕ) (lines : List BoundLine) → k ≡ 16 → AreLines relations (2 ^ k) lines → AreWhole relations lines
whole_by_count relations k lines count are = λ place. (are place).1 ∙ ap (λ n. earliest_end relations (line relations.parents (2 ^ n) (Some place))) count

-- the bound of a span whose parent has one that is known
bound_with : (relations : PlainRelations) (place : ℕ) (parent : Option ℕ) → parent_at relations.parents place ≡ parent → bound relations place ≡ earlier_moment (callers_end relations place) (earliest_end relations (line relations.parents most_spans parent))
bound_with relations place parent is =
    earliest_after relations (callers_end relations place) (ancestors relations.parents place)
    ∙ ap (λ o. earlier_moment (callers_end relations place) (earliest_end relations (line relations.parents most_spans o))) is

pub bound_below : (relations : PlainRelations) (lines : List BoundLine) → AreWhole relations lines → (place parent : ℕ) → parent_at relations.parents place ≡ Some parent → bound relations place ≡ earlier_moment (callers_end relations place) (line_at relations lines parent).bound
bound_below relations lines are place parent is =
    bound_with relations place (Some parent) is
    ∙ ap (λ moment. earlier_moment (callers_end relations place) moment) (sym (are parent))

pub bound_of_root : (relations : PlainRelations) (place : ℕ) → parent_at relations.parents place ≡ None → bound relations place ≡ callers_end relations place
bound_of_root relations place is =
    bound_with relations place None is
    ∙ ap (λ places. earlier_moment (callers_end relations place) (earliest_end relations places)) (no_line relations.parents most_spans)
    ∙ earlier_none (callers_end relations place)
