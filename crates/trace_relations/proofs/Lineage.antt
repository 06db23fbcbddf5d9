-- Lines of ancestors, one after the other.
use Rattle.std.proofs.Common.{◌≡◌, ℕ, suc, zero, ◌+◌, List, [], ◌∷◌, ◌++◌, Bool, true, false, Option, Some, None, refl, sym, ap, ◌∙◌, arith, zero-add}
use Rattle.std.specs.Prelude.{◌&&◌, ◌||◌, ◌==◌, nat_lt}
use Rattle.std.proofs.lemmas.Bool.{false≢true}
use Rattle.std.proofs.lemmas.Bool.Decides.{nat_tests}
use Rattle.std.proofs.lemmas.List.{append-nil}
use Rattle.trace_relations.specs.declared.ancestry.Line.{Line}
use Rattle.trace_relations.specs.declared.moment.Interval.{Interval}
use Rattle.trace_relations.specs.Ancestry.{comes_first, first_among, first_of, first_with, line, parent_at, start_at}
use Rattle.trace_relations.specs.Lines.{AreLines, after_line, followed_by, line_at, line_of_one, line_of_two}

abbrev pub is_first : ℕ → ℕ → ℕ → ℕ → Bool
is_first a b x y = nat_lt a b || (a == b && nat_lt x y)

first_on : (a b c x y z : ℕ) → is_first a b x y ≡ true → is_first b c y z ≡ true → is_first a c x z ≡ true
first_on a b c x y z p q = grind (arith, nat_tests)

first_over : (a b c x y z : ℕ) → is_first c a z x ≡ true → is_first b a y x ≡ false → is_first c b z y ≡ true
first_over a b c x y z p q = grind (arith, nat_tests)

pub none_after : (parents : List (Option ℕ)) (n : ℕ) → after_line parents n None ≡ None
unfolding after_line
none_after parents zero = refl
none_after parents (suc n) = refl

pub no_line : (parents : List (Option ℕ)) (n : ℕ) → line parents n None ≡ []
unfolding line
no_line parents zero = refl
no_line parents (suc n) = refl

suc_sum : (m n : ℕ) → suc m + n ≡ suc (m + n)
suc_sum m n = omega arith

after-add : (parents : List (Option ℕ)) (m n : ℕ) (first : Option ℕ) → after_line parents (m + n) first ≡ after_line parents n (after_line parents m first)
unfolding after_line
after-add parents zero n first = ap (λ k. after_line parents k first) (zero-add n)
after-add parents (suc m) n None = none_after parents (suc m + n) ∙ sym (none_after parents n)
after-add parents (suc m) n (Some place) = ap (λ k. after_line parents k (Some place)) (suc_sum m n) ∙ after-add parents m n (parent_at parents place)

pub line-add : (parents : List (Option ℕ)) (m n : ℕ) (first : Option ℕ) → line parents (m + n) first ≡ line parents m first ++ line parents n (after_line parents m first)
unfolding after_line line
line-add parents zero n first = ap (λ k. line parents k first) (zero-add n)
line-add parents (suc m) n None = no_line parents (suc m + n) ∙ sym (no_line parents n)
line-add parents (suc m) n (Some place) = ap (λ k. line parents k (Some place)) (suc_sum m n) ∙ ap (λ others. place ∷ others) (line-add parents m n (parent_at parents place))

-- where a line has all ancestors, a longer one has no more
pub line-none_after : (parents : List (Option ℕ)) (m n : ℕ) (first : Option ℕ) → after_line parents m first ≡ None → line parents (m + n) first ≡ line parents m first
line-none_after parents m n first e =
    line-add parents m n first
    ∙ ap (λ o. line parents m first ++ line parents n o) e
    ∙ ap (λ others. line parents m first ++ others) (no_line parents n)
    ∙ append-nil (line parents m first)

-- nor does anything come after that
pub after-none_after : (parents : List (Option ℕ)) (m n : ℕ) (first : Option ℕ) → after_line parents m first ≡ None → after_line parents (m + n) first ≡ None
after-none_after parents m n first e = after-add parents m n first ∙ ap (λ o. after_line parents n o) e ∙ none_after parents n

comes_first_on : (intervals : List Interval) (x y z : ℕ) → comes_first intervals x y ≡ true → comes_first intervals y z ≡ true → comes_first intervals x z ≡ true
comes_first_on intervals x y z = first_on (start_at intervals x) (start_at intervals y) (start_at intervals z) x y z

comes_first_over : (intervals : List Interval) (x y z : ℕ) → comes_first intervals z x ≡ true → comes_first intervals y x ≡ false → comes_first intervals z y ≡ true
comes_first_over intervals x y z = first_over (start_at intervals x) (start_at intervals y) (start_at intervals z) x y z

-- the first of the first two and the first of the last two are one
first_of_three : (intervals : List Interval) (x y z : ℕ) (zy yx zx : Bool) → comes_first intervals z y ≡ zy → comes_first intervals y x ≡ yx → comes_first intervals z x ≡ zx → first_of intervals x (first_of intervals y z) ≡ first_of intervals (first_of intervals x y) z
first_of_three intervals x y z true true true p q r = rw (p, q) (rw (r, p) refl)
first_of_three intervals x y z true true false p q r = absurd (false≢true (sym r ∙ comes_first_on intervals z y x p q))
first_of_three intervals x y z true false zx p q r = rw (p, q) refl
first_of_three intervals x y z false true zx p q r = rw (p, q) (rw p refl)
first_of_three intervals x y z false false true p q r = absurd (false≢true (sym p ∙ comes_first_over intervals x y z r q))
first_of_three intervals x y z false false false p q r = rw (p, q) (rw r refl)

abbrev first_either : List Interval → Option ℕ → Option ℕ → Option ℕ
first_either intervals None other = other
first_either intervals (Some place) other = Some (first_with intervals place other)

first_three : (intervals : List Interval) (x : ℕ) (first second : Option ℕ) → first_with intervals x (first_either intervals first second) ≡ first_with intervals (first_with intervals x first) second
first_three intervals x None second = refl
first_three intervals x (Some y) None = refl
first_three intervals x (Some y) (Some z) = first_of_three intervals x y z _ _ _ refl refl refl

first_among-append : (intervals : List Interval) (xs ys : List ℕ) → first_among intervals (xs ++ ys) ≡ first_either intervals (first_among intervals xs) (first_among intervals ys)
first_among-append intervals [] ys = refl
first_among-append intervals (x ∷ xs) ys = ap (λ o. Some (first_with intervals x o)) (first_among-append intervals xs ys) ∙ ap Some (first_three intervals x (first_among intervals xs) (first_among intervals ys))

-- the line after a line
next_line : (intervals : List Interval) (parents : List (Option ℕ)) (n : ℕ) (lines : List Line) → AreLines intervals parents n lines → (line_here : Line) (places : List ℕ) → Some line_here.first ≡ first_among intervals places → (next : Option ℕ) → ((followed_by intervals lines (record line_here { after = next }) next).after ≡ after_line parents n next) × (Some (followed_by intervals lines (record line_here { after = next }) next).first ≡ first_among intervals (places ++ line parents n next))
next_line intervals parents n lines are line_here places first None = (
  sym (none_after parents n),
  first ∙ ap (λ others. first_among intervals others) (sym (append-nil places) ∙ ap (λ others. places ++ others) (sym (no_line parents n))),
)
next_line intervals parents n lines are line_here places first (Some next) = (
  (are next).0,
  ap (λ o. Some (first_with intervals line_here.first o)) (are next).1
      ∙ ap (λ o. first_either intervals o (first_among intervals (line parents n (Some next)))) first
      ∙ sym (first_among-append intervals places (line parents n (Some next))),
)

-- a line and the next make one of twice as many
pub doubled_lines : (intervals : List Interval) (parents : List (Option ℕ)) (n : ℕ) (lines more : List Line) → AreLines intervals parents n lines → ((place : ℕ) → line_at more place ≡ line_of_two intervals lines place) → AreLines intervals parents (n + n) more
doubled_lines intervals parents n lines more are is = λ place.
    let here = line_at lines place in
    let next = next_line intervals parents n lines are here (line parents n (Some place)) (are place).1 here.after in (
      ap (λ l. l.after) (is place) ∙ next.0 ∙ ap (λ o. after_line parents n o) (are place).0 ∙ sym (after-add parents n n (Some place)),
      ap (λ l. Some l.first) (is place) ∙ next.1 ∙ ap (λ o. first_among intervals (line parents n (Some place) ++ line parents n o)) (are place).0 ∙ ap (λ places. first_among intervals places) (sym (line-add parents n n (Some place))),
    )

-- lines of one span
pub lines_of_one : (intervals : List Interval) (parents : List (Option ℕ)) (lines : List Line) → ((place : ℕ) → line_at lines place ≡ line_of_one parents place) → AreLines intervals parents 1 lines
unfolding line after_line
lines_of_one intervals parents lines is = λ place. (ap (λ l. l.after) (is place), ap (λ l. Some l.first) (is place))
