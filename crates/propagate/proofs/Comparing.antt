-- Dependents can distinguish two completions exactly if these are not equal.
use Rattle.std.proofs.Common.{◌≡◌, ℕ, ℤ, true, false, ◌&&◌, List, Option, Some, None, refl, ap, sym, ◌∙◌}
use Rattle.std.specs.Prelude.{nat_eq}
use Rattle.std.specs.Option.{option_eq}
use Rattle.std.specs.Bool.{Decides}
use Rattle.std.specs.Cmp.Lexicographic.{pointwise}
use Rattle.std.proofs.lemmas.Bool.{and_parts, and_from, not-false, not_from_true}
use Rattle.std.proofs.lemmas.Bool.Decides.{Decides-eqb, Decides-int_eq}
use Rattle.std.proofs.lemmas.Slice.Eq.{slice_eq-Decides}
use Rattle.act_expr.specs.declared.outcome.Value.{Value}
use Rattle.act_expr.specs.declared.outcome.Value.TheVariants.{Null, Num}
use Rattle.act_expr.specs.declared.outcome.Outcome.{Outcome}
use Rattle.act_expr.specs.declared.outcome.Outcome.TheVariants.{Value as Holds, Bare, Wrapped}
use Rattle.stage_ops.specs.States.{Completion}
use Rattle.propagate.specs.Completions.{same_value, same_outcome, same_completion, differ}

names : (xs ys : List ℕ) → Decides (pointwise nat_eq xs ys) (xs ≡ ys)
names xs ys = slice_eq-Decides Decides-eqb xs ys (pointwise nat_eq xs ys) refl

value_is : (x y : Value) → same_value x y ≡ true → x ≡ y
value_is Null Null h = refl
value_is Null (Num y) h = cc
value_is (Num x) Null h = cc
value_is (Num x) (Num y) h = ap (λ (n : ℤ). Num n) ((Decides-int_eq x y).0 h)

value_self : (x : Value) → same_value x x ≡ true
value_self Null = refl
value_self (Num x) = (Decides-int_eq x x).1 refl

outcome_is : (x y : Outcome) → same_outcome x y ≡ true → x ≡ y
outcome_is (Holds x) (Holds y) h = ap (λ (v : Value). Holds v) (value_is x y h)
outcome_is (Bare x) (Bare y) h = ap (λ (n : List ℕ). Bare n) ((names x y).0 h)
outcome_is (Wrapped x) (Wrapped y) h = ap (λ (n : List ℕ). Wrapped n) ((names x y).0 h)
outcome_is (Holds x) (Bare y) h = cc
outcome_is (Holds x) (Wrapped y) h = cc
outcome_is (Bare x) (Holds y) h = cc
outcome_is (Bare x) (Wrapped y) h = cc
outcome_is (Wrapped x) (Holds y) h = cc
outcome_is (Wrapped x) (Bare y) h = cc

outcome_self : (x : Outcome) → same_outcome x x ≡ true
outcome_self (Holds x) = value_self x
outcome_self (Bare x) = (names x x).1 refl
outcome_self (Wrapped x) = (names x x).1 refl

place_is : (x y : Option ℕ) → option_eq nat_eq x y ≡ true → x ≡ y
place_is None None h = refl
place_is None (Some y) h = cc
place_is (Some x) None h = cc
place_is (Some x) (Some y) h = ap (λ (n : ℕ). Some n) ((Decides-eqb x y).0 h)

place_self : (x : Option ℕ) → option_eq nat_eq x x ≡ true
place_self None = refl
place_self (Some x) = (Decides-eqb x x).1 refl

completion_is : (x y : Completion) → same_completion x y ≡ true → x ≡ y
completion_is x y h =
    let outer = and_parts (same_outcome x.outcome y.outcome) (nat_eq x.moment y.moment && option_eq nat_eq x.from y.from) h in
    let inner = and_parts (nat_eq x.moment y.moment) (option_eq nat_eq x.from y.from) outer.1 in
    let outcome = outcome_is x.outcome y.outcome outer.0 in
    let moment = (Decides-eqb x.moment y.moment).0 inner.0 in
    let from = place_is x.from y.from inner.1 in
    λ i. record { outcome = outcome i; moment = moment i; from = from i }

completion_self : (x : Completion) → same_completion x x ≡ true
completion_self x =
    and_from (same_outcome x.outcome x.outcome) (nat_eq x.moment x.moment && option_eq nat_eq x.from x.from) (outcome_self x.outcome)
    (and_from (nat_eq x.moment x.moment) (option_eq nat_eq x.from x.from) ((Decides-eqb x.moment x.moment).1 refl) (place_self x.from))

seen_is : (x y : Option Completion) → option_eq same_completion x y ≡ true → x ≡ y
seen_is None None h = refl
seen_is None (Some y) h = cc
seen_is (Some x) None h = cc
seen_is (Some x) (Some y) h = ap (λ (n : Completion). Some n) (completion_is x y h)

seen_self : (x : Option Completion) → option_eq same_completion x x ≡ true
seen_self None = refl
seen_self (Some x) = completion_self x

-- where the test finds no difference, there is none
pub same_from_differ : (before after : Option Completion) → differ before after ≡ false → before ≡ after
same_from_differ before after h = seen_is before after (not-false (option_eq same_completion before after) h)

pub differ_from_same : (before after : Option Completion) → before ≡ after → differ before after ≡ false
differ_from_same before after e = ap (λ x. differ before x) (sym e) ∙ not_from_true (option_eq same_completion before before) (seen_self before)
