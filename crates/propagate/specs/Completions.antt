-- Whether dependents can distinguish two completions.
use Rattle.std.specs.Prelude.{ℕ, Bool, true, false, not, ◌&&◌, nat_eq, Option, None}
use Rattle.std.specs.Ordering.{int_eq}
use Rattle.std.specs.Option.{option_eq}
use Rattle.std.specs.Cmp.Lexicographic.{pointwise}
use Rattle.act_expr.specs.declared.outcome.Value.{Value}
use Rattle.act_expr.specs.declared.outcome.Value.TheVariants.{Null, Num}
use Rattle.act_expr.specs.declared.outcome.Outcome.{Outcome}
use Rattle.act_expr.specs.declared.outcome.Outcome.TheVariants.{Value as Holds, Bare, Wrapped}
use Rattle.stage_ops.specs.States.{Completion}

abbrev pub same_value : Value → Value → Bool
same_value Null Null = true
same_value Null (Num other) = false
same_value (Num number) Null = false
same_value (Num number) (Num other) = int_eq number other

abbrev pub same_outcome : Outcome → Outcome → Bool
same_outcome (Holds value) (Holds other) = same_value value other
same_outcome (Bare name) (Bare other) = pointwise nat_eq name other
same_outcome (Wrapped name) (Wrapped other) = pointwise nat_eq name other
same_outcome (Holds value) (Bare other) = false
same_outcome (Holds value) (Wrapped other) = false
same_outcome (Bare name) (Holds other) = false
same_outcome (Bare name) (Wrapped other) = false
same_outcome (Wrapped name) (Holds other) = false
same_outcome (Wrapped name) (Bare other) = false

-- with a value, for which no source is blamed
abbrev pub returned : Value → ℕ → Completion
returned value moment = record { outcome = Holds value; moment = moment; from = None }

-- of one outcome, one moment and one blamed source
abbrev pub same_completion : Completion → Completion → Bool
same_completion one other = same_outcome one.outcome other.outcome && (nat_eq one.moment other.moment && option_eq nat_eq one.from other.from)

-- exactly one is pending, or the completions differ
abbrev pub differ : Option Completion → Option Completion → Bool
differ before after = not (option_eq same_completion before after)
