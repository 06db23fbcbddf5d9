-- Outcomes as texts.
use Rattle.std.specs.Prelude.{ℕ, List, ◌++◌, codes}
use Rattle.std.specs.Fmt.{signed_decimal}
use Rattle.act_expr.specs.declared.outcome.Value.{Value}
use Rattle.act_expr.specs.declared.outcome.Value.TheVariants.{Null, Num}
use Rattle.act_expr.specs.declared.outcome.Outcome.{Outcome}
use Rattle.act_expr.specs.declared.outcome.Outcome.TheVariants as outcome

-- `null`, or the number in decimal digits
abbrev pub value_text : Value → List ℕ
value_text Null = codes "null"
value_text (Num z) = signed_decimal z

-- the outcome's kind, and its value or its exception's name
abbrev pub outcome_text : Outcome → List ℕ
outcome_text (outcome.Value value) = codes "value:" ++ value_text value
outcome_text (outcome.Bare name) = codes "bare:" ++ name
outcome_text (outcome.Wrapped name) = codes "wrapped:" ++ name
