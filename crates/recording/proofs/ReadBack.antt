-- Reading the JSON value of an expression gives the expression back.
use Rattle.std.proofs.Common.{◌≡◌, ℤ, pos, negsuc, Some, refl, arith, rules, w64, FitsSigned}
use Rattle.serde_json.specs.Find.{as_i64, of_integer}
use Rattle.act_expr.specs.Expression.{literal, argument, binary, conditional, is_null, failed, is_wrapped, cause_is, throw}
use Rattle.act_expr.specs.declared.outcome.Value.TheVariants.{Null, Num as Long}
use Rattle.act_expr.specs.declared.expr.Operator.TheVariants.{Add, Sub, Mul, Div, Lt, Eq}
use Rattle.act_expr.specs.declared.expr.Position.TheVariants.{First, Second}
use Rattle.recording.specs.Written.{EachIsReadBack}

pub number_read_back : (z : ℤ) → FitsSigned w64 z → as_i64 (of_integer z) ≡ Some z
number_read_back (pos n) h = grind arith
number_read_back (negsuc n) h = refl

pub each_is_read_back : EachIsReadBack
each_is_read_back (literal Null) h = refl
each_is_read_back (literal (Long z)) h = rw (number_read_back z h) refl
each_is_read_back (argument First) h = refl
each_is_read_back (argument Second) h = refl
each_is_read_back (binary Add l r) h = rw (each_is_read_back l h.0, each_is_read_back r h.1) refl
each_is_read_back (binary Sub l r) h = rw (each_is_read_back l h.0, each_is_read_back r h.1) refl
each_is_read_back (binary Mul l r) h = rw (each_is_read_back l h.0, each_is_read_back r h.1) refl
each_is_read_back (binary Div l r) h = rw (each_is_read_back l h.0, each_is_read_back r h.1) refl
each_is_read_back (binary Lt l r) h = rw (each_is_read_back l h.0, each_is_read_back r h.1) refl
each_is_read_back (binary Eq l r) h = rw (each_is_read_back l h.0, each_is_read_back r h.1) refl
each_is_read_back (conditional c t e) h = rw (each_is_read_back c h.0, each_is_read_back t h.1, each_is_read_back e h.2) refl
each_is_read_back (is_null e) h = rw (each_is_read_back e h) refl
each_is_read_back failed h = refl
each_is_read_back is_wrapped h = refl
each_is_read_back (cause_is x) h = search rules
each_is_read_back (throw x) h = search rules
