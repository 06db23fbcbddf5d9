-- Actions that are made once.
use Rattle.std.specs.Prelude.{◌≡◌, codes, pos}
use Rattle.act_expr.specs.Expression.{literal, throw}
use Rattle.act_expr.specs.declared.outcome.Value.TheVariants.{Null, Num}
use Rattle.trace_import.specs.declared.actions.Actions.{Actions}

-- null, the number of the first inner stage, and the throw of the exception of a span that tells none
pub record AreActions (actions : Actions) : Type 0 where
  pub null : actions.null ≡ literal Null
  pub first : actions.first ≡ literal (Num (pos 0))
  pub failed : actions.failed ≡ throw (codes "SpanFailed")
