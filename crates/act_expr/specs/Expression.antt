-- Expressions as plain trees.
use Rattle.std.specs.Prelude.{ℕ, ◌+◌, max, List}
use Rattle.act_expr.specs.declared.outcome.Value.{Value}
use Rattle.act_expr.specs.declared.expr.Operator.{Operator}
use Rattle.act_expr.specs.declared.expr.Position.{Position}

-- an expression: the forms without operands, and the forms that compute values from the values of operands
pub data Expression : Type 0 where
  literal : Value → Expression
  argument : Position → Expression
  binary : Operator → Expression → Expression → Expression
  conditional : Expression → Expression → Expression → Expression
  is_null : Expression → Expression
  failed : Expression
  is_wrapped : Expression
  cause_is : List ℕ → Expression
  throw : List ℕ → Expression

-- how many nodes an expression has
abbrev pub nodes : Expression → ℕ
nodes (literal v) = 1
nodes (argument p) = 1
nodes (binary op l r) = 1 + nodes l + nodes r
nodes (conditional c t e) = 1 + nodes c + nodes t + nodes e
nodes (is_null e) = 1 + nodes e
nodes failed = 1
nodes is_wrapped = 1
nodes (cause_is x) = 1
nodes (throw x) = 1

-- how deeply the forms are nested
abbrev pub depth : Expression → ℕ
depth (literal v) = 1
depth (argument p) = 1
depth (binary op l r) = 1 + max (depth l) (depth r)
depth (conditional c t e) = 1 + max (depth c) (max (depth t) (depth e))
depth (is_null e) = 1 + depth e
depth failed = 1
depth is_wrapped = 1
depth (cause_is x) = 1
depth (throw x) = 1
