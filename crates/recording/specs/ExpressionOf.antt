-- The expression that a JSON value is, if it is one.
use Rattle.std.specs.Prelude.{ℕ, zero, suc, List, [], ◌∷◌, codes, Option, Some, None, option_map, option_and_then}
use Rattle.serde_json.specs.Data.{Data, null, number, array, Items, no_items, item}
use Rattle.serde_json.specs.Find.{as_i64, as_u64, as_number, as_str}
use Rattle.act_expr.specs.ExceptionName.{exception_name}
use Rattle.act_expr.specs.Expression.{Expression, literal, argument, binary, conditional, is_null, failed, is_wrapped, cause_is, throw}
use Rattle.act_expr.specs.declared.outcome.Value.TheVariants.{Null, Num as Long}
use Rattle.act_expr.specs.declared.expr.Operator.TheVariants.{Add, Sub, Mul, Div, Lt, Eq}
use Rattle.act_expr.specs.declared.expr.Position.{Position}
use Rattle.act_expr.specs.declared.expr.Position.TheVariants.{First, Second}
use Rattle.recording.specs.Tables.{beside}
use Rattle.recording.specs.declared.expression.Word.{Word}
use Rattle.recording.specs.declared.expression.Word.TheVariants.{Argument, Binary, If, IsNull, Failed, IsWrapped, CauseIs, Throw}

-- the first item of an expression that is an array
abbrev pub words : List (List ℕ × Word)
words =
    (codes "arg", Argument)
    ∷ (codes "add", Binary Add) ∷ (codes "sub", Binary Sub) ∷ (codes "mul", Binary Mul) ∷ (codes "div", Binary Div)
    ∷ (codes "lt", Binary Lt) ∷ (codes "eq", Binary Eq)
    ∷ (codes "if", If) ∷ (codes "isnull", IsNull) ∷ (codes "failed", Failed) ∷ (codes "iswrapped", IsWrapped)
    ∷ (codes "causeis", CauseIs) ∷ (codes "throw", Throw) ∷ []

-- the argument that a number names: 0 or 1
abbrev pub position_of : ℕ → Option Position
position_of zero = Some First
position_of (suc zero) = Some Second
position_of others = None

abbrev pub position_in : Data → Option Position
position_in d = option_and_then position_of (option_and_then as_u64 (as_number d))

abbrev pub exception_in : Data → Option (List ℕ)
exception_in d = option_and_then exception_name (as_str d)

abbrev pub word_in : Data → Option Word
word_in d = option_and_then (beside words) (as_str d)

-- the only element
abbrev pub only : Items → Option Data
only (item d no_items) = Some d
only others = None

-- an expression of exactly this many operands
abbrev pub on_none : Expression → List Expression → Option Expression
on_none f [] = Some f
on_none f others = None

abbrev pub on_one : (Expression → Expression) → List Expression → Option Expression
on_one f (e ∷ []) = Some (f e)
on_one f others = None

abbrev pub on_two : (Expression → Expression → Expression) → List Expression → Option Expression
on_two f (l ∷ r ∷ []) = Some (f l r)
on_two f others = None

abbrev pub on_three : (Expression → Expression → Expression → Expression) → List Expression → Option Expression
on_three f (c ∷ t ∷ e ∷ []) = Some (f c t e)
on_three f others = None

-- what a word makes of the items after it, and of the expressions that these are
abbrev pub form_of : Word → Items → Option (List Expression) → Option Expression
form_of Argument rest operands = option_map argument (option_and_then position_in (only rest))
form_of (Binary op) rest operands = option_and_then (on_two (binary op)) operands
form_of If rest operands = option_and_then (on_three conditional) operands
form_of IsNull rest operands = option_and_then (on_one is_null) operands
form_of Failed rest operands = option_and_then (on_none failed) operands
form_of IsWrapped rest operands = option_and_then (on_none is_wrapped) operands
form_of CauseIs rest operands = option_map cause_is (option_and_then exception_in (only rest))
form_of Throw rest operands = option_map throw (option_and_then exception_in (only rest))

abbrev mutual
  pub expression_of : Data → Option Expression
  expression_of null = Some (literal Null)
  expression_of (number n) = option_map (λ z. literal (Long z)) (as_i64 n)
  expression_of (array ds) = form_in ds
  expression_of others = None

  -- a word and its operands
  pub form_in : Items → Option Expression
  form_in no_items = None
  form_in (item d ds) = option_and_then (λ word. form_of word ds (expressions_of ds)) (word_in d)

  pub expressions_of : Items → Option (List Expression)
  expressions_of no_items = Some []
  expressions_of (item d ds) = option_and_then (λ e. option_map (λ es. e ∷ es) (expressions_of ds)) (expression_of d)
