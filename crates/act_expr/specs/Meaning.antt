-- The meaning of an expression: the value that it gives or the exception that it throws, for the arguments of its action.
use Rattle.std.specs.Prelude.{ℕ, ℤ, pos, negsuc, ◌+ℤ◌, ◌-ℤ◌, ◌*ℤ◌, List, Bool, true, false, nat_lt, nat_eq, int_lt, if◌then◌else◌, Option, Some, None, Result, Ok, Err, ⊤}
use Rattle.std.specs.Int.{w64, int_wrap}
use Rattle.std.specs.Int.RustNames.{int_div}
use Rattle.std.specs.Cmp.Lexicographic.{pointwise}
use Rattle.act_expr.specs.declared.outcome.Value.{Value}
use Rattle.act_expr.specs.declared.outcome.Value.TheVariants.{Null, Num}
use Rattle.act_expr.specs.declared.expr.Operator.{Operator}
use Rattle.act_expr.specs.declared.expr.Operator.TheVariants.{Add, Sub, Mul, Div, Lt, Eq}
use Rattle.act_expr.specs.declared.expr.Position.{Position}
use Rattle.act_expr.specs.declared.expr.Position.TheVariants.{First, Second}
use Rattle.act_expr.specs.declared.expr.Failure.{Failure}
use Rattle.act_expr.specs.declared.expr.Args.{Args}
use Rattle.act_expr.specs.declared.expr.Answer.{Answer}
use Rattle.act_expr.specs.declared.expr.Answer.TheVariants.{Gives, Throws}
use Rattle.act_expr.specs.declared.expr.ExprFault.{ExprFault}
use Rattle.act_expr.specs.declared.expr.ExprFault.TheVariants.{TooDeep, TooLarge}
use Rattle.act_expr.specs.ExceptionName.{null_pointer, arithmetic}
use Rattle.act_expr.specs.Expression.{Expression, literal, argument, binary, conditional, is_null, failed, is_wrapped, cause_is, throw, depth, nodes}

-- a whole number wrapped to the 64 bits of a `long`
abbrev pub as_long : ℤ → ℤ
as_long z = int_wrap w64 z

-- 1 if the test holds, else 0
abbrev pub truth : Bool → Value
truth b = if b then Num (pos 1) else Num (pos 0)

-- whether two whole numbers are equal
abbrev pub int_eq : ℤ → ℤ → Bool
int_eq (pos a) (pos b) = nat_eq a b
int_eq (pos a) (negsuc b) = false
int_eq (negsuc a) (pos b) = false
int_eq (negsuc a) (negsuc b) = nat_eq a b

-- what comes after an answer: nothing after a throw
abbrev pub then_on : Answer → (Value → Answer) → Answer
then_on (Gives v) next = next v
then_on (Throws x) next = Throws x

-- the quotient of two numbers, truncated toward zero
abbrev pub quotient : ℤ → ℤ → Answer
quotient a b = if int_eq b (pos 0) then Throws arithmetic else Gives (Num (as_long (int_div a b)))

-- an operator on two numbers, by the arithmetic of `long`
abbrev pub on_numbers : Operator → ℤ → ℤ → Answer
on_numbers Add a b = Gives (Num (as_long (a +ℤ b)))
on_numbers Sub a b = Gives (Num (as_long (a -ℤ b)))
on_numbers Mul a b = Gives (Num (as_long (a *ℤ b)))
on_numbers Div a b = quotient a b
on_numbers Lt a b = Gives (truth (int_lt a b))
on_numbers Eq a b = Gives (truth (int_eq a b))

-- an operator on two values: neither may be null
abbrev pub on_values : Operator → Value → Value → Answer
on_values op Null b = Throws null_pointer
on_values op (Num a) Null = Throws null_pointer
on_values op (Num a) (Num b) = on_numbers op a b

-- the first branch if the condition is not 0, else the second
abbrev pub branch : Value → Answer → Answer → Answer
branch Null first second = Throws null_pointer
branch (Num z) first second = if int_eq z (pos 0) then second else first

-- whether a value is null
abbrev pub is_null_value : Value → Bool
is_null_value Null = true
is_null_value (Num z) = false

-- the argument at a position
abbrev pub value_at : Position → Args → Value
value_at First args = args.first
value_at Second args = args.second

-- whether an exception was handed over
abbrev pub has_failed : Option Failure → Bool
has_failed None = false
has_failed (Some f) = true

-- whether it was handed over as the cause of the wrapper
abbrev pub has_wrapper : Option Failure → Bool
has_wrapper None = false
has_wrapper (Some f) = f.wrapped

-- whether it has this name, wrapped or not
abbrev pub has_cause : List ℕ → Option Failure → Bool
has_cause x None = false
has_cause x (Some f) = pointwise nat_eq f.name x

-- operands are evaluated from left to right, and the first throw is the answer
abbrev pub meaning : Expression → Args → Answer
meaning (literal v) args = Gives v
meaning (argument p) args = Gives (value_at p args)
meaning (binary op l r) args = then_on (meaning l args) (λ a. then_on (meaning r args) (λ b. on_values op a b))
meaning (conditional c t e) args = then_on (meaning c args) (λ v. branch v (meaning t args) (meaning e args))
meaning (is_null e) args = then_on (meaning e args) (λ v. Gives (truth (is_null_value v)))
meaning failed args = Gives (truth (has_failed args.failure))
meaning is_wrapped args = Gives (truth (has_wrapper args.failure))
meaning (cause_is x) args = Gives (truth (has_cause x args.failure))
meaning (throw x) args = Throws x

-- how an expression is refused: too deep, or else too large
abbrev pub check : Expression → Result ⊤ ExprFault
check e = if nat_lt 32 (depth e) then Err TooDeep else (if nat_lt 256 (nodes e) then Err TooLarge else Ok tt)

-- the numbers of the refusals
abbrev pub fault_number : ExprFault → ℕ
fault_number TooDeep = 1
fault_number TooLarge = 2
