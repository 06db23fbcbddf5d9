-- What is thrown where an expression has no value.
use Rattle.std.specs.Prelude.{ℕ, List, Result, Ok, Err}
use Rattle.act_expr.specs.declared.outcome.Value.{Value}
use Rattle.act_expr.specs.declared.expr.Answer.{Answer}
use Rattle.act_expr.specs.declared.expr.Answer.TheVariants.{Gives, Throws}
use Rattle.act_expr.specs.declared.expr.Thrown.{Thrown}
use Rattle.act_expr.specs.declared.expr.Thrown.TheVariants.{NullPointer, Arithmetic, Named}
use Rattle.act_expr.specs.ExceptionName.{null_pointer, arithmetic}

-- the name of the exception
abbrev pub name_of : Thrown → List ℕ
name_of NullPointer = null_pointer
name_of Arithmetic = arithmetic
name_of (Named name) = name.now

-- the answer that a value or what is thrown is
abbrev pub as_answer : Result Value Thrown → Answer
as_answer (Ok v) = Gives v
as_answer (Err thrown) = Throws (name_of thrown)
