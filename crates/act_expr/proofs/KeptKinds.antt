-- What an expression comes to of whose form something is kept.
use Rattle.std.proofs.Common.{◌≡◌, ℤ, refl, arith}
use Rattle.std.proofs.lemmas.Grind.{common_steps}
use Rattle.act_expr.specs.declared.outcome.Value.TheVariants as value
use Rattle.act_expr.specs.declared.expr.Args.{Args}
use Rattle.act_expr.specs.declared.expr.Answer.TheVariants.{Gives}
use Rattle.act_expr.specs.declared.expr.Operator.{Operator}
use Rattle.act_expr.specs.declared.expr.Operand.{Operand}
use Rattle.act_expr.specs.declared.expr.Operand.TheVariants as operand
use Rattle.act_expr.specs.declared.expr.Kept.{Kept}
use Rattle.act_expr.specs.declared.expr.Kept.TheVariants as kept
use Rattle.act_expr.specs.declared.expr.Position.TheVariants.{First, Second}
use Rattle.act_expr.specs.Expression.{Expression, literal, argument, binary}
use Rattle.act_expr.specs.Forms.{kept_of, kept_on, number_of, number_on, value_kept}
use Rattle.act_expr.specs.Meaning.{meaning, on_values}

-- no operator is kept as a literal or an argument
apart : (op : Operator) (l r : Kept) (of : Operand) → kept_on op l r ≡ kept.Operand of → ⊥
apart op l r of is = grind (arith, common_steps)

-- an operator of which something is kept, and its operands
operator_is : (given op : Operator) (l r : Kept) (left right : Operand) → kept_on given l r ≡ kept.Operation op left right → given ≡ op
operator_is given op l r left right is = grind (arith, common_steps)

left_is : (given op : Operator) (l r : Kept) (left right : Operand) → kept_on given l r ≡ kept.Operation op left right → l ≡ kept.Operand left
left_is given op l r left right is = grind (arith, common_steps)

right_is : (given op : Operator) (l r : Kept) (left right : Operand) → kept_on given l r ≡ kept.Operation op left right → r ≡ kept.Operand right
right_is given op l r left right is = grind (arith, common_steps)

-- the one number is that of either operand, if that is a number
number_left : (l : Kept) (left : Operand) (a b : ℤ) (args : Args) → l ≡ kept.Operand left → value_kept left (number_on l a b) args ≡ value_kept left a args
number_left l operand.Null a b args is = refl
number_left l operand.Number a b args is = rw is refl
number_left l operand.First a b args is = refl
number_left l operand.Second a b args is = refl

number_right : (given op : Operator) (l r : Kept) (left right : Operand) (a b : ℤ) (args : Args)
    → l ≡ kept.Operand left → r ≡ kept.Operand right → kept_on given l r ≡ kept.Operation op left right
    → value_kept right (number_on l a b) args ≡ value_kept right b args
number_right given op l r left operand.Null a b args here there is = refl
number_right given op l r left operand.First a b args here there is = refl
number_right given op l r left operand.Second a b args here there is = refl
number_right given op l r operand.Number operand.Number a b args here there is = grind (arith, common_steps)
number_right given op l r operand.Null operand.Number a b args here there is = rw here refl
number_right given op l r operand.First operand.Number a b args here there is = rw here refl
number_right given op l r operand.Second operand.Number a b args here there is = rw here refl

operand_is : (e : Expression) (of : Operand) (args : Args) → kept_of e ≡ kept.Operand of → meaning e args ≡ Gives (value_kept of (number_of e) args)
operand_is (binary op l r) of args is = absurd (apart op (kept_of l) (kept_of r) of is)
operand_is (literal value.Null) of args is = grind (arith, common_steps)
operand_is (literal (value.Num z)) of args is = grind (arith, common_steps)
operand_is (argument First) of args is = grind (arith, common_steps)
operand_is (argument Second) of args is = grind (arith, common_steps)
operand_is e of args is = grind (arith, common_steps)

pub operation_is : (e : Expression) (op : Operator) (left right : Operand) (args : Args) → kept_of e ≡ kept.Operation op left right
    → meaning e args ≡ on_values op (value_kept left (number_of e) args) (value_kept right (number_of e) args)
operation_is (binary given l r) op left right args is =
    let same = operator_is given op (kept_of l) (kept_of r) left right is in
    let here = left_is given op (kept_of l) (kept_of r) left right is in
    let there = right_is given op (kept_of l) (kept_of r) left right is in
    let first = number_left (kept_of l) left (number_of l) (number_of r) args here in
    let second = number_right given op (kept_of l) (kept_of r) left right (number_of l) (number_of r) args here there is in
    rw (operand_is l left args here, operand_is r right args there, first, second, same) refl
operation_is e op left right args is = grind (arith, common_steps)
