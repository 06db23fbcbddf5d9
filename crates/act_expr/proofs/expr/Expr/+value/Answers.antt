use Rattle.std.proofs.Common.{◌≡◌, sym, ◌∙◌, rules}
use Rattle.act_expr.specs.declared.expr.Kept.TheVariants.{Operation}
use Rattle.act_expr.specs.declared.expr.Operand.TheVariants.{First, Second, Number}
use Rattle.act_expr.specs.Forms.{tree, kept_of, value_kept}
use Rattle.act_expr.specs.Meaning.{meaning, on_values}
use Rattle.act_expr.proofs.KeptKinds.{operation_is}
use Rattle.act_expr.proofs.expr.Expr.+value.Goals as goal

pub value-returns-in-Operation-default-First-Number :
    goal.value-returns-in-Operation-default-First-Number
value-returns-in-Operation-default-First-Number t c =
    let (levels, forms, kept, number, made) = c.self.invariant in
    let op = c.in-Operation-default-First-Number.operator in
    let args = c.args.args.now in
    let is : kept_of (tree c.self.inside.node.value.form) ≡ Operation op First Number =
    search (rules, c.in-Operation-default-First-Number.is, c.in-Operation-default-First-Number.field-1-is, c.in-Operation-default-First-Number.field-2-is, kept) in
    let known : meaning (tree c.self.inside.node.value.form) args ≡ on_values op (value_kept First c.self.inside.number args) (value_kept Number c.self.inside.number args) =
    rw number (operation_is (tree c.self.inside.node.value.form) op First Number args is) in
    rw (← c.self.view_is, known) (search (rules, c.on_values.ensures))

pub value-returns-in-Operation-default-First-Second :
    goal.value-returns-in-Operation-default-First-Second
value-returns-in-Operation-default-First-Second t c =
    let (levels, forms, kept, number, made) = c.self.invariant in
    let op = c.in-Operation-default-First-Second.operator in
    let args = c.args.args.now in
    let is : kept_of (tree c.self.inside.node.value.form) ≡ Operation op First Second =
    search (rules, c.in-Operation-default-First-Second.is, c.in-Operation-default-First-Second.field-1-is, c.in-Operation-default-First-Second.field-2-is, kept) in
    rw (← c.self.view_is, operation_is (tree c.self.inside.node.value.form) op First Second args is) (search (rules, c.on_values-in-Operation-default-First-Second.ensures))

pub value-returns-in-Operation : goal.value-returns-in-Operation
value-returns-in-Operation t c =
    let (levels, forms, kept, number, made) = c.self.invariant in
    let op = c.in-Operation.operator in
    let left = c.in-Operation.left in
    let right = c.in-Operation.right in
    let args = c.args.args.now in
    let is : kept_of (tree c.self.inside.node.value.form) ≡ Operation op left right = sym kept ∙ c.in-Operation.is in
    let known : meaning (tree c.self.inside.node.value.form) args ≡ on_values op (value_kept left c.self.inside.number args) (value_kept right c.self.inside.number args) =
    rw number (operation_is (tree c.self.inside.node.value.form) op left right args is) in
    rw (← c.self.view_is, known) (search (rules, c.on_values-in-Operation.ensures, c.value-first.ensures, c.value-second.ensures))
